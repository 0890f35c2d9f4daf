-- The references in the linked files of a pool name their definitions.
use Rattle.std.specs.Prelude.{◌≡◌, ℕ, List, [], ◌∷◌, IsSome, IsSomeAnd, slice_get}
use Rattle.std.specs.FinMap as finite
use Rattle.std.specs.List.{AllByRecursion, AllZip}
use Rattle.proto_types.specs.Readers.{text_of}
use Rattle.proto_types.specs.declared.message.DescriptorProto.{out-DescriptorProto}
use Rattle.proto_types.specs.declared.records.field.FieldDescriptorProto.{FieldDescriptorProto}
use Rattle.proto_types.specs.declared.records.service.MethodDescriptorProto.{MethodDescriptorProto}
use Rattle.pool_types.specs.Contents.{ByText, Contents, files_of}
use Rattle.pool_types.specs.declared.kinds.KindIndex.{KindIndex}
use Rattle.pool_types.specs.declared.kinds.KindIndex.TheVariants as index
use Rattle.pool_types.specs.declared.contents.definition.Definition.{Definition}
use Rattle.pool_types.specs.declared.contents.definition.DefinitionKind.{DefinitionKind}
use Rattle.pool_types.specs.declared.contents.definition.DefinitionKind.TheVariants as definition
use Rattle.pool_types.specs.declared.contents.extension.ExtensionDescriptorInner.{ExtensionDescriptorInner}
use Rattle.pool_types.specs.declared.contents.field.FieldDescriptorInner.{FieldDescriptorInner}
use Rattle.pool_types.specs.declared.contents.service.MethodDescriptorInner.{MethodDescriptorInner}
use Rattle.record_lists.specs.Reference.{Reference, references}
use Rattle.record_walk.specs.Counts.{no_counts}
use Rattle.record_walk.specs.Declarations.{declarations}
use Rattle.record_walk.specs.Protos.{of_message, of_service, of_extension}
use Rattle.record_walk.specs.Shown.{Shown}

-- a reference is a dot and a full name that the pool has
abbrev pub NamesDefinition : Contents → Reference → Type 0
NamesDefinition p r = (name : List ℕ) × (r.text ≡ 46 ∷ name) × IsSome (finite.get p.names name)

-- each reference of the pool's files is a dot and a full name that the pool has
abbrev pub AllResolved : Contents → Type 0
AllResolved p = AllByRecursion (NamesDefinition p) (references (files_of p))

-- a text is a dot and a name that means a definition of a kind, with its index
abbrev pub NamesKind : ByText Definition → DefinitionKind → List ℕ → Type 0
NamesKind names kind text = (name : List ℕ) × (text ≡ 46 ∷ name)
    × IsSomeAnd (finite.get names name) (λ def. def.kind ≡ kind)

-- a type name names the message or the enum that a type is, and is empty where it is neither
abbrev pub NamesType : ByText Definition → KindIndex → List ℕ → Type 0
NamesType names (index.Message n) text = NamesKind names (definition.Message n) text
NamesType names (index.Group n) text = NamesKind names (definition.Message n) text
NamesType names (index.Enum n) text = NamesKind names (definition.Enum n) text
NamesType names _ text = text ≡ []

-- the type name of a field names the type of its item
abbrev pub FieldNames : ByText Definition → FieldDescriptorInner → FieldDescriptorProto → Type 0
FieldNames names item f = NamesType names item.kind (text_of f.type_name)

-- the input and the output of a method name the messages that its item holds
pub record MethodNames (names : ByText Definition) (item : MethodDescriptorInner)
    (m : MethodDescriptorProto) : Type 0 where
  pub input : NamesKind names (definition.Message item.input) (text_of m.input_type)
  pub output : NamesKind names (definition.Message item.output) (text_of m.output_type)

-- the extendee and the type name of an extension name the message and the type that its item holds
pub record ExtensionNames (names : ByText Definition) (item : ExtensionDescriptorInner)
    (x : FieldDescriptorProto) : Type 0 where
  pub extendee : NamesKind names (definition.Message item.extendee) (text_of x.extendee)
  pub type_ : NamesType names item.kind (text_of x.type_name)

-- a declaration names what its item holds: the fields of a message and the methods of a service,
-- place by place, and an extension
abbrev pub NamesOwn : Contents → Shown → Type 0
NamesOwn p d = elim d.proto [
  | of_message m ↦ IsSomeAnd (slice_get p.messages d.index)
      (λ item. AllZip (FieldNames p.names) item.fields (out-DescriptorProto m).field)
  | of_service v ↦ IsSomeAnd (slice_get p.services d.index)
      (λ item. AllZip (MethodNames p.names) item.methods v.method)
  | of_extension x ↦ IsSomeAnd (slice_get p.extensions d.index)
      (λ item. ExtensionNames p.names item x)
  | _ ↦ Unit {0}
]

-- each declaration of the pool's files names what its item holds
abbrev pub AllNamed : Contents → Type 0
AllNamed p = AllByRecursion (NamesOwn p) (declarations no_counts (files_of p))
