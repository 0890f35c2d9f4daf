-- Linking leaves whole files whole.
use Rattle.std.proofs.Common.{◌≡◌, ℕ, ℤ, pos, cond, IfSome, Option, None, Some, List, [], ◌∷◌, length, sym, subst, true, false, lit<}
use Rattle.std.specs.List.{AllByRecursion, filter}
use Rattle.std.specs.Option.{option_map_or}
use Rattle.proto_types.specs.Readers.{text_of, type_of}
use Rattle.proto_types.specs.declared.records.field.FieldDescriptorProto.{FieldDescriptorProto}
use Rattle.proto_types.specs.declared.records.field.FieldType.{FieldType}
use Rattle.proto_types.specs.declared.records.field.FieldType.TheVariants as written
use Rattle.proto_types.specs.declared.records.service.MethodDescriptorProto.{MethodDescriptorProto}
use Rattle.pool_types.specs.Contents.{Contents, files_of}
use Rattle.pool_types.specs.declared.contents.definition.DefinitionKind.{DefinitionKind}
use Rattle.pool_types.specs.declared.contents.definition.DefinitionKind.TheVariants as definition
use Rattle.record_walk.specs.Changed.{changed_files}
use Rattle.record_walk.specs.Counts.{counted, counts_in, no_counts}
use Rattle.record_walk.specs.Declarations.{declarations}
use Rattle.name_resolution.specs.declared.filter.ResolveNameFilter.{ResolveNameFilter}
use Rattle.name_resolution.specs.declared.filter.ResolveNameFilter.TheVariants.{Message, FieldType as AnyType}
use Rattle.name_resolution.specs.Resolution.{Resolution, found, invalid_type, not_imported, shadowed, not_found, kind_found}
use Rattle.reference_pass.specs.Linked.{resolved, definition_number, type_number, typed, linked_field, linked_extension, linked_method, linking}
use Rattle.reference_pass.specs.Setting.{Setting, resolve}
use Rattle.descriptor_encoding.specs.Whole.{IsText, IsInt32, Within, IsField, IsMethod, IsFile}
use Rattle.descriptor_pool.specs.Build.{declared_with, setting_with, with_names}
use Rattle.descriptor_pool.specs.Pool.{new_files}
use Rattle.descriptor_pool.proofs.Declared.{files-linked}
use Rattle.descriptor_pool.proofs.Resolved.{all-append}
use Rattle.stored_pools.specs.Stored.{LinkedAreWhole}
use Rattle.stored_pools.proofs.Texts.{dotted, name-text}
use Rattle.stored_pools.proofs.Found.{FoundIsText, found-text}
use Rattle.stored_pools.proofs.Changed.{KeepsWhole, files-whole}

resolved-text : (r : Resolution) (given : Option (List ℕ)) → FoundIsText r → IfSome given IsText → IfSome (resolved r given) IsText
resolved-text (found name def) given is whole = dotted name is
resolved-text (invalid_type name def filter) given is whole = whole
resolved-text (not_imported name file) given is whole = whole
resolved-text (shadowed name other) given is whole = whole
resolved-text not_found given is whole = whole

abbrev IsNumber : Option ℤ → Type 0
IsNumber number = IfSome number IsInt32

eleven : IsInt32 (pos 11)
eleven = record { sfits = lit< tt }

fourteen : IsInt32 (pos 14)
fourteen = record { sfits = lit< tt }

definition-number : (kind : DefinitionKind) (given : Option ℤ) → IsNumber given → IsNumber (definition_number kind given)
definition-number (definition.Message n) given whole = eleven
definition-number (definition.Enum n) given whole = fourteen
definition-number _ given whole = whole

type-number : (type : FieldType) (kind : DefinitionKind) (given : Option ℤ) → IsNumber given → IsNumber (type_number type kind given)
type-number written.Group kind given whole = whole
type-number _ kind given whole = definition-number kind given whole

kind-number : (type : FieldType) (kind : Option DefinitionKind) (given : Option ℤ) → IsNumber given → IsNumber (option_map_or (λ kind. type_number type kind given) kind given)
kind-number type None given whole = whole
kind-number type (Some kind) given whole = type-number type kind given whole

typed-whole : (levels : ℕ) (r : Resolution) (f : FieldDescriptorProto) → FoundIsText r → IsField levels f → IsField levels (typed r f)
typed-whole levels r f is whole = record {
  name = whole.name;
  extendee = whole.extendee;
  number = whole.number;
  label = whole.label;
  type_ = kind-number (type_of f.type_) (kind_found r) f.type_ whole.type_;
  type_name = resolved-text r f.type_name is whole.type_name;
  default_value = whole.default_value;
  options = whole.options;
  oneof_index = whole.oneof_index;
  json_name = whole.json_name;
}

with-extendee : (levels : ℕ) (extendee : Option (List ℕ)) (x : FieldDescriptorProto) → IfSome extendee IsText → IsField levels x → IsField levels (record x { extendee = extendee })
with-extendee levels extendee x is whole = record {
  name = whole.name;
  extendee = is;
  number = whole.number;
  label = whole.label;
  type_ = whole.type_;
  type_name = whole.type_name;
  default_value = whole.default_value;
  options = whole.options;
  oneof_index = whole.oneof_index;
  json_name = whole.json_name;
}

module _ (s : Setting) where
  resolve-text : (index : ℕ) (scope : List ℕ) (filter : ResolveNameFilter) (name : Option (List ℕ)) → IsText scope → IfSome name IsText
      → FoundIsText (resolve s index scope filter (text_of name))
  resolve-text index scope filter name scoped whole = found-text s.names _ filter scope (text_of name) scoped (name-text name whole)

  field-whole : (levels index : ℕ) (name : List ℕ) (f : FieldDescriptorProto) → IsText name → IsField levels f → IsField levels (linked_field s index name f)
  field-whole levels index name f named whole =
      elim (text_of f.type_name) as (λ t. IsField levels (elim t [ [] ↦ f | _ ∷ _ ↦ typed (resolve s index name AnyType (text_of f.type_name)) f ]))
      [ [] ↦ whole | _ ∷ _ ↦ typed-whole levels (resolve s index name AnyType (text_of f.type_name)) f (resolve-text index name AnyType f.type_name named whole.type_name) whole ]

  extension-whole : (levels index : ℕ) (name : List ℕ) (x : FieldDescriptorProto) → IsText name → IsField levels x → IsField levels (linked_extension s index name x)
  extension-whole levels index name x named whole =
      let r = resolve s index name Message (text_of x.extendee) in
      with-extendee levels (resolved r x.extendee) (linked_field s index name x)
      (resolved-text r x.extendee (resolve-text index name Message x.extendee named whole.extendee) whole.extendee) (field-whole levels index name x named whole)

  method-whole : (levels index : ℕ) (name : List ℕ) (m : MethodDescriptorProto) → IsText name → IsMethod levels m → IsMethod levels (linked_method s index name m)
  method-whole levels index name m named whole =
      let input = resolve s index name Message (text_of m.input_type) in
      let output = resolve s index name Message (text_of m.output_type) in
      record {
        name = whole.name;
        input_type = resolved-text input m.input_type (resolve-text index name Message m.input_type named whole.input_type) whole.input_type;
        output_type = resolved-text output m.output_type (resolve-text index name Message m.output_type named whole.output_type) whole.output_type;
        options = whole.options;
      }

  linking-whole : KeepsWhole (linking s)
  linking-whole = record { field = field-whole; extension = extension-whole; method = method-whole }

filter-all : {X : Type 0} (P : X → Type 0) (test : X → _) (xs : List X) → AllByRecursion P xs → AllByRecursion P (filter test xs)
filter-all P test [] all = tt
filter-all P test (x ∷ xs) all =
    let rest = filter-all P test xs all.1 in
    elim (test x) as (λ b. AllByRecursion P (cond b (x ∷ filter test xs) (filter test xs))) [ true ↦ (all.0, rest) | false ↦ rest ]

-- behind contents whose counts are those of what their files declare
pub linked-whole : (p : Contents) → counts_in p ≡ counted no_counts (declarations no_counts (files_of p)) → LinkedAreWhole p
linked-whole p counts before batch came =
    let new = new_files p batch in
    let s = setting_with p new in
    let linked = files-whole (linking s) (linking-whole s) 100 (length p.files) new (filter-all (Within 100 IsFile) (λ f. _) batch came.file) in
    let are = files-linked (with_names p (declared_with p new)) new counts s in
    record { file = subst (AllByRecursion (Within 100 IsFile)) (sym are) (all-append (Within 100 IsFile) (files_of p) (changed_files (linking s) (length p.files) new) before.file linked) }
