-- A reference without a fault is linked as the name of the definition that its item holds.
use Rattle.std.proofs.Common.{◌≡◌, ℕ, ℤ, Bool, true, suc, not, is_some, Option, Some, List, [], ◌∷◌, ◌++◌, unwrap_or, refl, subst, sym}
use Rattle.std.specs.BTreeSet.{contains_by}
use Rattle.std.specs.FinMap as finite
use Rattle.std.specs.List.{AllZip, flat_map}
use Rattle.std.specs.Option.{IsSomeAnd, option_and_then}
use Rattle.std.specs.Ordering.{nat_cmp}
use Rattle.plain_data.specs.Each.{map_enumerated}
use Rattle.plain_data.specs.Lists.{listed, only_if}
use Rattle.proto_types.specs.Readers.{text_of, type_of}
use Rattle.proto_types.specs.declared.file.FileDescriptorProto.{FileDescriptorProto}
use Rattle.proto_types.specs.declared.message.OneofDescriptorProto.{OneofDescriptorProto}
use Rattle.proto_types.specs.declared.records.field.FieldDescriptorProto.{FieldDescriptorProto}
use Rattle.proto_types.specs.declared.records.field.FieldType.{FieldType}
use Rattle.proto_types.specs.declared.records.field.FieldType.TheVariants as written
use Rattle.proto_types.specs.declared.records.service.MethodDescriptorProto.{MethodDescriptorProto}
use Rattle.proto_types.specs.declared.tag.field.TheConstants as field
use Rattle.proto_types.specs.declared.tag.method.TheConstants as method
use Rattle.pool_faults.specs.Labels.{label_in}
use Rattle.pool_faults.specs.declared.fault.DescriptorErrorKind.TheVariants.{MissingRequiredField}
use Rattle.pool_types.specs.Contents.{ByText}
use Rattle.pool_types.specs.declared.contents.definition.Definition.{Definition}
use Rattle.pool_types.specs.declared.contents.definition.DefinitionKind.{DefinitionKind}
use Rattle.pool_types.specs.declared.contents.definition.DefinitionKind.TheVariants as definition
use Rattle.pool_types.specs.declared.kinds.KindIndex.TheVariants.{Double}
use Rattle.record_walk.specs.Changed.{changed_fields, changed_methods}
use Rattle.record_walk.specs.Shown.{Shown, Surrounding, inside}
use Rattle.name_resolution.specs.declared.filter.ResolveNameFilter.TheVariants.{Message, FieldType as AnyType}
use Rattle.name_resolution.specs.Filter.{is_match}
use Rattle.pool_types.specs.Kinds.{named_kind, simple_kind}
use Rattle.name_resolution.specs.References.{reference_fault}
use Rattle.name_resolution.specs.Resolution.{Resolution, found, invalid_type, not_imported, shadowed, not_found, kind_found}
use Rattle.name_resolution.proofs.Found.{IsNamed, resolution-named, IsWanted, resolution-wanted}
use Rattle.record_walk.specs.Place.{field_at}
use Rattle.reference_pass.specs.Types.{field_kind, resolve_type, type_faults}
use Rattle.reference_pass.specs.Items.{extension_item, field_item, method_item}
use Rattle.reference_pass.specs.Linked.{linked_extension, linked_field, linked_method, resolved, typed}
use Rattle.reference_pass.specs.References.{index_or_max, message_found, message_index, method_at, resolve_message}
use Rattle.reference_pass.specs.SecondPass.{Faults, Owner, extension_faults, field_faults, method_faults}
use Rattle.reference_pass.specs.Setting.{Setting, seen_by}
use Rattle.descriptor_pool.specs.References.{ExtensionNames, FieldNames, MethodNames, NamesKind, NamesType}
use Rattle.descriptor_pool.proofs.Resolved.{type-told}
use Rattle.reference_pass.proofs.Unbroken.{both-empty, extension-parts}

-- a name that means a definition names its kind
names-kind : (names : ByText Definition) (name : List ℕ) (def : Definition) (kind : DefinitionKind) → finite.get names name ≡ Some def → def.kind ≡ kind
    → NamesKind names kind (46 ∷ name)
names-kind names name def kind means is = (name, refl, subst (λ got. IsSomeAnd got (λ d. d.kind ≡ kind)) (sym means) is)

-- a message that is found is the one with its index
message-kind : (kind : DefinitionKind) → is_match Message kind ≡ true → kind ≡ definition.Message (index_or_max (message_index kind))
message-kind (definition.Message n) wanted = refl
message-kind definition.Package wanted = absurd (cc)
message-kind (definition.Field n) wanted = absurd (cc)
message-kind (definition.Oneof n) wanted = absurd (cc)
message-kind (definition.Service n) wanted = absurd (cc)
message-kind (definition.Method n) wanted = absurd (cc)
message-kind (definition.Enum n) wanted = absurd (cc)
message-kind (definition.EnumValue n) wanted = absurd (cc)
message-kind (definition.Extension n) wanted = absurd (cc)

-- a type that is a message is a group where it is written so
message-type : (names : ByText Definition) (name : List ℕ) (n : ℕ) (w : FieldType) → NamesKind names (definition.Message n) (46 ∷ name)
    → NamesType names (unwrap_or (named_kind w (definition.Message n)) Double) (46 ∷ name)
message-type names name n written.Group means = means
message-type names name n _ means = means

enum-type : (names : ByText Definition) (name : List ℕ) (n : ℕ) (w : FieldType) → NamesKind names (definition.Enum n) (46 ∷ name)
    → NamesType names (unwrap_or (named_kind w (definition.Enum n)) Double) (46 ∷ name)
enum-type names name n written.Group means = means
enum-type names name n _ means = means

-- a type that is found is the one of its kind
kind-type : (names : ByText Definition) (name : List ℕ) (w : FieldType) (kind : DefinitionKind) → is_match AnyType kind ≡ true → NamesKind names kind (46 ∷ name)
    → NamesType names (unwrap_or (named_kind w kind) Double) (46 ∷ name)
kind-type names name w (definition.Message n) wanted means = message-type names name n w means
kind-type names name w (definition.Enum n) wanted means = enum-type names name n w means
kind-type names name w definition.Package wanted means = absurd (cc)
kind-type names name w (definition.Field n) wanted means = absurd (cc)
kind-type names name w (definition.Oneof n) wanted means = absurd (cc)
kind-type names name w (definition.Service n) wanted means = absurd (cc)
kind-type names name w (definition.Method n) wanted means = absurd (cc)
kind-type names name w (definition.EnumValue n) wanted means = absurd (cc)
kind-type names name w (definition.Extension n) wanted means = absurd (cc)

-- a type without a name is neither a message nor an enum
simple-type : (names : ByText Definition) (w : FieldType) → NamesType names (unwrap_or (simple_kind w) Double) []
simple-type names written.Group = refl
simple-type names _ = refl

module _ (names : ByText Definition) (files : List FileDescriptorProto) (text : List ℕ) (file : ℕ) (path : List ℤ) (given : Option (List ℕ)) where
  -- a message that was found without a fault
  found-message : (r : Resolution) → IsNamed names r → IsWanted Message r → listed (reference_fault files text file path r) ≡ []
      → NamesKind names (definition.Message (index_or_max (message_found r))) (text_of (resolved r given))
  found-message (found name def) named wanted none = names-kind names name def (definition.Message (index_or_max (message_index def.kind))) named (message-kind def.kind wanted)
  found-message (invalid_type name def filter) named wanted none = absurd (cc)
  found-message (not_imported name other) named wanted none = absurd (cc)
  found-message (shadowed name other) named wanted none = absurd (cc)
  found-message not_found named wanted none = absurd (cc)

  -- and a type
  found-type : (w : FieldType) (r : Resolution) → IsNamed names r → IsWanted AnyType r → listed (reference_fault files text file path r) ≡ []
      → NamesType names (unwrap_or (option_and_then (named_kind w) (kind_found r)) Double) (text_of (resolved r given))
  found-type w (found name def) named wanted none = kind-type names name w def.kind wanted (names-kind names name def def.kind named refl)
  found-type w (invalid_type name def filter) named wanted none = absurd (cc)
  found-type w (not_imported name other) named wanted none = absurd (cc)
  found-type w (shadowed name other) named wanted none = absurd (cc)
  found-type w not_found named wanted none = absurd (cc)

module _ (s : Setting) where
  abbrev sees : Shown → ℕ → Bool
  sees d n = contains_by (nat_cmp n) (seen_by s d.file)

  -- a message that a declaration refers to
  message-names : (d : Shown) (path : List ℤ) (given : Option (List ℕ)) → listed (reference_fault s.files (text_of given) d.file path (resolve_message s d given)) ≡ []
      → NamesKind s.names (definition.Message (index_or_max (message_found (resolve_message s d given)))) (text_of (resolved (resolve_message s d given) given))
  message-names d path given none =
      found-message s.names s.files (text_of given) d.file path given (resolve_message s d given)
      (resolution-named s.names (sees d) Message d.full_name (text_of given)) (resolution-wanted s.names (sees d) Message d.full_name (text_of given)) none

  type-names : (d : Shown) (f : FieldDescriptorProto) (text : List ℕ) → text_of f.type_name ≡ text
      → let faults : Faults = elim text [
        | [] ↦ only_if (not (is_some (simple_kind (type_of f.type_)))) (MissingRequiredField (label_in s.files d.file (d.path ++ field.TYPE_NAME ∷ [])))
        | _ ∷ _ ↦ listed (reference_fault s.files (text_of f.type_name) d.file (d.path ++ field.TYPE_NAME ∷ []) (resolve_type s d f))
      ] in
      let kind = unwrap_or (elim text [ [] ↦ simple_kind (type_of f.type_) | _ ∷ _ ↦ option_and_then (named_kind (type_of f.type_)) (kind_found (resolve_type s d f)) ]) Double in
      let after : FieldDescriptorProto = elim text [ [] ↦ f | _ ∷ _ ↦ typed (resolve_type s d f) f ] in
      faults ≡ [] → NamesType s.names kind (text_of after.type_name)
  type-names d f [] is none = subst (NamesType s.names (unwrap_or (simple_kind (type_of f.type_)) Double)) (sym is) (simple-type s.names (type_of f.type_))
  type-names d f (c ∷ cs) is none =
      found-type s.names s.files (text_of f.type_name) d.file (d.path ++ field.TYPE_NAME ∷ []) f.type_name (type_of f.type_) (resolve_type s d f)
      (resolution-named s.names (sees d) AnyType d.full_name (text_of f.type_name)) (resolution-wanted s.names (sees d) AnyType d.full_name (text_of f.type_name)) none

  -- a field, or an extension, by its type
  field-names : (d : Shown) (f : FieldDescriptorProto) → type_faults s d f ≡ []
      → NamesType s.names (unwrap_or (field_kind s d f) Double) (text_of (linked_field s d.file d.full_name f).type_name)
  field-names d f none = type-names d f (text_of f.type_name) refl none

  -- the fields of a message
  pub fields-named : (owner : Owner) (oneofs : List OneofDescriptorProto) (i : ℕ) (fs : List FieldDescriptorProto)
      → flat_map (λ (faults : Faults). faults) (map_enumerated (λ n f. field_faults s owner (field_at (inside owner.0) n f) f) i fs) ≡ []
      → AllZip (FieldNames s.names) (map_enumerated (λ n f. field_item s oneofs (field_at (inside owner.0) n f) f) i fs)
      (changed_fields (linked_field s) owner.0.file owner.0.full_name fs)
  fields-named owner oneofs i [] none = tt
  fields-named owner oneofs i (f ∷ fs) none =
      let d = field_at (inside owner.0) i f in
      let rest = flat_map (λ (faults : Faults). faults) (map_enumerated (λ n g. field_faults s owner (field_at (inside owner.0) n g) g) (suc i) fs) in
      let both = both-empty (field_faults s owner d f) rest none in
      (field-names d f (type-told s owner d f both.0), fields-named owner oneofs (suc i) fs both.1)

  method-names : (d : Shown) (m : MethodDescriptorProto) → method_faults s d m ≡ [] → MethodNames s.names (method_item s d m) (linked_method s d.file d.full_name m)
  method-names d m none =
      let input = d.path ++ method.INPUT_TYPE ∷ [] in
      let output = d.path ++ method.OUTPUT_TYPE ∷ [] in
      let both = both-empty (listed (reference_fault s.files (text_of m.input_type) d.file input (resolve_message s d m.input_type)))
      (listed (reference_fault s.files (text_of m.output_type) d.file output (resolve_message s d m.output_type))) none in
      record { input = message-names d input m.input_type both.0; output = message-names d output m.output_type both.1 }

  -- the methods of a service
  pub methods-named : (here : Surrounding) (i : ℕ) (ms : List MethodDescriptorProto)
      → flat_map (λ (faults : Faults). faults) (map_enumerated (λ n m. method_faults s (method_at here n m) m) i ms) ≡ []
      → AllZip (MethodNames s.names) (map_enumerated (λ n m. method_item s (method_at here n m) m) i ms) (changed_methods (linked_method s) here.file here.scope ms)
  methods-named here i [] none = tt
  methods-named here i (m ∷ ms) none =
      let rest = flat_map (λ (faults : Faults). faults) (map_enumerated (λ n k. method_faults s (method_at here n k) k) (suc i) ms) in
      let both = both-empty (method_faults s (method_at here i m) m) rest none in
      (method-names (method_at here i m) m both.0, methods-named here (suc i) ms both.1)

  -- an extension
  pub extension-named : (d : Shown) (x : FieldDescriptorProto) → extension_faults s [] d x ≡ [] → ExtensionNames s.names (extension_item s d x) (linked_extension s d.file d.full_name x)
  extension-named d x none =
      let parts = extension-parts s d x [] none in
      record {
        extendee = message-names d (d.path ++ field.EXTENDEE ∷ []) x.extendee parts.extendee;
        type_ = field-names d x parts.type_;
      }
