-- A field that was linked, read once more: its default value is what it was, and breaks nothing.
use Rattle.std.proofs.Common.{◌≡◌, ◌<◌, ℕ, ℤ, Option, None, Some, not, is_none, is_some, List, [], ◌∷◌, ◌++◌, length, refl, ap, subst, ◌∙◌, sym}
use Rattle.std.specs.Option.{option_map_or, option_map}
use Rattle.proto_types.specs.declared.records.field.FieldDescriptorProto.{FieldDescriptorProto}
use Rattle.proto_types.specs.declared.tag.field.TheConstants as field
use Rattle.plain_data.specs.Lists.{listed, only_if}
use Rattle.proto_types.specs.Readers.{text_of, type_of}
use Rattle.proto_types.specs.declared.file.FileDescriptorProto.{FileDescriptorProto}
use Rattle.pool_types.specs.declared.kinds.KindIndex.{KindIndex}
use Rattle.pool_faults.specs.declared.fault.DescriptorErrorKind.{DescriptorErrorKind}
use Rattle.pool_faults.specs.declared.fault.DescriptorErrorKind.TheVariants.{MissingRequiredField}
use Rattle.pool_faults.specs.Labels.{label_in}
use Rattle.record_walk.specs.Shown.{Shown}
use Rattle.name_resolution.specs.declared.filter.ResolveNameFilter.TheVariants.{FieldType as AnyType}
use Rattle.pool_types.specs.Kinds.{simple_kind}
use Rattle.name_resolution.specs.References.{reference_fault}
use Rattle.name_resolution.specs.Resolution.{Resolution, found}
use Rattle.field_rules.specs.Defaults.{DefaultEnum, default_fault, default_faults, value_of}
use Rattle.reference_pass.specs.Defaults.{default_by, enum_found, field_default, field_default_faults, no_default_enum, type_enum}
use Rattle.reference_pass.specs.Types.{field_kind, type_faults, resolve_type}
use Rattle.reference_pass.specs.Linked.{linked_field, typed}
use Rattle.reference_pass.specs.Setting.{Setting}
use Rattle.pool_laws.proofs.Settings.{EnumsStay, Grows, IsDefaulted}
use Rattle.pool_laws.proofs.Looked.{IsLooked, looked-named, resolution-looked}
use Rattle.pool_laws.proofs.Typed.{found-again, no-fault, seen, typed-again}
use Rattle.pool_types.specs.declared.kinds.KindIndex.TheVariants as index

-- a kind of types without its number
abbrev pub index_alone : KindIndex → KindIndex
index_alone (index.Message _) = index.Message 0
index_alone (index.Enum _) = index.Enum 0
index_alone (index.Group _) = index.Group 0
index_alone kind = kind

-- a text writes the same value of it
value-alone : (k : KindIndex) (meant : DefaultEnum) (text : List ℕ) → value_of (index_alone k) meant.values text ≡ value_of k meant.values text
value-alone index.Double meant text = refl
value-alone _ meant text = refl

-- a default that breaks nothing breaks nothing where the number of its type is another
pub default-alone : (fs gs : List FileDescriptorProto) (file other : ℕ) (path : List ℤ) (meant : DefaultEnum) (kind new : Option KindIndex) (given : Option (List ℕ))
    → option_map index_alone new ≡ option_map index_alone kind
    → option_map_or (λ k. default_faults fs file path k meant given) kind [] ≡ [] → option_map_or (λ k. default_faults gs other path k meant given) new [] ≡ []
default-alone fs gs file other path meant None None given same none = refl
default-alone fs gs file other path meant (Some k) (Some n) None same none = refl
default-alone fs gs file other path meant (Some k) (Some n) (Some text) same none =
    let kinds : index_alone n ≡ index_alone k = cc in
    let value = sym (value-alone n meant text) ∙ ap (λ x. value_of x meant.values text) kinds ∙ value-alone k meant text in
    ap (λ o. only_if (is_none o) (default_fault gs other path n meant text)) value ∙ no-fault (is_none (value_of k meant.values text)) _ _ none
default-alone fs gs file other path meant _ _ given same none = absurd (cc)

-- linking leaves the text of a default
given-kept : (r : Resolution) (f : FieldDescriptorProto) (name : List ℕ) → let g : FieldDescriptorProto = elim name [ [] ↦ f | _ ∷ _ ↦ typed r f ] in g.default_value ≡ f.default_value
given-kept r f [] = refl
given-kept r f (c ∷ cs) = refl

module _ (s t : Setting) (grows : Grows s t) (stay : EnumsStay s t) (d : Shown) (below : d.file < length s.files) where
  abbrev at : List ℤ
  at = d.path ++ field.TYPE_NAME ∷ []

  found-meant : (f : FieldDescriptorProto) (r : Resolution) → resolve_type s d f ≡ r → listed (reference_fault s.files (text_of f.type_name) d.file at r) ≡ []
      → type_enum t d (typed r f) ≡ enum_found s r
  found-meant f (found name def) is none =
      let now = subst (IsLooked s.names (seen s d.file) AnyType) is (resolution-looked s.names (seen s d.file) AnyType d.full_name (text_of f.type_name)) in
      let again = found-again s t grows d.file d.full_name d.full_name (text_of f.type_name) AnyType name def below is in
      let record_is = stay name def (looked-named s.names (seen s d.file) AnyType name name def now.0) in
      ap (enum_found t) again ∙ (λ i. record { full_name = name; values = option_map_or (λ x. x.value) (record_is i) [] })
  found-meant f _ is none = absurd (cc)

  meant-by-name : (f : FieldDescriptorProto) (name : List ℕ) → text_of f.type_name ≡ name
      → let faults : List DescriptorErrorKind = elim name [
        | [] ↦ only_if (not (is_some (simple_kind (type_of f.type_)))) (MissingRequiredField (label_in s.files d.file at))
        | _ ∷ _ ↦ listed (reference_fault s.files (text_of f.type_name) d.file at (resolve_type s d f))
      ] in
      faults ≡ [] → type_enum t d (elim name [ [] ↦ f | _ ∷ _ ↦ typed (resolve_type s d f) f ]) ≡ elim name [ [] ↦ no_default_enum | _ ∷ _ ↦ enum_found s (resolve_type s d f) ]
  meant-by-name f [] is none = rw (is, type_enum) refl
  meant-by-name f (c ∷ cs) is none = found-meant f (resolve_type s d f) refl none

  pub defaulted-again : (f : FieldDescriptorProto) → type_faults s d f ≡ [] → field_default_faults s d f ≡ []
      → IsDefaulted t d (field_default s d f) (linked_field s d.file d.full_name f)
  defaulted-again f typed_well none =
      let kind = (typed-again s t grows d below f typed_well).kind_is in
      let meant = meant-by-name f (text_of f.type_name) refl typed_well in
      let given = given-kept (resolve_type s d f) f (text_of f.type_name) in
      record {
        faults = (λ i. option_map_or (λ k. default_faults t.files d.file d.path k (meant i) (given i)) (kind i) [])
            ∙ default-alone s.files t.files d.file d.file d.path (type_enum s d f) (field_kind s d f) (field_kind s d f) f.default_value refl none;
        value_is = λ i. default_by (kind i) (meant i) (given i);
      }
