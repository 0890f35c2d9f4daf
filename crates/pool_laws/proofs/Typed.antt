-- A field that was linked, read once more: its type breaks nothing, its kind is the same, and linking leaves it.
use Rattle.std.proofs.Common.{◌≡◌, ◌<◌, ℕ, ℤ, Bool, true, false, not, Option, is_some, List, [], ◌∷◌, ◌++◌, length, refl, ap, subst, ◌∙◌}
use Rattle.std.specs.BTreeSet.{contains_by}
use Rattle.std.specs.Option.{option_and_then}
use Rattle.std.specs.Ordering.{nat_cmp}
use Rattle.proto_types.specs.declared.records.field.FieldDescriptorProto.{FieldDescriptorProto}
use Rattle.proto_types.specs.declared.records.field.FieldType.{FieldType}
use Rattle.proto_types.specs.declared.records.field.FieldType.TheVariants as written
use Rattle.proto_types.specs.declared.tag.field.TheConstants as field
use Rattle.plain_data.specs.Lists.{listed, only_if}
use Rattle.proto_types.specs.Readers.{text_of, type_of}
use Rattle.pool_faults.specs.declared.fault.DescriptorErrorKind.{DescriptorErrorKind}
use Rattle.pool_faults.specs.declared.fault.DescriptorErrorKind.TheVariants.{MissingRequiredField}
use Rattle.pool_faults.specs.Labels.{label_in}
use Rattle.pool_types.specs.declared.contents.definition.Definition.{Definition}
use Rattle.pool_types.specs.declared.contents.definition.DefinitionKind.{DefinitionKind}
use Rattle.pool_types.specs.declared.contents.definition.DefinitionKind.TheVariants as definition
use Rattle.record_walk.specs.Shown.{Shown}
use Rattle.name_resolution.specs.declared.filter.ResolveNameFilter.{ResolveNameFilter}
use Rattle.name_resolution.specs.declared.filter.ResolveNameFilter.TheVariants.{FieldType as AnyType}
use Rattle.name_resolution.specs.Filter.{is_match}
use Rattle.pool_types.specs.Kinds.{named_kind, simple_kind}
use Rattle.name_resolution.specs.References.{reference_fault}
use Rattle.name_resolution.specs.Resolution.{Resolution, found, kind_found, look}
use Rattle.reference_pass.specs.Types.{field_kind, type_faults, resolve_type}
use Rattle.reference_pass.specs.Linked.{linked_field, type_number, typed}
use Rattle.reference_pass.specs.Setting.{Setting, resolve, seen_by}
use Rattle.pool_laws.proofs.Settings.{Grows, IsTyped}
use Rattle.pool_laws.proofs.Looked.{IsLooked, look-again, resolution-looked}

abbrev pub seen : Setting → ℕ → ℕ → Bool
seen s file n = contains_by (nat_cmp n) (seen_by s file)

module _ (s t : Setting) (grows : Grows s t) where
  -- a dot and the full name that was found mean the same
  pub found-again : (file : ℕ) (scope other written : List ℕ) (filter : ResolveNameFilter) (name : List ℕ) (def : Definition) → file < length s.files
      → resolve s file scope filter written ≡ found name def → resolve t file other filter (46 ∷ name) ≡ found name def
  found-again file scope other written filter name def below is =
      let now = subst (IsLooked s.names (seen s file) filter) is (resolution-looked s.names (seen s file) filter scope written) in
      (λ i. look t.names (λ n. contains_by (nat_cmp n) (grows.sees file below i)) filter name)
      ∙ look-again s.names (seen s file) filter t.names grows.names name name def now.0

-- the kind of a definition by a type that it gave stays, and so does that type
kind-again : (x : FieldType) (given : Option ℤ) (kind : DefinitionKind) → type_of given ≡ x → is_match AnyType kind ≡ true
    → (named_kind (type_of (type_number x kind given)) kind ≡ named_kind x kind) × (type_number (type_of (type_number x kind given)) kind (type_number x kind given) ≡ type_number x kind given)
kind-again written.Group given kind is wanted = (ap (λ y. named_kind y kind) is, ap (λ y. type_number y kind given) is)
kind-again _ given (definition.Message m) is wanted = (refl, refl)
kind-again _ given (definition.Enum e) is wanted = (refl, refl)
kind-again _ given _ is wanted = absurd (cc)

-- a test without a fault has none of another text
pub no-fault : (b : Bool) (a c : DescriptorErrorKind) → only_if b a ≡ [] → only_if b c ≡ []
no-fault true a c none = absurd (cc)
no-fault false a c none = refl

module _ (s t : Setting) (grows : Grows s t) (d : Shown) (below : d.file < length s.files) where
  abbrev at : List ℤ
  at = d.path ++ field.TYPE_NAME ∷ []

  found-typed : (f : FieldDescriptorProto) (r : Resolution) → resolve_type s d f ≡ r → listed (reference_fault s.files (text_of f.type_name) d.file at r) ≡ []
      → IsTyped t d (option_and_then (named_kind (type_of f.type_)) (kind_found r)) (typed r f) (typed r f)
  found-typed f (found name def) is none =
      let now = subst (IsLooked s.names (seen s d.file) AnyType) is (resolution-looked s.names (seen s d.file) AnyType d.full_name (text_of f.type_name)) in
      let again = found-again s t grows d.file d.full_name d.full_name (text_of f.type_name) AnyType name def below is in
      let kinds = kind-again (type_of f.type_) f.type_ def.kind refl now.1 in
      record {
        faults = ap (λ r. listed (reference_fault t.files (46 ∷ name) d.file at r)) again;
        kind_is = ap (λ r. option_and_then (named_kind (type_of (typed (found name def) f).type_)) (kind_found r)) again ∙ kinds.0;
        linked_is = ap (λ r. typed r (typed (found name def) f)) again ∙ (λ i. record (typed (found name def) f) { type_ = kinds.1 i });
      }
  found-typed f _ is none = absurd (cc)

  by-name : (f : FieldDescriptorProto) (name : List ℕ) → text_of f.type_name ≡ name
      → let faults : List DescriptorErrorKind = elim name [
        | [] ↦ only_if (not (is_some (simple_kind (type_of f.type_)))) (MissingRequiredField (label_in s.files d.file at))
        | _ ∷ _ ↦ listed (reference_fault s.files (text_of f.type_name) d.file at (resolve_type s d f))
      ] in
      let made : FieldDescriptorProto = elim name [ [] ↦ f | _ ∷ _ ↦ typed (resolve_type s d f) f ] in
      faults ≡ [] → IsTyped t d (elim name [ [] ↦ simple_kind (type_of f.type_) | _ ∷ _ ↦ option_and_then (named_kind (type_of f.type_)) (kind_found (resolve_type s d f)) ])
      made made
  by-name f [] is none = record {
    faults = rw (is, type_faults) (no-fault (not (is_some (simple_kind (type_of f.type_)))) (MissingRequiredField (label_in s.files d.file at)) (MissingRequiredField (label_in t.files d.file at)) none);
    kind_is = rw (is, field_kind) refl;
    linked_is = rw (is, linked_field) refl;
  }
  by-name f (c ∷ cs) is none = found-typed f (resolve_type s d f) refl none

  pub typed-again : (f : FieldDescriptorProto) → type_faults s d f ≡ []
      → let made = linked_field s d.file d.full_name f in IsTyped t d (field_kind s d f) made made
  typed-again f none = by-name f (text_of f.type_name) refl none
