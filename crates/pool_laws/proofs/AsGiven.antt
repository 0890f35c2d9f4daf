-- Records are carried as they are to where their references mean what they meant.
use Rattle.std.proofs.Common.{◌≡◌, ◌<◌, ℕ, ℤ, Option, not, is_some, List, [], ◌∷◌, ◌++◌, refl, ap, ◌∙◌}
use Rattle.std.specs.Option.{option_and_then, option_map_or}
use Rattle.proto_types.specs.declared.records.field.FieldDescriptorProto.{FieldDescriptorProto}
use Rattle.proto_types.specs.declared.tag.field.TheConstants as field
use Rattle.plain_data.specs.Lists.{listed, only_if}
use Rattle.proto_types.specs.Readers.{text_of, type_of}
use Rattle.pool_types.specs.declared.kinds.KindIndex.{KindIndex}
use Rattle.pool_faults.specs.declared.fault.DescriptorErrorKind.{DescriptorErrorKind}
use Rattle.pool_faults.specs.declared.fault.DescriptorErrorKind.TheVariants.{MissingRequiredField}
use Rattle.pool_faults.specs.Labels.{label_in}
use Rattle.record_walk.specs.Shown.{Shown}
use Rattle.name_resolution.specs.declared.filter.ResolveNameFilter.TheVariants.{FieldType as AnyType, Message}
use Rattle.pool_types.specs.Kinds.{named_kind, simple_kind}
use Rattle.name_resolution.specs.References.{reference_fault}
use Rattle.name_resolution.specs.Resolution.{Resolution, found, kind_found}
use Rattle.field_rules.specs.Defaults.{DefaultEnum, default_faults}
use Rattle.reference_pass.specs.Defaults.{default_by, enum_found, field_default, field_default_faults, no_default_enum, type_enum}
use Rattle.reference_pass.specs.Definitions.{message_record}
use Rattle.reference_pass.specs.Extension.{number_faults}
use Rattle.reference_pass.specs.Types.{field_kind, type_faults, resolve_type}
use Rattle.reference_pass.specs.Linked.{linked_field, resolved, typed}
use Rattle.reference_pass.specs.References.{message_found, resolve_message}
use Rattle.reference_pass.specs.Setting.{Setting}
use Rattle.pool_laws.proofs.Settings.{IsDefaulted, IsMessageName, IsTyped, Stands, unchanged}
use Rattle.pool_laws.proofs.Carries.{Carries, CarriesMethods, NamedThere}
use Rattle.pool_laws.proofs.Numbered.{numbered-by}
use Rattle.pool_laws.proofs.Typed.{no-fault}
use Rattle.pool_laws.proofs.Defaulted.{default-alone}
use Rattle.pool_laws.proofs.MessageNames.{named-there}

module _ {s t : Setting} {many : ℕ} (stands : Stands s t many) where
  -- the name of a message
  module _ (d : Shown) (below : d.file < many) (path : List ℤ) (given : Option (List ℕ)) where
    found-named : (r : Resolution) → resolve_message s d given ≡ r → listed (reference_fault s.files (text_of given) d.file path r) ≡ []
        → IsMessageName t d path (message_found r) (resolved r given) given
    found-named (found name def) is none = named-there t d path given name def (stands.references d.file below d.full_name (text_of given) Message name def is).meaning_is
    found-named _ is none = absurd (cc)

    named : NamedThere s t d path given given
    named = found-named (resolve_message s d given) refl

  -- the number of an extension
  module _ (d : Shown) (below : d.file < many) (x y : FieldDescriptorProto) (number : y.number ≡ x.number) where
    numbered : (r : Resolution) → resolve_message s d x.extendee ≡ r
        → listed (reference_fault s.files (text_of x.extendee) d.file (d.path ++ field.EXTENDEE ∷ []) r) ≡ [] → number_faults s d x r ≡ []
        → number_faults t d y (resolve_message t d x.extendee) ≡ []
    numbered (found name def) is named none =
        let there = stands.references d.file below d.full_name (text_of x.extendee) Message name def is in
        ap (number_faults t d y) there.meaning_is ∙ numbered-by s t d d x y number name name def def (message_record s def) (message_record t def) there.ranges none
    numbered _ is named none = absurd (cc)

  -- the type of a field, and its default value
  module _ (d : Shown) (below : d.file < many) (f : FieldDescriptorProto) where
    abbrev at : List ℤ
    at = d.path ++ field.TYPE_NAME ∷ []

    -- what the type name means, where there is one, and the enum that it is
    record Meant (r : Resolution) : Type 0 where
      faults : listed (reference_fault t.files (text_of f.type_name) d.file at (resolve_type t d f)) ≡ []
      meaning_is : resolve_type t d f ≡ r
      enum_is : enum_found t (resolve_type t d f) ≡ enum_found s r

    meant : (r : Resolution) → resolve_type s d f ≡ r → listed (reference_fault s.files (text_of f.type_name) d.file at r) ≡ [] → Meant r
    meant (found name def) is none =
        let there = stands.references d.file below d.full_name (text_of f.type_name) AnyType name def is in
        record {
          faults = ap (λ r. listed (reference_fault t.files (text_of f.type_name) d.file at r)) there.meaning_is;
          meaning_is = there.meaning_is;
          enum_is = ap (enum_found t) there.meaning_is ∙ (λ i. record { full_name = name; values = option_map_or (λ x. x.value) (there.enum_is i) [] });
        }
    meant _ is none = absurd (cc)

    -- all that is read by the type name
    record Same (name : List ℕ) : Type 0 where
      faults :
          let faults : List DescriptorErrorKind = elim name [
            | [] ↦ only_if (not (is_some (simple_kind (type_of f.type_)))) (MissingRequiredField (label_in t.files d.file at))
            | _ ∷ _ ↦ listed (reference_fault t.files (text_of f.type_name) d.file at (resolve_type t d f))
          ] in
          faults ≡ []
      kind_is :
          let kind : Resolution → Option KindIndex = λ r. elim name [ [] ↦ simple_kind (type_of f.type_) | _ ∷ _ ↦ option_and_then (named_kind (type_of f.type_)) (kind_found r) ] in
          kind (resolve_type t d f) ≡ kind (resolve_type s d f)
      linked_is :
          let made : Resolution → FieldDescriptorProto = λ r. elim name [ [] ↦ f | _ ∷ _ ↦ typed r f ] in
          made (resolve_type t d f) ≡ made (resolve_type s d f)
      enum_is :
          let meant : Setting → DefaultEnum = λ u. elim name [ [] ↦ no_default_enum | _ ∷ _ ↦ enum_found u (resolve_type u d f) ] in
          meant t ≡ meant s

    by-name : (name : List ℕ)
        → let faults : List DescriptorErrorKind = elim name [
          | [] ↦ only_if (not (is_some (simple_kind (type_of f.type_)))) (MissingRequiredField (label_in s.files d.file at))
          | _ ∷ _ ↦ listed (reference_fault s.files (text_of f.type_name) d.file at (resolve_type s d f))
        ] in
        faults ≡ [] → Same name
    by-name [] none = record {
      faults = no-fault (not (is_some (simple_kind (type_of f.type_)))) (MissingRequiredField (label_in s.files d.file at)) (MissingRequiredField (label_in t.files d.file at)) none;
      kind_is = refl;
      linked_is = refl;
      enum_is = refl;
    }
    by-name (c ∷ cs) none =
        let m = meant (resolve_type s d f) refl none in
        record {
          faults = m.faults;
          kind_is = ap (λ r. option_and_then (named_kind (type_of f.type_)) (kind_found r)) m.meaning_is;
          linked_is = ap (λ r. typed r f) m.meaning_is;
          enum_is = m.enum_is;
        }

    typed-same : type_faults s d f ≡ [] → IsTyped t d (field_kind s d f) (linked_field s d.file d.full_name f) f
    typed-same none = let same = by-name (text_of f.type_name) none in record { faults = same.faults; kind_is = same.kind_is; linked_is = same.linked_is }

    defaulted-same : type_faults s d f ≡ [] → field_default_faults s d f ≡ [] → IsDefaulted t d (field_default s d f) f
    defaulted-same typed_well none =
        let same = by-name (text_of f.type_name) typed_well in
        let kind : field_kind t d f ≡ field_kind s d f = same.kind_is in
        let enum : type_enum t d f ≡ type_enum s d f = same.enum_is in
        record {
          faults = (λ i. option_map_or (λ k. default_faults t.files d.file d.path k (enum i) f.default_value) (kind i) [])
              ∙ default-alone s.files t.files d.file d.file d.path (type_enum s d f) (field_kind s d f) (field_kind s d f) f.default_value refl none;
          value_is = λ i. default_by (kind i) (enum i) f.default_value;
        }

  methods-given : CarriesMethods s t unchanged many
  methods-given = record {
    kept = λ file full_name m. refl;
    inputs = λ d below path m. named d below path m.input_type;
    outputs = λ d below path m. named d below path m.output_type;
  }

  pub given-carried : Carries s t unchanged many
  given-carried = record {
    kept = λ file full_name f. refl;
    extensions = λ file full_name x. refl;
    methods = methods-given;
    typed = typed-same;
    defaulted = defaulted-same;
    extendees = λ d below x. named d below (d.path ++ field.EXTENDEE ∷ []) x.extendee;
    numbered = λ d below x y number named none. numbered d below x y number (resolve_message s d x.extendee) refl named none;
    syntaxes = stands.syntaxes;
    sees = stands.sees;
  }
