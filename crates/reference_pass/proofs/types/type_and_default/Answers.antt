use Rattle.std.proofs.Common.{◌≡◌, ◌==◌, ℕ, false, List, [], ◌∷◌, length, refl, ap, sym, ◌∙◌}
use Rattle.std.proofs.lemmas.Result.{IfOk-weaker}
use Rattle.std.specs.Option.{option_and_then}
use Rattle.proto_types.specs.declared.records.field.FieldDescriptorProto.{FieldDescriptorProto}
use Rattle.proto_types.specs.Readers.{text_of, type_of}
use Rattle.record_walk.specs.Protos.{of_field}
use Rattle.record_walk.specs.Shown.{Shown}
use Rattle.pool_types.specs.Kinds.{named_kind, simple_kind}
use Rattle.name_resolution.specs.Resolution.{kind_found}
use Rattle.record_walk.specs.Place.{shown_at}
use Rattle.reference_pass.specs.Setting.{Setting}
use Rattle.reference_pass.specs.Defaults.{default_by, enum_found, field_default, no_default_enum}
use Rattle.reference_pass.specs.Types.{resolve_type}
use Rattle.reference_pass.specs.Reading.{setting_of}
use Rattle.reference_pass.proofs.types.type_and_default.Goals as goal

-- the default of a field that names its type
by-name : (s : Setting) (d : Shown) (f : FieldDescriptorProto) (name : List ℕ) → (length name == 0) ≡ false
    → default_by (option_and_then (named_kind (type_of f.type_)) (kind_found (resolve_type s d f))) (enum_found s (resolve_type s d f)) f.default_value
    ≡ default_by (elim name [ [] ↦ simple_kind (type_of f.type_) | _ ∷ _ ↦ option_and_then (named_kind (type_of f.type_)) (kind_found (resolve_type s d f)) ])
    (elim name [ [] ↦ no_default_enum | _ ∷ _ ↦ enum_found s (resolve_type s d f) ]) f.default_value
by-name s d f [] named = absurd (cc)
by-name s d f (x ∷ xs) named = refl

pub returns-clause-default : goal.returns-clause-default
returns-clause-default c =
    let s = setting_of c.args.reading.now in
    let f = c.args.field.now in
    let d : Shown = shown_at c.args.place (of_field f) in
    let named = sym (c.is_empty.ensures ∙ ap (λ (name : List ℕ). length name == 0) c.type_name.ensures) ∙ c.if-is_empty.false in
    let is : _ ≡ field_default s d f = by-name s d f (text_of f.type_name) named in
    IfOk-weaker c.named_type.result _ _ (λ _ read. read ∙ is) c.named_type.ensures.default
