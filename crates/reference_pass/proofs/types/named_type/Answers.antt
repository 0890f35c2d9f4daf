use Rattle.std.proofs.Common.{◌≡◌, ◌++◌, ◌∷◌, [], ap, ◌∙◌}
use Rattle.std.specs.Option.{option_and_then, option_map_or}
use Rattle.proto_types.specs.declared.tag.field.TheConstants.{TYPE_NAME}
use Rattle.plain_data.specs.Lists.{listed}
use Rattle.record_walk.specs.Protos.{of_field}
use Rattle.record_walk.specs.Shown.{Shown}
use Rattle.name_resolution.specs.declared.filter.ResolveNameFilter.TheVariants.{FieldType}
use Rattle.pool_types.specs.Kinds.{named_kind}
use Rattle.name_resolution.specs.References.{reference_fault}
use Rattle.name_resolution.specs.Resolution.{kind_found, resolution_in}
use Rattle.record_walk.specs.Place.{shown_at}
use Rattle.field_rules.specs.Defaults.{default_faults}
use Rattle.reference_pass.specs.Setting.{resolve}
use Rattle.reference_pass.specs.Defaults.{default_by, enum_found}
use Rattle.reference_pass.specs.Types.{resolve_type}
use Rattle.reference_pass.specs.Reading.{setting_of}
use Rattle.reference_pass.proofs.Readings.{reads-as, reads-two, same-setting}
use Rattle.reference_pass.proofs.types.named_type.Goals as goal

-- the default is read with the meaning that gave the kind
pub returns-clause-default : goal.returns-clause-default
returns-clause-default c =
    let s = setting_of c.args.reading.now in
    let f = c.args.field.now in
    let d : Shown = shown_at c.args.place (of_field f) in
    let same = same-setting c.in_ok-meaning.ensures.faults in
    let means : resolution_in c.in_ok-meaning.meaning ≡ resolve_type s d f = c.in_ok-meaning.ensures.meaning ∙ ap (resolve s d.file d.full_name FieldType) c.type_name.ensures in
    let kind = c.kind_by_meaning-kind.ensures ∙ (λ j. option_and_then (named_kind (c.field_type.ensures j)) (kind_found (means j))) in
    c.in_ok-default.ensures.value ∙ (λ j. default_by (kind j) (enum_found (same j) (means j)) f.default_value)

-- the type is judged first, and then the default
pub returns-clause-faults : goal.returns-clause-faults
returns-clause-faults c =
    let s = setting_of c.args.reading.now in
    let f = c.args.field.now in
    let d : Shown = shown_at c.args.place (of_field f) in
    let same = same-setting c.in_ok-meaning.ensures.faults in
    let means : resolution_in c.in_ok-meaning.meaning ≡ resolve_type s d f = c.in_ok-meaning.ensures.meaning ∙ ap (resolve s d.file d.full_name FieldType) c.type_name.ensures in
    let kind = c.kind_by_meaning-kind.ensures ∙ (λ j. option_and_then (named_kind (c.field_type.ensures j)) (kind_found (means j))) in
    reads-two
    (reads-as (ap (λ written. listed (reference_fault s.files written d.file (d.path ++ TYPE_NAME ∷ []) (resolve s d.file d.full_name FieldType written))) c.type_name.ensures)
    c.in_ok-meaning.ensures.faults)
    (reads-as (λ j. option_map_or (λ k. default_faults (same j).files d.file d.path k (enum_found (same j) (means j)) f.default_value) (kind j) [])
    c.in_ok-default.ensures.faults)
