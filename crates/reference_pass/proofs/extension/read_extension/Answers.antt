use Rattle.std.proofs.Common.{rules, FitsSigned, w32, to_z-of_z, ◌++◌, unwrap_or, ap, sym, ◌∙◌, append_assoc}
use Rattle.pool_types.specs.declared.kinds.KindIndex.TheVariants.{Double}
use Rattle.record_walk.specs.Protos.{of_extension}
use Rattle.record_walk.specs.Shown.{Shown}
use Rattle.field_rules.specs.Encoding.{is_packed}
use Rattle.field_rules.specs.Maps.{item_number}
use Rattle.field_rules.specs.Identities.{named_at}
use Rattle.record_walk.specs.Place.{shown_at}
use Rattle.pool_types.specs.Kinds.{cardinality_of}
use Rattle.pool_types.specs.Syntaxes.{is_proto3, syntax_at}
use Rattle.reference_pass.specs.Defaults.{field_default, field_default_faults}
use Rattle.reference_pass.specs.Extension.{extendee_faults, number_faults, duplicate_extension_faults}
use Rattle.reference_pass.specs.Earlier.{earlier_in}
use Rattle.reference_pass.specs.Types.{field_kind, type_faults}
use Rattle.reference_pass.specs.References.{resolve_message}
use Rattle.reference_pass.specs.Reading.{setting_of}
use Rattle.reference_pass.proofs.Readings.{reads-as, reads-two, same-setting}
use Rattle.reference_pass.proofs.extension.read_extension.Goals as goal

-- each part of the item is as it is read
pub returns-clause-item : goal.returns-clause-item
returns-clause-item c =
    let x = c.args.extension.now in
    let place = c.args.place in
    let d : Shown = shown_at place (of_extension x) in
    let first = same-setting c.in_ok-extendee.ensures.faults in
    let second = same-setting c.in_ok-kind.ensures.faults ∙ first in
    let kind_is = c.unwrap_or-kind.ensures ∙ ap (λ k. unwrap_or k Double) (c.in_ok-kind.ensures.kind ∙ ap (λ s. field_kind s d x) first) in
    let three = c.is_proto3.ensures ∙ ap (λ s. is_proto3 (syntax_at s.files place.file)) second in
    let number : FitsSigned w32 c.number.result = search rules in
    λ i. record {
      id = (c.in_ok-id.ensures.id ∙ ap (named_at place.file place.path.now place.full_name.now) c.name.ensures) i;
      parent = place.parent;
      number = (c.item_number.ensures ∙ ap item_number (to_z-of_z number ∙ c.number.ensures)) i;
      json_name = c.in_ok-json_name.ensures i;
      extendee = c.in_ok-extendee.ensures.index i;
      kind = kind_is i;
      is_packed = (c.is_packed.ensures ∙ (λ j. is_packed (three j) (kind_is j) x)) i;
      cardinality = (c.cardinality_of.ensures ∙ ap cardinality_of c.label.ensures) i;
      default = (c.in_ok-kind.ensures.default ∙ ap (λ s. field_default s d x) first) i;
    }

-- its extendee and its number are judged first, and then its type and its default value
pub returns-clause-faults : goal.returns-clause-faults
returns-clause-faults c =
    let s = setting_of c.args.reading.now in
    let x = c.args.extension.now in
    let d : Shown = shown_at c.args.place (of_extension x) in
    let first = c.in_ok-extendee.ensures.faults in
    let rest = reads-as (ap (λ t. type_faults t d x ++ field_default_faults t d x) (same-setting first)) c.in_ok-kind.ensures.faults in
    let extendee = resolve_message s d x.extendee in
    reads-as (sym (append_assoc (extendee_faults s d x ++ number_faults s d x extendee ++ duplicate_extension_faults s (earlier_in c.args.earlier) d x extendee) (type_faults s d x) (field_default_faults s d x)))
    (reads-two first rest)
