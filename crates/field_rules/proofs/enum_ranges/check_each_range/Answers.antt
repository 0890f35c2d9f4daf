use Rattle.std.proofs.Common.{◌+◌, take, get_or, None, refl, ap, sym}
use Rattle.std.proofs.lemmas.List.{get_or_default}
use Rattle.proto_types.specs.declared.records.enumeration.EnumReservedRange.{EnumReservedRange}
use Rattle.record_walk.specs.Place.{enum_at}
use Rattle.record_walk.specs.Faults.{named_files}
use Rattle.field_rules.proofs.Tells.{tells-next}
use Rattle.record_walk.proofs.Tells.{tells-as}
use Rattle.field_rules.specs.EnumValues.{reserved_fault, reserved_faults}
use Rattle.field_rules.proofs.enum_ranges.check_each_range.Goals as goal

-- one more range is looked at
pub loop-index-preserved : goal.loop-index-preserved
loop-index-preserved c =
    let files = named_files c.args.faults.now in
    let owner = enum_at c.args.place c.args.enumeration.now in
    let position = c.args.value.0 in
    let n = c.args.value.1 in
    let i = c.loop-index.index in
    let none : EnumReservedRange = record { start = None; «end» = None } in
    let ranges = c.as_slice-range-items.result.now in
    let range : EnumReservedRange = get_or ranges i none in
    let same = c.as_slice-range-items.ensures in
    let so_far = tells-as (ap (λ rs. reserved_faults files owner position n (take i rs)) (sym same)) c.loop-index.invariant in
    tells-as (ap (λ rs. reserved_faults files owner position n (take (i + 1) rs)) same)
    (tells-next (λ fs. reserved_fault fs owner position n) ranges i range c.loop-index-test.true
    (get_or_default ranges i none range c.loop-index-test.true) so_far refl c.in_ok-check_range.ensures)
