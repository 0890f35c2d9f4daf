use Rattle.std.proofs.Common.{◌+◌, ℤ, None, get_or, ap, sym, take, to_z, of_z, w32, refl}
use Rattle.std.proofs.lemmas.List.{get_or_default}
use Rattle.proto_types.specs.declared.message.ReservedRange.{ReservedRange}
use Rattle.record_walk.specs.Faults.{named_files}
use Rattle.field_rules.proofs.Tells.{tells-next}
use Rattle.record_walk.proofs.Tells.{tells-as}
use Rattle.record_walk.specs.Place.{inside_of}
use Rattle.field_rules.specs.Numbers.{reserved_fault, reserved_faults}
use Rattle.field_rules.proofs.reserved.check_reserved_ranges.Goals as goal

-- one more range is looked at
pub loop-position-preserved : goal.loop-position-preserved
loop-position-preserved c =
    let m : ℤ = to_z w32 (of_z w32 c.args.number) in
    let d = c.args.place in
    let owner = inside_of c.args.owner.place in
    let files = named_files c.args.faults.now in
    let i = c.loop-position.position in
    let ranges = c.as_slice-range-items.result.now in
    let none : ReservedRange = record { start = None; «end» = None } in
    let range : ReservedRange = get_or ranges i none in
    let same = c.as_slice-range-items.ensures in
    let so_far = tells-as (ap (λ rs. reserved_faults files d.file d.path.now m owner (take i rs)) (sym same)) c.loop-position.invariant in
    tells-as (ap (λ rs. reserved_faults files d.file d.path.now m owner (take (i + 1) rs)) same)
    (tells-next (λ fs. reserved_fault fs d.file d.path.now m owner) ranges i range c.loop-position-test.true
    (get_or_default ranges i none range c.loop-position-test.true) so_far refl c.in_ok-check_reserved_range.ensures)
