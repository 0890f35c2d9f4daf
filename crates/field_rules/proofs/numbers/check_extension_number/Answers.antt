use Rattle.std.proofs.Common.{◌≡◌, ap, arith, to_z, of_z, w32}
use Rattle.std.proofs.lemmas.Int.{to_z-of_z}
use Rattle.proto_types.specs.declared.message.DescriptorProto.{out-DescriptorProto}
use Rattle.proto_types.specs.Readers.{number_of}
use Rattle.record_walk.proofs.Listings.{on-ok}
use Rattle.record_walk.specs.Faults.{Tells, named_files}
use Rattle.record_walk.proofs.Tells.{same-files, tells-as, tells-three, tells-two}
use Rattle.record_walk.specs.Place.{inside_of}
use Rattle.field_rules.specs.Numbers.{invalid_faults, reserved_faults, out_of_range_faults}
use Rattle.field_rules.proofs.numbers.check_extension_number.Goals as goal

-- the number is looked at by itself, by the reserved ranges and by the extension ranges
pub returns : goal.returns
returns c =
    let a = c.args.faults.now in
    let d = c.args.place in
    let owner = inside_of c.args.owner.place in
    let m = out-DescriptorProto c.args.owner.message.now in
    let n = number_of c.args.extension.now.number in
    let same : to_z w32 (of_z w32 c.number-number.result) ≡ n = grind (arith, to_z-of_z, c.number-number.ensures) in
    let first : Tells a c.check_valid.new.faults (invalid_faults (named_files a) d.file d.path.now n) =
    tells-as (ap (invalid_faults (named_files a) d.file d.path.now) same) c.in_ok-check_valid.ensures in
    let second : Tells c.check_valid.new.faults c.check_reserved_ranges.new.faults (reserved_faults (named_files a) d.file d.path.now n owner m.reserved_range) =
    tells-as (λ j. reserved_faults (same-files first j) d.file d.path.now (same j) owner m.reserved_range) c.in_ok-check_reserved_ranges.ensures in
    let files = same-files (tells-two first second) in
    on-ok c.check_in_some_range.result (λ third.
    tells-three first second
    (tells-as (λ j. out_of_range_faults (files j) d.file d.path.now (same j) owner m.extension_range) third))
    c.check_in_some_range.ensures
