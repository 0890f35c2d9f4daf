use Rattle.std.proofs.Common.{◌≡◌, ◌∙◌, ◌+◌, true, false, is_some, if◌then◌else◌, ap, sym, arith, rules, to_z, of_z, w32}
use Rattle.std.proofs.lemmas.Int.{to_z-of_z}
use Rattle.proto_types.specs.declared.message.DescriptorProto.{out-DescriptorProto}
use Rattle.proto_types.specs.Readers.{number_of}
use Rattle.record_walk.proofs.Listings.{on-ok}
use Rattle.record_walk.specs.Faults.{named_files}
use Rattle.record_walk.proofs.Tells.{tells-as}
use Rattle.record_walk.specs.Place.{inside_of}
use Rattle.field_rules.specs.Numbers.{out_of_range_faults, extension_range_faults}
use Rattle.std.specs.Prelude.{ℕ, ℤ, List, Option}
use Rattle.proto_types.specs.declared.message.ExtensionRange.{ExtensionRange}
use Rattle.field_rules.specs.NumberRanges.{holds, first_from}
use Rattle.field_rules.proofs.Firsts.{first-any, first-map, position-first, option_map-id}
use Rattle.field_rules.specs.Bounds.{extension_bounds}
use Rattle.field_rules.specs.Ranges.{extends}
use Rattle.field_rules.proofs.extension_ranges.check_extension_ranges.Goals as goal

-- the first of the ranges in order is the first of the list
same-first : (n : ℤ) (ranges : List ExtensionRange) (bounds : List (ℤ × ℤ)) (found : Option ℕ) → bounds ≡ extension_bounds ranges → found ≡ first_from (holds n) 0 bounds → found ≡ first_from (extends n) 0 ranges
same-first n ranges bounds found is first = first ∙ ap (first_from (holds n) 0) is ∙ first-map (λ r. (number_of r.start, number_of r.«end»)) (holds n) ranges 0

pub check_in_some_range-requires : goal.check_in_some_range-requires
check_in_some_range-requires c =
    let m = to_z w32 (of_z w32 c.number-number.result) in
    let ranges = (out-DescriptorProto c.args.owner.message.now).extension_range in
    c.is_some-then-is_some.ensures ∙ ap is_some (same-first m ranges c.args.ranges.now c.first_from-holder.result c.requires.ranges c.first_from-holder.ensures.first) ∙ first-any (extends m) ranges

pub check_not_in_ranges-requires-clause-holder : goal.check_not_in_ranges-requires-clause-holder
check_not_in_ranges-requires-clause-holder c =
    let m = to_z w32 (of_z w32 c.number-number.result) in
    let ranges = (out-DescriptorProto c.args.owner.message.now).extension_range in
    same-first m ranges c.args.ranges.now c.first_from-holder.result c.requires.ranges c.first_from-holder.ensures.first
    ∙ sym (position-first (extends m) ranges 0 ∙ option_map-id (λ k. 0 + k) (λ k. omega arith) (first_from (extends m) 0 ranges))

pub returns-then-is_some : goal.returns-then-is_some
returns-then-is_some c =
    let files = named_files c.args.faults.now in
    let d = c.args.place in
    let owner = inside_of c.args.owner.place in
    let ranges = (out-DescriptorProto c.args.owner.message.now).extension_range in
    let n = number_of c.args.field.now.number in
    let same : to_z w32 (of_z w32 c.number-number.result) ≡ n = grind (arith, to_z-of_z, c.number-number.ensures) in
    let here : is_some c.args.field.now.extendee ≡ true = search rules in
    on-ok c.check_in_some_range.result (λ told.
    tells-as (ap (λ m. out_of_range_faults files d.file d.path.now m owner ranges) same
    ∙ ap (λ b. if b then out_of_range_faults files d.file d.path.now n owner ranges else extension_range_faults files d.file d.path.now n owner ranges) (sym here)) told)
    c.check_in_some_range.ensures

pub returns-else-is_some : goal.returns-else-is_some
returns-else-is_some c =
    let files = named_files c.args.faults.now in
    let d = c.args.place in
    let owner = inside_of c.args.owner.place in
    let ranges = (out-DescriptorProto c.args.owner.message.now).extension_range in
    let n = number_of c.args.field.now.number in
    let same : to_z w32 (of_z w32 c.number-number.result) ≡ n = grind (arith, to_z-of_z, c.number-number.ensures) in
    let absent : is_some c.args.field.now.extendee ≡ false = search rules in
    on-ok c.check_not_in_ranges.result (λ told.
    tells-as (ap (λ m. extension_range_faults files d.file d.path.now m owner ranges) same
    ∙ ap (λ b. if b then out_of_range_faults files d.file d.path.now n owner ranges else extension_range_faults files d.file d.path.now n owner ranges) (sym absent)) told)
    c.check_not_in_ranges.ensures
