use Rattle.std.proofs.Common.{◌≡◌, ◌∙◌, ◌<◌, ◌≤◌, ℕ, ℤ, Bool, false, List, [], Option, Some, None, length, get_or, refl, ap, sym, arith, rules, to_z, of_z, w32, SFits}
use Rattle.std.proofs.lemmas.Int.{to_z-of_z}
use Rattle.std.proofs.lemmas.List.{get_or_default}
use Rattle.plain_data.specs.Lists.{only_if}
use Rattle.proto_types.specs.declared.records.enumeration.EnumReservedRange.{EnumReservedRange}
use Rattle.record_walk.specs.Faults.{named_files}
use Rattle.record_walk.specs.Place.{enum_at}
use Rattle.field_rules.proofs.Tells.{tells-next}
use Rattle.record_walk.proofs.Tells.{tells-as}
use Rattle.field_rules.specs.NumberRanges.{holds, first_from}
use Rattle.field_rules.proofs.Firsts.{first-below}
use Rattle.field_rules.specs.EnumRanges.{reserves}
use Rattle.field_rules.specs.EnumValues.{reserved_fault}
use Rattle.field_rules.proofs.Behind.{reserves_before, none-before, first-before}
use Rattle.field_rules.proofs.Passed.{up-to, to-end}
use Rattle.field_rules.proofs.enum_ranges.check_ranges_by.Goals as goal

quiet : {X : Type 0} (b : Bool) (x : X) → b ≡ false → only_if b x ≡ []
quiet b x is = ap (λ c. only_if c x) is

none-of : {X : Type 0} (found : Option X) → ((x : X) → found ≡ Some x → ⊥) → found ≡ None
none-of None other = refl
none-of (Some x) other = absurd (other x refl)

-- the number is passed as it is
passed : (n : ℤ) (from : ℕ) (bounds : List (ℤ × ℤ)) (found : Option ℕ) → SFits w32 n → found ≡ first_from (holds (to_z w32 (of_z w32 n))) from bounds → found ≡ first_from (holds n) from bounds
passed n from bounds found fits is = is ∙ ap (λ (m : ℤ). first_from (holds m) from bounds) (to_z-of_z w32 n fits)

pub loop-index-smaller : goal.loop-index-smaller
loop-index-smaller c =
    let n = c.args.value.1 in
    let small = c.requires.below in
    let fits : SFits w32 n = search rules in
    let owner = enum_at c.args.place c.args.enumeration.now in
    let files = named_files c.args.faults.now in
    let ranges = c.args.enumeration.now.reserved_range in
    let i = c.in-Some.index in
    let from = c.loop-index.from in
    let first = first-before n ranges c.args.ranges.now from (Some i) c.requires.ranges (passed n from c.args.ranges.now (Some i) fits c.in-Some.ensures.first) in
    let below : i < length ranges = first-below (reserves_before n) ranges from i first in
    let behind : from ≤ i = (up-to (reserves_before n) (reserved_fault files owner c.args.value.0 n) (λ k r passes. quiet (reserves n r) _ (none-before n r small passes)) 0 ranges from i first).0 in
    omega (arith, below, behind)

-- up to the next range that holds the number nothing is told, and then that one
pub loop-index-preserved : goal.loop-index-preserved
loop-index-preserved c =
    let n = c.args.value.1 in
    let small = c.requires.below in
    let fits : SFits w32 n = search rules in
    let owner = enum_at c.args.place c.args.enumeration.now in
    let files = named_files c.args.faults.now in
    let ranges = c.args.enumeration.now.reserved_range in
    let i = c.in-Some.index in
    let from = c.loop-index.from in
    let no_range : EnumReservedRange = record { start = None; «end» = None } in
    let range : EnumReservedRange = get_or c.as_slice-list.result.now i no_range in
    let first = first-before n ranges c.args.ranges.now from (Some i) c.requires.ranges (passed n from c.args.ranges.now (Some i) fits c.in-Some.ensures.first) in
    let below : i < length ranges = first-below (reserves_before n) ranges from i first in
    let passed = up-to (reserves_before n) (reserved_fault files owner c.args.value.0 n) (λ k r passes. quiet (reserves n r) _ (none-before n r small passes)) 0 ranges from i first in
    let is = ap (λ rs. get_or rs i no_range) c.as_slice-list.ensures ∙ get_or_default ranges i no_range range below in
    record {
      within = omega (arith, below);
      told = tells-next (λ fs. reserved_fault fs owner c.args.value.0 n) ranges i range below is
          (tells-as (sym passed.1) c.loop-index.invariant.told) refl c.in_ok-check_range.ensures;
    }

-- no later range holds the number
pub returns : goal.returns
returns c =
    let n = c.args.value.1 in
    let small = c.requires.below in
    let fits : SFits w32 n = search rules in
    let owner = enum_at c.args.place c.args.enumeration.now in
    let files = named_files c.args.faults.now in
    let ranges = c.args.enumeration.now.reserved_range in
    let from = c.loop-index.from in
    let none = first-before n ranges c.args.ranges.now from c.first_from.result c.requires.ranges (passed n from c.args.ranges.now c.first_from.result fits c.first_from.ensures.first) ∙ none-of c.first_from.result c.in_default.not-Some in
    tells-as (sym (to-end (reserves_before n) (reserved_fault files owner c.args.value.0 n) (λ k r passes. quiet (reserves n r) _ (none-before n r small passes)) 0 ranges from none))
    c.loop-index.invariant.told
