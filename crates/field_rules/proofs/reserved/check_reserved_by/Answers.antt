use Rattle.std.proofs.Common.{◌≡◌, ◌∙◌, ◌<◌, ◌≤◌, ℕ, ℤ, Bool, false, List, [], Option, Some, None, length, get_or, refl, ap, sym, arith, to_z, of_z, w32}
use Rattle.std.proofs.lemmas.Int.{to_z-of_z}
use Rattle.std.proofs.lemmas.List.{get_or_default}
use Rattle.plain_data.specs.Lists.{only_if}
use Rattle.proto_types.specs.Readers.{number_of}
use Rattle.proto_types.specs.declared.message.DescriptorProto.{out-DescriptorProto}
use Rattle.proto_types.specs.declared.message.ReservedRange.{ReservedRange}
use Rattle.record_walk.specs.Faults.{named_files}
use Rattle.field_rules.proofs.Tells.{tells-next}
use Rattle.record_walk.proofs.Tells.{tells-as}
use Rattle.field_rules.specs.NumberRanges.{holds, first_from}
use Rattle.field_rules.proofs.Firsts.{first-below, first-map}
use Rattle.record_walk.specs.Place.{inside_of}
use Rattle.field_rules.specs.Bounds.{reserved_bounds}
use Rattle.field_rules.specs.Numbers.{reserved_fault, reserved_faults}
use Rattle.field_rules.specs.Ranges.{reserves}
use Rattle.field_rules.proofs.Passed.{up-to, to-end}
use Rattle.field_rules.proofs.reserved.check_reserved_by.Goals as goal

quiet : {X : Type 0} (b : Bool) (x : X) → b ≡ false → only_if b x ≡ []
quiet b x is = ap (λ c. only_if c x) is

none-of : {X : Type 0} (found : Option X) → ((x : X) → found ≡ Some x → ⊥) → found ≡ None
none-of None other = refl
none-of (Some x) other = absurd (other x refl)

-- the first of the ranges in order is the first of the list
same-first : (n : ℤ) (ranges : List ReservedRange) (bounds : List (ℤ × ℤ)) (from : ℕ) (found : Option ℕ) → bounds ≡ reserved_bounds ranges → found ≡ first_from (holds n) from bounds → first_from (reserves n) from ranges ≡ found
same-first n ranges bounds from found is first =
    sym (first ∙ ap (first_from (holds n) from) is ∙ first-map (λ r. (number_of r.start, number_of r.«end»)) (holds n) ranges from)

pub loop-position-smaller : goal.loop-position-smaller
loop-position-smaller c =
    let m : ℤ = to_z w32 (of_z w32 c.args.number) in
    let d = c.args.place in
    let owner = inside_of c.args.owner.place in
    let files = named_files c.args.faults.now in
    let ranges = (out-DescriptorProto c.args.owner.message.now).reserved_range in
    let i = c.in-Some.position in
    let from = c.loop-position.from in
    let first = same-first m ranges c.args.ranges.now from (Some i) c.requires.ranges c.in-Some.ensures.first in
    let below : i < length ranges = first-below (reserves m) ranges from i first in
    let behind : from ≤ i = (up-to (reserves m) (reserved_fault files d.file d.path.now m owner) (λ k r passes. quiet (reserves m r) _ passes) 0 ranges from i first).0 in
    omega (arith, below, behind)

-- up to the next range that holds the number nothing is told, and then that one
pub loop-position-preserved : goal.loop-position-preserved
loop-position-preserved c =
    let m : ℤ = to_z w32 (of_z w32 c.args.number) in
    let d = c.args.place in
    let owner = inside_of c.args.owner.place in
    let files = named_files c.args.faults.now in
    let ranges = (out-DescriptorProto c.args.owner.message.now).reserved_range in
    let i = c.in-Some.position in
    let from = c.loop-position.from in
    let no_range : ReservedRange = record { start = None; «end» = None } in
    let range : ReservedRange = get_or c.as_slice-list.result.now i no_range in
    let first = same-first m ranges c.args.ranges.now from (Some i) c.requires.ranges c.in-Some.ensures.first in
    let below : i < length ranges = first-below (reserves m) ranges from i first in
    let passed = up-to (reserves m) (reserved_fault files d.file d.path.now m owner) (λ k r passes. quiet (reserves m r) _ passes) 0 ranges from i first in
    let is = ap (λ rs. get_or rs i no_range) c.as_slice-list.ensures ∙ get_or_default ranges i no_range range below in
    record {
      within = omega (arith, below);
      told = tells-next (λ fs. reserved_fault fs d.file d.path.now m owner) ranges i range below is
          (tells-as (sym passed.1) c.loop-position.invariant.told) refl c.in_ok-check_reserved_range.ensures;
    }

-- no later range holds the number
pub returns : goal.returns
returns c =
    let n = c.args.number in
    let m : ℤ = to_z w32 (of_z w32 n) in
    let d = c.args.place in
    let owner = inside_of c.args.owner.place in
    let files = named_files c.args.faults.now in
    let ranges = (out-DescriptorProto c.args.owner.message.now).reserved_range in
    let from = c.loop-position.from in
    let none = same-first m ranges c.args.ranges.now from c.first_from.result c.requires.ranges c.first_from.ensures.first ∙ none-of c.first_from.result c.in_default.not-Some in
    tells-as (sym (to-end (reserves m) (reserved_fault files d.file d.path.now m owner) (λ k r passes. quiet (reserves m r) _ passes) 0 ranges from none)
    ∙ ap (λ z. reserved_faults files d.file d.path.now z owner ranges) (to_z-of_z w32 n c.ranges.number))
    c.loop-position.invariant.told
