use Rattle.std.proofs.Common.{◌≡◌, ◌∙◌, ◌≤◌, ◌/◌, ◌+◌, ◌-◌, ℕ, ℤ, List, Option, Some, None, ap, sym, refl, arith, length, take, drop, to_z, of_z, w32}
use Rattle.std.specs.Prelude.{int_le}
use Rattle.std.specs.List.{count_by}
use Rattle.std.specs.Option.{option_map}
use Rattle.std.proofs.lemmas.Int.{to_z-of_z}
use Rattle.std.proofs.lemmas.List.{length-drop}
use Rattle.field_rules.specs.NumberRanges.{holds, first_from}
use Rattle.field_rules.specs.RangeTables.{end_of}
use Rattle.field_rules.proofs.Firsts.{first-past, first-below}
use Rattle.field_rules.proofs.Halves.{next-level, in-order, none-holds, first-in-front, first-in-back}
use Rattle.field_rules.proofs.stretch.+first_in.Goals as goal

none-of : {X : Type 0} (found : Option X) → ((x : X) → found ≡ Some x → ⊥) → found ≡ None
none-of None other = refl
none-of (Some x) other = absurd (other x refl)

module _ (n m : ℤ) (same : m ≡ n) (ranges front back : List (ℤ × ℤ)) (half from rest : ℕ) (le : half ≤ length ranges) (in_front : front ≡ take half ranges) (in_back : back ≡ drop half ranges) where
  in-front : (i : ℕ) → Some i ≡ first_from (holds m) from front → Some i ≡ first_from (holds n) from ranges
  in-front i is =
      sym (first-in-front (holds n) ranges half le from i (sym (is ∙ (λ j. first_from (holds (same j)) from (in_front j)))))

  in-back : (found later : Option ℕ) → rest ≡ from - half → found ≡ None → found ≡ first_from (holds m) from front → later ≡ first_from (holds m) rest back → option_map (λ k. half + k) later ≡ first_from (holds n) from ranges
  in-back found later less none first second =
      let absent : first_from (holds n) from (take half ranges) ≡ None = sym (first ∙ (λ j. first_from (holds (same j)) from (in_front j))) ∙ none in
      ap (option_map (λ k. half + k)) (second ∙ (λ j. first_from (holds (same j)) (less j) (in_back j)))
      ∙ sym (first-in-back (holds n) ranges half le from absent)

-- past the end
pub returns-then-from-count : goal.returns-then-from-count
returns-then-from-count t c =
    sym (first-past (holds c.args.number) c.args.stretch.ranges.now c.args.from c.if-from-count.true)

-- the tables are in order
pub count_to-requires : goal.count_to-requires
count_to-requires t c =
    let p = c.args.stretch in
    let tables = next-level c.args.levels c.in-Some.below p.starts.now p.ends.now p.ranges.now c.in-Some.ensures.0 c.in-Some.ensures.1 c.requires in
    (in-order end_of c.in-Some.below p.ends.now p.ranges.now tables.of_ends).order

pub count_to-requires-2 : goal.count_to-requires-2
count_to-requires-2 t c =
    let p = c.args.stretch in
    let tables = next-level c.args.levels c.in-Some.below p.starts.now p.ends.now p.ranges.now c.in-Some.ensures.0 c.in-Some.ensures.1 c.requires in
    (in-order (λ r. r.0) c.in-Some.below p.starts.now p.ranges.now tables.of_starts).order

-- as many have ended as have begun
pub returns-then-count_to : goal.returns-then-count_to
returns-then-count_to t c =
    let p = c.args.stretch in
    let n = c.args.number in
    let m : ℤ = to_z w32 (of_z w32 n) in
    let tables = next-level c.args.levels c.in-Some.below p.starts.now p.ends.now p.ranges.now c.in-Some.ensures.0 c.in-Some.ensures.1 c.requires in
    let counts : count_by (λ x. int_le x m) (take (length p.ranges.now) p.ends.now) ≡ count_by (λ x. int_le x m) (take (length p.ranges.now) p.starts.now) = sym c.count_to.ensures ∙ c.if-count_to.true ∙ c.count_to-2.ensures in
    sym (ap (λ z. first_from (holds z) c.args.from p.ranges.now) (sym (to_z-of_z w32 n c.ranges.number))
    ∙ none-holds m c.in-Some.below c.args.from p.starts.now p.ends.now p.ranges.now tables counts)

-- in the first half
pub returns-in-Some-first_in : goal.returns-in-Some-first_in
returns-in-Some-first_in t c =
    let n = c.args.number in
    let ranges = c.args.stretch.ranges.now in
    let le : length ranges / 2 ≤ length ranges = omega arith in
    in-front n (to_z w32 (of_z w32 n)) (to_z-of_z w32 n c.ranges.number) ranges c.halves.result.0.ranges.now c.halves.result.1.ranges.now (length ranges / 2) c.args.from 0 le
    c.halves.ensures.front c.halves.ensures.back c.in-Some-first_in.position c.in-Some-first_in.ensures

-- in no half
pub returns-in_err-position : goal.returns-in_err-position
returns-in_err-position t c =
    let n = c.args.number in
    let ranges = c.args.stretch.ranges.now in
    let le : length ranges / 2 ≤ length ranges = omega arith in
    c.from_residual.ensures
    ∙ in-back n (to_z w32 (of_z w32 n)) (to_z-of_z w32 n c.ranges.number) ranges c.halves.result.0.ranges.now c.halves.result.1.ranges.now (length ranges / 2) c.args.from c.saturating_sub.result le
    c.halves.ensures.front c.halves.ensures.back c.first_in.result None c.saturating_sub.ensures (none-of c.first_in.result c.in_default-first_in.not-Some) c.first_in.ensures c.in_err-position.ensures

pub overflow_add-result : goal.overflow_add-result
overflow_add-result t c =
    let ranges = c.args.stretch.ranges.now in
    let m : ℤ = to_z w32 (of_z w32 c.args.number) in
    let below = first-below (holds m) c.halves.result.1.ranges.now c.saturating_sub.result c.in_ok-position.position (sym c.in_ok-position.ensures) in
    let count = ap length c.halves.ensures.back ∙ length-drop (length ranges / 2) ranges in
    omega (arith, below, count)

-- in the second half
pub returns : goal.returns
returns t c =
    let n = c.args.number in
    let ranges = c.args.stretch.ranges.now in
    let le : length ranges / 2 ≤ length ranges = omega arith in
    in-back n (to_z w32 (of_z w32 n)) (to_z-of_z w32 n c.ranges.number) ranges c.halves.result.0.ranges.now c.halves.result.1.ranges.now (length ranges / 2) c.args.from c.saturating_sub.result le
    c.halves.ensures.front c.halves.ensures.back c.first_in.result (Some c.in_ok-position.position) c.saturating_sub.ensures (none-of c.first_in.result c.in_default-first_in.not-Some) c.first_in.ensures c.in_ok-position.ensures
