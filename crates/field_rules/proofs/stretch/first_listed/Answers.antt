use Rattle.std.proofs.Common.{◌≡◌, ◌∙◌, ◌+◌, ◌-◌, ℕ, ℤ, List, Option, Some, None, ap, sym, length, position, take, drop, to_z, of_z, w32}
use Rattle.std.specs.Option.{option_map}
use Rattle.std.proofs.lemmas.Int.{to_z-of_z}
use Rattle.std.proofs.lemmas.List.{length-drop}
use Rattle.std.proofs.Math.Seq.{take-length}
use Rattle.field_rules.specs.NumberRanges.{holds, first_from}
use Rattle.field_rules.proofs.Firsts.{first-listed}
use Rattle.field_rules.proofs.stretch.first_listed.Goals as goal

listed : (n m : ℤ) → m ≡ n → (ranges : List (ℤ × ℤ)) (from : ℕ) (found : Option ℕ) → found ≡ position (holds m) (take (length ranges - from) (drop from ranges)) → option_map (λ k. from + k) found ≡ first_from (holds n) from ranges
listed n m same ranges from found is =
    let rest : take (length ranges - from) (drop from ranges) ≡ drop from ranges = ap (λ k. take k (drop from ranges)) (sym (length-drop from ranges)) ∙ take-length (drop from ranges) in
    ap (option_map (λ k. from + k)) (is ∙ (λ j. position (holds (same j)) (rest j))) ∙ sym (first-listed (holds n) ranges from)

pub returns-in_err-position : goal.returns-in_err-position
returns-in_err-position c =
    let n = c.args.number in
    c.from_residual.ensures ∙ listed n (to_z w32 (of_z w32 n)) (to_z-of_z w32 n c.ranges.number) c.args.ranges.now c.args.from None c.in_err-position.ensures.first

pub returns : goal.returns
returns c =
    let n = c.args.number in
    listed n (to_z w32 (of_z w32 n)) (to_z-of_z w32 n c.ranges.number) c.args.ranges.now c.args.from (Some c.in_ok-position.position) c.in_ok-position.ensures.first
