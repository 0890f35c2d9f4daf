use Rattle.std.proofs.Common.{◌≡◌, ◌<◌, ◌≤◌, ◌∙◌, ℕ, ℤ, List, Option, Some, None, IfSome, length, ap, sym, subst, to_z, of_z, w32}
use Rattle.field_rules.specs.NumberRanges.{holds, first_from}
use Rattle.field_rules.proofs.Firsts.{first-below, first-past}
use Rattle.field_rules.proofs.number_ranges.NumberRanges.first_from.Goals as goal

there : (n : ℤ) (from : ℕ) (ranges : List (ℤ × ℤ)) (found : Option ℕ) → found ≡ first_from (holds n) from ranges → IfSome found (λ i. i < length ranges)
there n from ranges None is = tt
there n from ranges (Some i) is = first-below (holds n) ranges from i (sym is)

pub returns-clause-there : goal.returns-clause-there
returns-clause-there c =
    let m : ℤ = to_z w32 (of_z w32 c.args.number) in
    there m c.args.from c.args.self.now c.first_in.result (c.first_in.ensures ∙ ap (first_from (holds m) c.args.from) (c.as_slice-ranges.ensures.value ∙ c.self.view_is))

pub returns-then-self-eq0-clause-there : goal.returns-then-self-eq0-clause-there
returns-then-self-eq0-clause-there c =
    let m : ℤ = to_z w32 (of_z w32 c.args.number) in
    there m c.args.from c.args.self.now c.first_listed.result (c.first_listed.ensures ∙ ap (first_from (holds m) c.args.from) (c.as_slice-ranges.ensures.value ∙ c.self.view_is))

-- past the end
pub returns-then-from-ranges-clause-first : goal.returns-then-from-ranges-clause-first
returns-then-from-ranges-clause-first c =
    sym (first-past (holds c.args.number) c.args.self.now c.args.from
    (subst (λ (rs : List (ℤ × ℤ)). length rs ≤ c.args.from) (c.as_slice-ranges.ensures.value ∙ c.self.view_is) c.if-from-ranges.true))
