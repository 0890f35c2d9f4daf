use Rattle.std.proofs.Common.{Some, ap, sym, ◌∙◌}
use Rattle.pool_contents.proofs.Extending.{number-freed, number-kept}
use Rattle.pool_contents.proofs.growing.remove_number.Goals as goal

-- the number has the extension
pub returns-then-held-index : goal.returns-then-held-index
returns-then-held-index c =
    λ was before is. c.remove.ensures ∙ number-freed was c.args.numbers.now c.args.index c.args.number before is
    (sym c.get.ensures ∙ c.in-Some.is ∙ ap Some c.if-held-index.true)

-- the number has another
pub returns-else-held-index : goal.returns-else-held-index
returns-else-held-index c =
    λ was before is. number-kept was c.args.numbers.now c.args.index c.args.number before is
    (λ same. let both = sym (sym c.get.ensures ∙ c.in-Some.is) ∙ same in absurd (c.if-held-index.false (cc)))

-- the number has none
pub returns-in_default : goal.returns-in_default
returns-in_default c =
    λ was before is. number-kept was c.args.numbers.now c.args.index c.args.number before is
    (λ same. absurd (c.in_default.not-Some c.args.index (c.get.ensures ∙ same)))
