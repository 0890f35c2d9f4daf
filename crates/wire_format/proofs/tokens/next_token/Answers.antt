use Rattle.std.proofs.Common.{sym, ◌∙◌}
use Rattle.std.proofs.lemmas.Result.{err_from_is_err_and}
use Rattle.wire_format.proofs.Steps.{shorter, tokens-more, tokens-none, tokens-broken}
use Rattle.wire_format.specs.Tokens.{seen}
use Rattle.wire_format.proofs.tokens.next_token.Goals as goal

pub returns-then-is_empty-clause-first : goal.returns-then-is_empty-clause-first
returns-then-is_empty-clause-first c = tokens-none _ _ (sym c.if-is_empty.ensures)

pub returns-in_err-field-clause-first : goal.returns-in_err-field-clause-first
returns-in_err-field-clause-first c =
    let p = err_from_is_err_and c.from_residual.result c.from_residual.ensures.1 in
    rw (p.1, p.2) (tokens-broken _ _ _ (sym c.is_empty.ensures ∙ c.if-is_empty.false) c.in_err-field.ensures)

pub returns-clause-first : goal.returns-clause-first
returns-clause-first c = tokens-more _ _ (seen c.in_ok-field.field) _ c.in_ok-field.ensures

pub returns-clause-shorter : goal.returns-clause-shorter
returns-clause-shorter c = shorter c.args.ends _ (seen c.in_ok-field.field) _ c.in_ok-field.ensures
