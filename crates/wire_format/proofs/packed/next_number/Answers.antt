use Rattle.std.proofs.Common.{sym, ◌∙◌}
use Rattle.std.proofs.lemmas.Result.{err_from_is_err_and}
use Rattle.wire_format.proofs.Numbers.{shorter, numbers-more, numbers-none, numbers-broken}
use Rattle.wire_format.proofs.packed.next_number.Goals as goal

pub returns-then-is_empty-clause-first : goal.returns-then-is_empty-clause-first
returns-then-is_empty-clause-first c = numbers-none _ _ (sym c.if-is_empty.ensures)

pub returns-in_err-number-clause-first : goal.returns-in_err-number-clause-first
returns-in_err-number-clause-first c =
    let p = err_from_is_err_and c.from_residual.result c.from_residual.ensures.1 in
    rw (p.1, p.2) (numbers-broken _ _ _ (sym c.is_empty.ensures ∙ c.if-is_empty.false) c.in_err-number.ensures)

pub returns-clause-first : goal.returns-clause-first
returns-clause-first c = numbers-more _ _ _ _ c.in_ok-number.ensures

pub returns-clause-shorter : goal.returns-clause-shorter
returns-clause-shorter c = shorter c.args.ends _ _ _ c.in_ok-number.ensures
