use Rattle.std.proofs.Common.{ap, sym, ◌∙◌}
use Rattle.std.specs.Option.{is_none}
use Rattle.reference_pass.proofs.Made.{known-err}
use Rattle.reference_pass.proofs.Numbered.{entered, kept, told-none, told-some}
use Rattle.reference_pass.proofs.items.enter.Goals as goal

-- a refused request leaves the entries as they were
pub returns-in_err-insert-clause-err : goal.returns-in_err-insert-clause-err
returns-in_err-insert-clause-err c = known-err c.from_residual.result c.in_err-insert.ensures.err

-- the position is that of a message and a number that had none
pub returns-in_ok-insert-clause-ok : goal.returns-in_ok-insert-clause-ok
returns-in_ok-insert-clause-ok c =
    let free = sym c.position_of.ensures ∙ told-none c.position_of.result c.is_none.result c.if-is_none.true c.is_none.ensures in
    entered c.args.positions.now c.insert.new.self c.args.key c.args.position free c.in_ok-insert.ensures.updates

pub returns-else-is_none-clause-ok : goal.returns-else-is_none-clause-ok
returns-else-is_none-clause-ok c =
    kept c.args.positions.now c.args.key c.args.position
    (ap is_none (sym c.position_of.ensures) ∙ told-some c.position_of.result c.is_none.result c.if-is_none.false c.is_none.ensures)
