use Rattle.pool_changes.proofs.Itself.{changes-nothing}
use Rattle.pool_changes.proofs.Nothing.{nothing-told}
use Rattle.pool_changes.proofs.laws.keeps_itself.Goals as goal

pub returns-clause-unchanged : goal.returns-clause-unchanged
returns-clause-unchanged c = changes-nothing c.args.pool.now c.made.ensures

pub returns-clause-untold : goal.returns-clause-untold
returns-clause-untold c = nothing-told c.args.pool.now c.made.ensures
