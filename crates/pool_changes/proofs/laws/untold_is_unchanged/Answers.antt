use Rattle.pool_changes.proofs.Untold.{untold-backward, untold-unchanged}
use Rattle.pool_changes.proofs.laws.untold_is_unchanged.Goals as goal

pub returns-clause-told : goal.returns-clause-told
returns-clause-told c = λ d. untold-unchanged (record { direction = d; old = c.args.old.now; new = c.args.new.now })

pub returns-clause-backward : goal.returns-clause-backward
returns-clause-backward c = untold-backward c.args.old.now c.args.new.now
