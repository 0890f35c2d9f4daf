use Rattle.pool_changes.proofs.Losing.{change-lost}
use Rattle.pool_changes.proofs.laws.change_is_lost.Goals as goal

pub returns : goal.returns
returns c = change-lost c.args.old.now c.args.new.now c.made.ensures c.made-2.ensures
