use Rattle.pool_changes.proofs.Untold.{untold-kept}
use Rattle.pool_changes.proofs.laws.untold_is_kept.Goals as goal

pub returns : goal.returns
returns c = untold-kept c.args.old.now c.args.new.now c.made.ensures c.made-2.ensures
