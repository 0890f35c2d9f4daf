use Rattle.pool_laws.proofs.Reordered.{reorders}
use Rattle.pool_laws.proofs.laws.reorder.Goals as goal

pub returns : goal.returns
returns c = reorders c.args.pool.now c.made.ensures.made c.args.batch.now c.args.other.now
