use Rattle.stored_pools.proofs.Makes.{makes-pool}
use Rattle.stored_pools.proofs.laws.stored_is_loaded.Goals as goal

pub returns : goal.returns
returns c = makes-pool c.written_is_read.ensures.set c.args.pool.now c.relink.ensures
