use Rattle.pool_laws.proofs.Relinked.{relinked}
use Rattle.pool_laws.proofs.laws.relink.Goals as goal

pub returns : goal.returns
returns c = relinked c.args.pool.now c.made.ensures.made
