use Rattle.pool_laws.proofs.Stays.{earlier-stays}
use Rattle.pool_laws.proofs.laws.earlier_stays.Goals as goal

pub returns : goal.returns
returns c = earlier-stays c.args.pool.now
