use Rattle.pool_laws.proofs.Splits.{splits}
use Rattle.pool_laws.proofs.laws.split.Goals as goal

pub returns : goal.returns
returns c = splits c.args.pool.now c.made.ensures c.args.front.now c.args.back.now
