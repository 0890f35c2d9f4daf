use Rattle.pool_laws.proofs.Stays.{dot-says-nothing}
use Rattle.pool_laws.proofs.laws.dot_says_nothing.Goals as goal

pub returns : goal.returns
returns c = dot-says-nothing c.args.pool.now
