use Rattle.pool_laws.proofs.Unseen.{seen-names-stand}
use Rattle.pool_laws.proofs.laws.seen_names_stand.Goals as goal

pub returns : goal.returns
returns c = seen-names-stand c.args.pool.now c.made.ensures
