use Rattle.pool_changes.proofs.Fresh.{fresh-none}
use Rattle.pool_changes.proofs.laws.fresh_number_is_kept.Goals as goal

pub returns : goal.returns
returns c = λ n m f there fresh unreserved needless. fresh-none c.args.pool.now c.made.ensures n m there f fresh unreserved needless
