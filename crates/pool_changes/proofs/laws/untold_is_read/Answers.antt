use Rattle.pool_changes.proofs.Untold.{untold-maps, untold-read}
use Rattle.pool_changes.proofs.laws.untold_is_read.Goals as goal

pub returns-clause-read : goal.returns-clause-read
returns-clause-read c = λ d. untold-read d c.args.old.now c.args.new.now c.made.ensures c.made-2.ensures

pub returns-clause-maps : goal.returns-clause-maps
returns-clause-maps c = λ d. untold-maps d c.args.old.now c.args.new.now c.made.ensures c.made-2.ensures
