use Rattle.check_laws.proofs.Against.{accepted-read, has-pools}
use Rattle.check_laws.proofs.laws.accepted_is_read.Goals as goal

pub returns-clause-read : goal.returns-clause-read
returns-clause-read c = accepted-read c.args.wanted.now c.args.older.now c.args.inputs.now c.args.answer.now c.args.old.now c.args.new.now c.untold_is_read.ensures.read c.untold_is_read.ensures.maps c.untold_is_kept.ensures

pub returns-clause-pools : goal.returns-clause-pools
returns-clause-pools c = has-pools c.args.wanted.now c.args.older.now c.args.inputs.now c.args.answer.now
