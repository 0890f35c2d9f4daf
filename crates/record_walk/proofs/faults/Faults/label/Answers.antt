use Rattle.record_walk.proofs.Tells.{same-labels}
use Rattle.record_walk.proofs.faults.Faults.label.Goals as goal

-- labels name the same files as before
pub returns-clause-stays : goal.returns-clause-stays
returns-clause-stays c = same-labels c.args.self.now c.label.new.self _ c.label.ensures.files
