use Rattle.record_walk.proofs.Paths.{paths-lead-in}
use Rattle.record_walk.proofs.laws.declared_paths.Goals as goal

pub returns : goal.returns
returns c = paths-lead-in c.args.base c.args.files.now
