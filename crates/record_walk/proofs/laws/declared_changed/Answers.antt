use Rattle.record_walk.proofs.Changed.{declare-changed}
use Rattle.record_walk.proofs.laws.declared_changed.Goals as goal

pub returns : goal.returns
returns c = λ changes keep. declare-changed changes keep c.args.base c.args.files.now
