use Rattle.record_walk.proofs.Appended.{declarations-append}
use Rattle.record_walk.proofs.laws.declared_in_turn.Goals as goal

pub returns : goal.returns
returns c = declarations-append c.args.base c.args.files.now c.args.more.now
