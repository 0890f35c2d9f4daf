use Rattle.record_walk.proofs.Indexes.{indexes-count-on}
use Rattle.record_walk.proofs.laws.declared_indexes.Goals as goal

pub returns : goal.returns
returns c = indexes-count-on c.args.base c.args.files.now
