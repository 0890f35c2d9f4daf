use Rattle.std.proofs.Common.{rules}
use Rattle.record_walk.proofs.counts.Counts.plus.Goals as goal

pub returns : goal.returns
returns c = search rules
