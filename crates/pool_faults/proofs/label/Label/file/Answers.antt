use Rattle.std.proofs.Common.{rules}
use Rattle.pool_faults.proofs.label.Label.file.Goals as goal

pub returns : goal.returns
returns c = search rules
