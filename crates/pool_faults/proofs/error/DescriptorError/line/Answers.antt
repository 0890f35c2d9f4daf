use Rattle.std.proofs.Common.{rules}
use Rattle.pool_faults.proofs.error.DescriptorError.line.Goals as goal

pub returns : goal.returns
returns c = search rules
