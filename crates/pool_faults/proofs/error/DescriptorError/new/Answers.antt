use Rattle.std.proofs.Common.{rules}
use Rattle.pool_faults.proofs.error.DescriptorError.new.Goals as goal

pub returns : goal.returns
returns c = search rules
