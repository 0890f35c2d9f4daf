use Rattle.std.proofs.Common.{rules}
use Rattle.descriptor_pool.proofs.pool.DescriptorPool.counts.Goals as goal

pub returns : goal.returns
returns c = search rules
