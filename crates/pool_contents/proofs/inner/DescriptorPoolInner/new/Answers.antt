use Rattle.std.proofs.Common.{rules}
use Rattle.pool_contents.proofs.inner.DescriptorPoolInner.new.Goals as goal

pub returns : goal.returns
returns c = search rules
