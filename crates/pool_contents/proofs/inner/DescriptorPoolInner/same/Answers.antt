use Rattle.std.proofs.Common.{rules}
use Rattle.pool_contents.proofs.inner.DescriptorPoolInner.same.Goals as goal

pub returns-else-same_names : goal.returns-else-same_names
returns-else-same_names c = search rules

pub returns-then-same_names : goal.returns-then-same_names
returns-then-same_names c = search rules
