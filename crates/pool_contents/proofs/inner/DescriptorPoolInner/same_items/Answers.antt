use Rattle.std.proofs.Common.{rules}
use Rattle.pool_contents.proofs.inner.DescriptorPoolInner.same_items.Goals as goal

pub returns-else-eq-4 : goal.returns-else-eq-4
returns-else-eq-4 c = search rules

pub returns-then-eq-4 : goal.returns-then-eq-4
returns-then-eq-4 c = search rules
