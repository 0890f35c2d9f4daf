use Rattle.std.proofs.Common.{subst, sym, ◌∙◌}
use Rattle.descriptor_pool.specs.Invariant.{IsPool}
use Rattle.descriptor_pool.proofs.pool.DescriptorPool.clone.Goals as goal

pub invariant_of-result : goal.invariant_of-result
invariant_of-result c = subst IsPool (sym c.in_ok-inner.ensures) c.self.invariant

pub returns : goal.returns
returns c = c.in_ok-inner.ensures ∙ c.self.view_is
