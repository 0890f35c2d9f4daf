use Rattle.std.proofs.Common.{subst}
use Rattle.std.specs.List.{All}
use Rattle.pool_types.specs.Contents.{Contents}
use Rattle.pool_contents.specs.Inner.{contents_in}
use Rattle.descriptor_pool.specs.Maps.{ValuesLead}
use Rattle.descriptor_pool.proofs.Leading.{values_lead}
use Rattle.descriptor_pool.proofs.pool.DescriptorPool.enums.Goals as goal

pub returns-clause-values : goal.returns-clause-values
returns-clause-values c = subst (λ (p : Contents). All ValuesLead p.enums) c.self.view_is (values_lead (contents_in c.self.inside.inner) c.self.invariant)
