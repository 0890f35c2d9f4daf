use Rattle.std.proofs.Common.{subst}
use Rattle.std.specs.List.{All}
use Rattle.pool_types.specs.Contents.{Contents}
use Rattle.pool_contents.specs.Inner.{contents_in}
use Rattle.descriptor_pool.specs.Maps.{MapsLead}
use Rattle.descriptor_pool.proofs.Leading.{maps_lead}
use Rattle.descriptor_pool.proofs.pool.DescriptorPool.messages.Goals as goal

pub returns-clause-maps : goal.returns-clause-maps
returns-clause-maps c = subst (λ (p : Contents). All MapsLead p.messages) c.self.view_is (maps_lead (contents_in c.self.inside.inner) c.self.invariant)
