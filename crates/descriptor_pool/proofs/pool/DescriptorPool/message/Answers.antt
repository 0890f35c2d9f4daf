use Rattle.std.proofs.Common.{IfSome, None, Some, subst, sym}
use Rattle.std.specs.Option.{option_copied}
use Rattle.pool_contents.specs.Inner.{contents_in}
use Rattle.descriptor_pool.specs.Maps.{MapsLead}
use Rattle.descriptor_pool.proofs.Leading.{message_leads}
use Rattle.descriptor_pool.proofs.pool.DescriptorPool.message.Goals as goal

pub returns-clause-maps : goal.returns-clause-maps
returns-clause-maps c =
    elim c.message.result as (λ got. IfSome (option_copied got) MapsLead → IfSome got (λ m. MapsLead m.now)) [ None ↦ λ has. tt | Some m ↦ λ has. has ]
    (subst (λ got. IfSome got MapsLead) (sym c.message.ensures) (message_leads (contents_in c.self.inside.inner) c.args.message.index c.self.invariant))
