use Rattle.std.proofs.Common.{IfSome, None, Some, subst, sym}
use Rattle.std.specs.Option.{option_copied}
use Rattle.pool_contents.specs.Inner.{contents_in}
use Rattle.descriptor_pool.specs.Maps.{ValuesLead}
use Rattle.descriptor_pool.proofs.Leading.{enum_leads}
use Rattle.descriptor_pool.proofs.pool.DescriptorPool.enum_.Goals as goal

pub returns-clause-values : goal.returns-clause-values
returns-clause-values c =
    elim c.enum_.result as (λ got. IfSome (option_copied got) ValuesLead → IfSome got (λ e. ValuesLead e.now)) [ None ↦ λ has. tt | Some e ↦ λ has. has ]
    (subst (λ got. IfSome got ValuesLead) (sym c.enum_.ensures) (enum_leads (contents_in c.self.inside.inner) c.args.enumeration.index c.self.invariant))
