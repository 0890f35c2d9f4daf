use Rattle.std.proofs.Common.{ap, ◌∙◌}
use Rattle.pool_types.specs.Contents.{Contents}
use Rattle.pool_types.specs.Extension.{extension_numbered}
use Rattle.pool_contents.specs.Inner.{contents_in}
use Rattle.descriptor_pool.proofs.Extendees.{numbers_lead}
use Rattle.descriptor_pool.proofs.pool.DescriptorPool.get_extension.Goals as goal

-- the messages of a pool lead from numbers to its extensions
pub returns-clause-extension : goal.returns-clause-extension
returns-clause-extension c =
    c.get_extension.ensures
    ∙ numbers_lead (contents_in c.self.inside.inner) c.self.invariant c.args.message.index c.args.number
    ∙ ap (λ (p : Contents). extension_numbered p.extensions c.args.message.index c.args.number) c.self.view_is
