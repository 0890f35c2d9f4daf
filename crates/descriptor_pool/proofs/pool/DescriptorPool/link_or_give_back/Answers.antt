use Rattle.descriptor_pool.proofs.Grown.{all_told}
use Rattle.descriptor_pool.proofs.pool.DescriptorPool.link_or_give_back.Goals as goal

-- all faults are asked for
pub returns-clause-outcome : goal.returns-clause-outcome
returns-clause-outcome c = all_told c.args.self.now c.args.files.now.items c.link_within.result c.link_within.new.self c.link_within.ensures.outcome
