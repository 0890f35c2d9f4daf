use Rattle.stored_pools.proofs.Linked.{linked-whole}
use Rattle.stored_pools.proofs.laws.linked_are_whole.Goals as goal

pub returns : goal.returns
returns c = linked-whole c.args.pool.now c.made.ensures.counts_are
