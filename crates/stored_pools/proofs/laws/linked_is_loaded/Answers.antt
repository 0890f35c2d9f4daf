use Rattle.stored_pools.proofs.Makes.{linked-loaded}
use Rattle.stored_pools.proofs.laws.linked_is_loaded.Goals as goal

pub returns : goal.returns
returns c = linked-loaded c.written_is_read.ensures.set
