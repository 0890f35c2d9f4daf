use Rattle.joined_files.proofs.Joins.{names-none}
use Rattle.joined_files.proofs.joining.Joining.new.Goals as goal

-- there are no names yet
pub invariant_of-result : goal.invariant_of-result
invariant_of-result c = names-none c.new-2.result c.new.result.items c.new-2.ensures c.new.ensures.items
