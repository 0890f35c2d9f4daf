use Rattle.std.proofs.Common.{rules}
use Rattle.record_lists.proofs.reference.add_given.Goals as goal

pub returns : goal.returns
returns c = search rules

pub returns-then-is_empty : goal.returns-then-is_empty
returns-then-is_empty c = search rules
