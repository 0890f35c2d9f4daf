use Rattle.std.proofs.Common.{rules}
use Rattle.numbered_pool.proofs.known.added_by.Goals as goal

pub returns : goal.returns
returns c = search rules
