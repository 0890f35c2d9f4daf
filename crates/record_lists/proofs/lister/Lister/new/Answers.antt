use Rattle.std.proofs.Common.{rules}
use Rattle.record_lists.proofs.lister.Lister.new.Goals as goal

pub returns : goal.returns
returns c = search rules
