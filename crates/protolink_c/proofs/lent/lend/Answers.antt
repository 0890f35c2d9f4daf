use Rattle.std.proofs.Common.{rules}
use Rattle.protolink_c.proofs.lent.lend.Goals as goal

pub returns-in-Some : goal.returns-in-Some
returns-in-Some c = search rules
