use Rattle.std.proofs.Common.{rules}
use Rattle.protolink_c.proofs.boxes.closed.Goals as goal

pub returns-clause-number : goal.returns-clause-number
returns-clause-number c = search rules
