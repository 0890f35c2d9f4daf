use Rattle.std.proofs.Common.{rules}
use Rattle.field_rules.proofs.escape_faults.EscapeFaultFromAllocFailedU8.from.Goals as goal

pub returns : goal.returns
returns c = search rules
