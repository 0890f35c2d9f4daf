use Rattle.std.proofs.Common.{rules}
use Rattle.field_rules.proofs.escape_faults.ValueFaultFromEscapeFault.from.Goals as goal

pub returns-in-OutOfMemory : goal.returns-in-OutOfMemory
returns-in-OutOfMemory c = search rules
