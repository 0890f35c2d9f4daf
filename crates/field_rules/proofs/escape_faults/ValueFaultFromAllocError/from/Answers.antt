use Rattle.std.proofs.Common.{rules}
use Rattle.field_rules.proofs.escape_faults.ValueFaultFromAllocError.from.Goals as goal

pub returns : goal.returns
returns c = search rules
