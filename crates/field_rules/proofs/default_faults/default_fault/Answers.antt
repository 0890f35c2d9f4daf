use Rattle.std.proofs.Common.{rules}
use Rattle.field_rules.proofs.default_faults.default_fault.Goals as goal

pub returns : goal.returns
returns c = search rules
