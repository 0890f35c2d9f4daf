use Rattle.std.proofs.Common.{rules}
use Rattle.pool_faults.proofs.fault.fmt_field_in_range.Goals as goal

pub returns : goal.returns
returns c = search rules
