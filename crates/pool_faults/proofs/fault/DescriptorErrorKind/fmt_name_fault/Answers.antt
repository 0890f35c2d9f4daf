use Rattle.std.proofs.Common.{arith}
use Rattle.std.proofs.lemmas.Grind.{common_steps}
use Rattle.pool_faults.proofs.fault.DescriptorErrorKind.fmt_name_fault.Goals as goal

pub returns-else-eq : goal.returns-else-eq
returns-else-eq c = grind (arith, common_steps)
