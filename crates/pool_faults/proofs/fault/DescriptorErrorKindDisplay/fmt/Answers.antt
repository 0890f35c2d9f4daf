use Rattle.std.proofs.Common.{rules}
use Rattle.pool_faults.proofs.PathText.{debug_list-path}
use Rattle.pool_faults.proofs.fault.DescriptorErrorKindDisplay.fmt.Goals as goal

-- the path is printed as the library prints it
pub returns-in-MissingRequiredField-clause-writes :
    goal.returns-in-MissingRequiredField-clause-writes
returns-in-MissingRequiredField-clause-writes g c =
    search (rules, debug_list-path)
