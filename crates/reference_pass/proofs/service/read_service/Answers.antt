use Rattle.std.proofs.Common.{rules}
use Rattle.reference_pass.proofs.service.read_service.Goals as goal

pub returns-clause-faults : goal.returns-clause-faults
returns-clause-faults c = search rules

pub returns-clause-item : goal.returns-clause-item
returns-clause-item c = search rules
