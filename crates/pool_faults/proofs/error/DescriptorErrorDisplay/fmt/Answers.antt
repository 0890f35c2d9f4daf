use Rattle.std.proofs.Common.{rules}
use Rattle.pool_faults.proofs.error.DescriptorErrorDisplay.fmt.Goals as goal

pub returns-in-None-clause-styled : goal.returns-in-None-clause-styled
returns-in-None-clause-styled c = search rules

pub returns-in-None-clause-writes : goal.returns-in-None-clause-writes
returns-in-None-clause-writes c = search rules

pub returns-in-Some-clause-styled : goal.returns-in-Some-clause-styled
returns-in-Some-clause-styled c = search rules

pub returns-in-Some-clause-writes : goal.returns-in-Some-clause-writes
returns-in-Some-clause-writes c = search rules
