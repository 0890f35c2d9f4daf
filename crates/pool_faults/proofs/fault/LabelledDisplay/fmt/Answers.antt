use Rattle.std.proofs.Common.{arith, rules}
use Rattle.std.proofs.lemmas.Grind.{common_steps}
use Rattle.pool_faults.proofs.fault.LabelledDisplay.fmt.Goals as goal

pub returns-in-None-clause-styled : goal.returns-in-None-clause-styled
returns-in-None-clause-styled c = search rules

pub returns-in-None-clause-writes : goal.returns-in-None-clause-writes
returns-in-None-clause-writes c = search rules

pub returns-in-Some-clause-styled : goal.returns-in-Some-clause-styled
returns-in-Some-clause-styled c = search rules

pub returns-in-Some-clause-writes : goal.returns-in-Some-clause-writes
returns-in-Some-clause-writes c = grind (arith, common_steps)
