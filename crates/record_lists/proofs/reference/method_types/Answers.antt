use Rattle.std.proofs.Common.{rules}
use Rattle.record_lists.proofs.reference.method_types.Goals as goal

pub returns-in-None-clause-input : goal.returns-in-None-clause-input
returns-in-None-clause-input c = search rules

pub returns-in-None-clause-output : goal.returns-in-None-clause-output
returns-in-None-clause-output c = search rules

pub returns-in-Some-clause-input : goal.returns-in-Some-clause-input
returns-in-Some-clause-input c = search rules

pub returns-in-Some-clause-output : goal.returns-in-Some-clause-output
returns-in-Some-clause-output c = search rules
