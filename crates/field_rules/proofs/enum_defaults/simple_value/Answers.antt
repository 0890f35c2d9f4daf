use Rattle.std.proofs.Common.{rules}
use Rattle.field_rules.proofs.enum_defaults.simple_value.Goals as goal

pub returns-in-Err : goal.returns-in-Err
returns-in-Err c = search rules

pub returns-in-Err-OutOfMemory : goal.returns-in-Err-OutOfMemory
returns-in-Err-OutOfMemory c = search rules

pub returns-in-Ok : goal.returns-in-Ok
returns-in-Ok c = search rules
