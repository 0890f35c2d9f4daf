use Rattle.std.proofs.Common.{rules}
use Rattle.reference_pass.proofs.field.is_proto3.Goals as goal

pub returns-in-Proto2 : goal.returns-in-Proto2
returns-in-Proto2 c = search rules

pub returns-in-Proto3 : goal.returns-in-Proto3
returns-in-Proto3 c = search rules
