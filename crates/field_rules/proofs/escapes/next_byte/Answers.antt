use Rattle.std.proofs.Common.{arith}
use Rattle.std.proofs.lemmas.Grind.{common_steps}
use Rattle.field_rules.proofs.escapes.next_byte.Goals as goal

pub returns-in_ok-escape-in-92 : goal.returns-in_ok-escape-in-92
returns-in_ok-escape-in-92 c = grind (arith, common_steps)

pub returns-in_err-escape-in-92 : goal.returns-in_err-escape-in-92
returns-in_err-escape-in-92 c = grind (arith, common_steps)
