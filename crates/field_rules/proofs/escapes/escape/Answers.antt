use Rattle.std.proofs.Common.{arith}
use Rattle.std.proofs.lemmas.Grind.{common_steps}
use Rattle.field_rules.proofs.escapes.escape.Goals as goal

pub returns-in-Some : goal.returns-in-Some
returns-in-Some c = grind (arith, common_steps)

pub returns-in_ok-simple_escape-in-None : goal.returns-in_ok-simple_escape-in-None
returns-in_ok-simple_escape-in-None c = grind (arith, common_steps)
