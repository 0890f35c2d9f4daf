use Rattle.std.proofs.Common.{arith, rules}
use Rattle.std.proofs.lemmas.Grind.{common_steps}
use Rattle.name_pass.proofs.enumeration.check_enum_values.Goals as goal

pub returns-else-eq : goal.returns-else-eq
returns-else-eq c = search rules

pub returns-in_default : goal.returns-in_default
returns-in_default c = search rules

pub returns-in_ok-push-4 : goal.returns-in_ok-push-4
returns-in_ok-push-4 c = grind (arith, common_steps)
