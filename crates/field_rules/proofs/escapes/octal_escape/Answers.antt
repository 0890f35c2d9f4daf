use Rattle.std.proofs.lemmas.Grind.{common_steps}
use Rattle.std.proofs.Common.{rules, arith}
use Rattle.field_rules.proofs.escapes.octal_escape.Goals as goal

pub returns-in-Ok : goal.returns-in-Ok
returns-in-Ok c = search rules

pub returns-in_default-octal_digit : goal.returns-in_default-octal_digit
returns-in_default-octal_digit c = grind (arith, common_steps)
