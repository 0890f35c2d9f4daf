use Rattle.std.proofs.Common.{rules}
use Rattle.field_rules.proofs.escapes.simple_escape.Goals as goal

pub returns-in_default : goal.returns-in_default
returns-in_default c = search rules
