use Rattle.std.proofs.Common.{rules}
use Rattle.field_rules.proofs.enum_defaults.value_of.Goals as goal

pub returns-in-Enum : goal.returns-in-Enum
returns-in-Enum c = search rules

pub returns-in-Message : goal.returns-in-Message
returns-in-Message c = search rules

pub returns-in_default : goal.returns-in_default
returns-in_default c = search rules
