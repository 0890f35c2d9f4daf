use Rattle.std.proofs.Common.{rules}
use Rattle.field_rules.proofs.encoding.supports_presence.Goals as goal

pub returns-else-is_message : goal.returns-else-is_message
returns-else-is_message c = search rules

pub returns-else-ne : goal.returns-else-ne
returns-else-ne c = search rules

pub returns-then-is_message : goal.returns-then-is_message
returns-then-is_message c = search rules

pub returns-then-proto3_optional : goal.returns-then-proto3_optional
returns-then-proto3_optional c = search rules
