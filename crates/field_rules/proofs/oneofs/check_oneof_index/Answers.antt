use Rattle.std.proofs.Common.{rules}
use Rattle.field_rules.proofs.oneofs.check_oneof_index.Goals as goal

pub returns-else-is_some : goal.returns-else-is_some
returns-else-is_some c = search rules

pub returns-in_ok-tell_invalid_oneof : goal.returns-in_ok-tell_invalid_oneof
returns-in_ok-tell_invalid_oneof c = search rules
