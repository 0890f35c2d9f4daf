use Rattle.std.proofs.Common.{rules}
use Rattle.record_lists.proofs.find.find_oneof_proto.Goals as goal

pub returns-in-Oneof : goal.returns-in-Oneof
returns-in-Oneof c = search rules

pub returns-in_default : goal.returns-in_default
returns-in_default c = search rules
