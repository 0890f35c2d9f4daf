use Rattle.std.proofs.Common.{rules}
use Rattle.record_lists.proofs.find.find_message_proto.Goals as goal

pub returns-in-Message : goal.returns-in-Message
returns-in-Message c = search rules

pub returns-in_default : goal.returns-in_default
returns-in_default c = search rules
