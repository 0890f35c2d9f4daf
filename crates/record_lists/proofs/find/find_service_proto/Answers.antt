use Rattle.std.proofs.Common.{rules}
use Rattle.record_lists.proofs.find.find_service_proto.Goals as goal

pub returns-in-Service : goal.returns-in-Service
returns-in-Service c = search rules

pub returns-in_default : goal.returns-in_default
returns-in_default c = search rules
