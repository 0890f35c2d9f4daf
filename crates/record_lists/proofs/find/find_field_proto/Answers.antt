use Rattle.std.proofs.Common.{rules}
use Rattle.record_lists.proofs.find.find_field_proto.Goals as goal

pub returns-in-Field : goal.returns-in-Field
returns-in-Field c = search rules

pub returns-in_default : goal.returns-in_default
returns-in_default c = search rules
