use Rattle.std.proofs.Common.{rules}
use Rattle.record_lists.proofs.find.find_method_proto.Goals as goal

pub returns-in-Method : goal.returns-in-Method
returns-in-Method c = search rules

pub returns-in_default : goal.returns-in_default
returns-in_default c = search rules
