use Rattle.std.proofs.Common.{rules}
use Rattle.record_lists.proofs.find.find_enum_value_proto.Goals as goal

pub returns-in-EnumValue : goal.returns-in-EnumValue
returns-in-EnumValue c = search rules

pub returns-in_default : goal.returns-in_default
returns-in_default c = search rules
