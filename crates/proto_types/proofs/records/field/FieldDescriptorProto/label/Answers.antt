use Rattle.std.proofs.Common.{rules}
use Rattle.proto_types.proofs.records.field.FieldDescriptorProto.label.Goals as goal

pub returns-in-Some-eq2 : goal.returns-in-Some-eq2
returns-in-Some-eq2 c = search rules

pub returns-in-Some-eq3 : goal.returns-in-Some-eq3
returns-in-Some-eq3 c = search rules

pub returns-in_default : goal.returns-in_default
returns-in_default c = search rules

pub returns-in_default-2 : goal.returns-in_default-2
returns-in_default-2 c = search rules
