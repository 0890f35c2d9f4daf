use Rattle.std.proofs.Common.{rules}
use Rattle.proto_types.proofs.records.field.FieldDescriptorProto.type_name.Goals as goal

pub returns : goal.returns
returns c = search rules
