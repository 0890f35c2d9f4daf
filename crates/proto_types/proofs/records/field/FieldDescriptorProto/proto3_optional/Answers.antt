use Rattle.std.proofs.Common.{rules}
use Rattle.proto_types.proofs.records.field.FieldDescriptorProto.proto3_optional.Goals as goal

pub returns : goal.returns
returns c = search rules
