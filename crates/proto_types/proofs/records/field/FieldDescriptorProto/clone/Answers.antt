use Rattle.std.proofs.Common.{rules}
use Rattle.proto_types.proofs.records.field.FieldDescriptorProto.clone.Goals as goal

pub returns : goal.returns
returns c = search rules
