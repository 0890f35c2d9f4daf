use Rattle.std.proofs.Common.{rules}
use Rattle.proto_types.proofs.message.OneofDescriptorProto.clone.Goals as goal

pub returns : goal.returns
returns c = search rules
