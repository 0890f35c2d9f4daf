use Rattle.std.proofs.Common.{rules}
use Rattle.proto_types.proofs.message.DescriptorProto.empty.Goals as goal

pub returns : goal.returns
returns c = search rules
