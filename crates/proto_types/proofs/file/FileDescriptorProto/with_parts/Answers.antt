use Rattle.std.proofs.Common.{rules}
use Rattle.proto_types.proofs.file.FileDescriptorProto.with_parts.Goals as goal

pub returns : goal.returns
returns c = search rules
