use Rattle.std.proofs.Common.{rules}
use Rattle.pool_types.proofs.contents.service.MethodDescriptorInner.clone.Goals as goal

pub returns : goal.returns
returns c = search rules
