use Rattle.std.proofs.Common.{rules}
use Rattle.pool_types.proofs.indexes.MethodDescriptor.new.Goals as goal

pub returns : goal.returns
returns c = search rules
