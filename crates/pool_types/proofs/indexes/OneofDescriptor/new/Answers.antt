use Rattle.std.proofs.Common.{rules}
use Rattle.pool_types.proofs.indexes.OneofDescriptor.new.Goals as goal

pub returns : goal.returns
returns c = search rules
