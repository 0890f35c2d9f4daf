use Rattle.std.proofs.Common.{rules}
use Rattle.pool_types.proofs.kinds.KindIndex.is_packable.Goals as goal

pub returns : goal.returns
returns c = search rules
