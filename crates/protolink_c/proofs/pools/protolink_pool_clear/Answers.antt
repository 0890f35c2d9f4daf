use Rattle.std.proofs.Common.{rules}
use Rattle.protolink_c.proofs.pools.protolink_pool_clear.Goals as goal

pub returns : goal.returns
returns c = search rules
