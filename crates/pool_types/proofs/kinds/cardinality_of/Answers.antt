use Rattle.std.proofs.Common.{rules}
use Rattle.pool_types.proofs.kinds.cardinality_of.Goals as goal

pub returns-in-Optional : goal.returns-in-Optional
returns-in-Optional c = search rules

pub returns-in-Repeated : goal.returns-in-Repeated
returns-in-Repeated c = search rules

pub returns-in-Required : goal.returns-in-Required
returns-in-Required c = search rules
