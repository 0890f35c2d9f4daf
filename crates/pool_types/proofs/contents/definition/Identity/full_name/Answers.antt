use Rattle.std.proofs.Common.{rules}
use Rattle.pool_types.proofs.contents.definition.Identity.full_name.Goals as goal

pub returns : goal.returns
returns c = search rules
