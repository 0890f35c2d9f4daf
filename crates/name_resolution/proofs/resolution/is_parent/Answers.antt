use Rattle.std.proofs.Common.{rules}
use Rattle.name_resolution.proofs.resolution.is_parent.Goals as goal

pub returns : goal.returns
returns c = search rules
