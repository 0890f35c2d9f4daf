use Rattle.std.proofs.Common.{rules}
use Rattle.name_resolution.proofs.resolution.ResolveNameResult.is_found.Goals as goal

pub returns-in-Found : goal.returns-in-Found
returns-in-Found c = search rules

pub returns-in_default : goal.returns-in_default
returns-in_default c = search rules
