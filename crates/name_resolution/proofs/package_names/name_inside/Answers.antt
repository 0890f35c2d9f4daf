use Rattle.std.proofs.Common.{rules}
use Rattle.name_resolution.proofs.package_names.name_inside.Goals as goal

pub returns : goal.returns
returns c = search rules
