use Rattle.std.proofs.Common.{rules}
use Rattle.link_script.proofs.script.values.name_of.Goals as goal

pub returns : goal.returns
returns c = search rules
