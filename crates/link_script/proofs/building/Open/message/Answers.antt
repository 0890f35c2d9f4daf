use Rattle.std.proofs.Common.{rules}
use Rattle.link_script.proofs.building.Open.message.Goals as goal

pub returns : goal.returns
returns c = search rules
