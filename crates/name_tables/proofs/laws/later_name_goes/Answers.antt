use Rattle.name_tables.proofs.Earlier.{later-name}
use Rattle.name_tables.proofs.laws.later_name_goes.Goals as goal

pub returns : goal.returns
returns c = later-name
