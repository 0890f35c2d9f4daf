use Rattle.name_tables.proofs.Earlier.{earlier-names}
use Rattle.name_tables.proofs.laws.earlier_names_stay.Goals as goal

pub returns : goal.returns
returns c = earlier-names
