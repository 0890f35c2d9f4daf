use Rattle.name_tables.proofs.Entries.{names_first}
use Rattle.name_tables.proofs.laws.names_are_first.Goals as goal

pub returns : goal.returns
returns c = names_first
