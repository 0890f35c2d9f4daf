use Rattle.std.proofs.Common.{rules}
use Rattle.name_tables.proofs.hashed_names.HashedNames.new.Goals as goal

pub returns : goal.returns
returns c = search rules
