use Rattle.schema_changes.proofs.Keeping.{unchanged}
use Rattle.schema_changes.proofs.laws.unchanged_is_read.Goals as goal

pub returns : goal.returns
returns c = unchanged
