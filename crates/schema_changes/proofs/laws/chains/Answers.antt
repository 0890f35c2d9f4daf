use Rattle.schema_changes.proofs.Chained.{chain}
use Rattle.schema_changes.proofs.laws.chains.Goals as goal

pub returns : goal.returns
returns c = chain
