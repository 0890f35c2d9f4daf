use Rattle.schema_changes.proofs.Chained.{chain}
use Rattle.pool_changes.proofs.Looking.{all-look-up}
use Rattle.pool_changes.proofs.Untold.{chain-unchanged}
use Rattle.pool_changes.proofs.laws.chains.Goals as goal

pub returns : goal.returns
returns c = λ first later pool pools none m n on levels vs written.
    chain first later (all-look-up first later pool pools) (chain-unchanged first later none) levels m n on vs written
