use Rattle.std.proofs.Common.{◌<◌, length}
use Rattle.name_tables.specs.Within.{IsPair}
use Rattle.name_tables.proofs.within.climb.Given as goal

-- the pair is one of two branches with the same name
abbrev pub invariant-loop-pair : goal.invariant-loop-pair
invariant-loop-pair l = IsPair l.branches l.others l.pair × (l.pair.branch < length l.branches)

abbrev pub decreases-loop-pair : goal.decreases-loop-pair
decreases-loop-pair l = l.pair.branch
