use Rattle.std.proofs.Common.{◌≤◌}
use Rattle.name_tables.specs.Within.{IsPair}
use Rattle.name_tables.proofs.within.meet.Given as goal

-- the pair is one of two branches with the same name, and not behind the branch
abbrev pub invariant-loop-pair : goal.invariant-loop-pair
invariant-loop-pair l = IsPair l.branches l.others l.pair × (l.pair.branch ≤ l.at) × (l.at ≤ l.fn.at)

abbrev pub decreases-loop-pair : goal.decreases-loop-pair
decreases-loop-pair l = l.at
