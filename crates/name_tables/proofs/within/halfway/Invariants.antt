use Rattle.std.proofs.Common.{◌≤◌, ◌<◌, ◌+◌}
use Rattle.name_tables.specs.Tree.{HasParent}
use Rattle.name_tables.specs.Within.{IsAbove}
use Rattle.name_tables.proofs.within.halfway.Given as goal

-- both stand on the way, and the middle is the first of it, or still behind the earlier branch
abbrev pub invariant-loop-end : goal.invariant-loop-end
invariant-loop-end l =
    IsAbove l.branches l.end l.at × IsAbove l.branches l.middle l.at
    × (l.middle ≤ l.from → HasParent l.branches l.at l.middle)
    × (l.steps + l.end < l.at)

abbrev pub decreases-loop-end : goal.decreases-loop-end
decreases-loop-end l = l.end
