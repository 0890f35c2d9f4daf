use Rattle.std.proofs.Common.{◌<◌, ℕ}
use Rattle.name_tables.specs.Within.{AreCompared, IsWithinAt}
use Rattle.name_tables.proofs.within.is_within.Given as goal

-- the branches so far mean the same among others, and the pair is that of one of them, or the roots
abbrev pub invariant-loop-at : goal.invariant-loop-at
invariant-loop-at l =
    ((k : ℕ) → k < l.at → IsWithinAt l.branches l.others k)
    × AreCompared l.branches l.others l.pair l.at
