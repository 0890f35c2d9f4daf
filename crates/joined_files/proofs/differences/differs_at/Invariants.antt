use Rattle.std.proofs.Common.{◌≡◌, drop}
use Rattle.joined_files.specs.Differences.{differs_from}
use Rattle.joined_files.proofs.differences.differs_at.Given as goal

-- the entries so far are equal
abbrev pub invariant-loop-at : goal.invariant-loop-at
invariant-loop-at g l =
    differs_from g.T.PartialEq.eq l.at (drop l.at l.first) (drop l.at l.further) ≡ differs_from g.T.PartialEq.eq 0 l.first l.further
