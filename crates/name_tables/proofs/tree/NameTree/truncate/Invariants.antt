use Rattle.std.proofs.Common.{◌≡◌, take, length}
use Rattle.name_tables.proofs.tree.NameTree.truncate.Given as goal

-- the branches before the number are what they were
abbrev pub invariant-loop-self : goal.invariant-loop-self
invariant-loop-self l = take l.len l.self ≡ take l.len l.fn.self

abbrev pub decreases-loop-self : goal.decreases-loop-self
decreases-loop-self l = length l.self
