use Rattle.std.proofs.Common.{ℕ}
use Rattle.name_tables.specs.Tree.{IsDescendant}
use Rattle.name_tables.specs.Parts.{parts}
use Rattle.name_tables.proofs.tree.NameTree.descend_parts.Given as goal

-- the parts that are left lead from here to where all lead
abbrev pub invariant-loop-part : goal.invariant-loop-part
invariant-loop-part l =
    goal.iterator-loop-part.can_next l.part-iterator
    × goal.iterator-loop-part.is_finite l.part-iterator
    × ((k : ℕ) → IsDescendant l.self l.at l.part-iterator k → IsDescendant l.self l.from (parts l.text) k)
    × ((k : ℕ) → IsDescendant l.self l.from (parts l.text) k → IsDescendant l.self l.at l.part-iterator k)
