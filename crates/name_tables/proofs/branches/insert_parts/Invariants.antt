use Rattle.std.proofs.Common.{◌≡◌, ◌<◌, ◌++◌, ℕ, List, length}
use Rattle.name_tables.specs.Parts.{parts}
use Rattle.name_tables.specs.Tree.{IsDescendant, IsTree, KeepsBranches}
use Rattle.name_tables.proofs.branches.insert_parts.Given as goal

-- the branches are a tree that keeps those that there were, and the parts so far lead down to a branch
abbrev pub invariant-loop-part : goal.invariant-loop-part
invariant-loop-part l =
    goal.iterator-loop-part.can_next l.part-iterator
    × goal.iterator-loop-part.is_finite l.part-iterator
    × IsTree l.tree
    × KeepsBranches l.fn.tree l.tree
    × (l.at < length l.tree)
    × (so_far : List (List ℕ)) × (so_far ++ l.part-iterator ≡ parts l.name) × IsDescendant l.tree l.from so_far l.at
