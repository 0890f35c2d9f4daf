use Rattle.std.proofs.Common.{◌≡◌, ◌++◌}
use Rattle.pool_types.specs.Members.{left_from, members}
use Rattle.numbered_pool.proofs.lists.indexes_in.Given as goal

-- the indexes so far, and those that are left
abbrev pub invariant-loop-index : goal.invariant-loop-index
invariant-loop-index g l =
    l.indexes.items ++ left_from (g.T.Declared.is_in l.fn.around) l.fn.items l.index
    ≡ members (g.T.Declared.is_in l.fn.around) l.fn.items
