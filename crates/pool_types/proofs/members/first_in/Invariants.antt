use Rattle.std.proofs.Common.{◌≡◌}
use Rattle.pool_types.specs.Members.{left_from}
use Rattle.pool_types.proofs.members.first_in.Given as goal

-- no item that was looked at stands there
abbrev pub invariant-loop-at : goal.invariant-loop-at
invariant-loop-at g l =
    left_from (g.T.Declared.is_in l.fn.parent) l.fn.items l.fn.from ≡ left_from (g.T.Declared.is_in l.fn.parent) l.fn.items l.at
