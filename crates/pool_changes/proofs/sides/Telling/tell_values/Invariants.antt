use Rattle.std.proofs.Common.{◌≡◌, ◌++◌, take, flat_map}
use Rattle.pool_changes.specs.Removed.{value_changes}
use Rattle.pool_changes.specs.Sides.{versions}
use Rattle.pool_changes.proofs.sides.Telling.tell_values.Given as goal

-- the values so far are told
abbrev pub invariant-loop-position : goal.invariant-loop-position
invariant-loop-position l = l.told ≡ l.initial.told ++ flat_map (value_changes (versions l.self) l.after) (take l.position l.before.values)
