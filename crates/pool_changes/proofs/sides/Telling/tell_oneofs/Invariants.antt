use Rattle.std.proofs.Common.{◌≡◌, ◌++◌, take, flat_map}
use Rattle.pool_changes.specs.Removed.{oneof_changes}
use Rattle.pool_changes.specs.Sides.{versions}
use Rattle.pool_changes.proofs.sides.Telling.tell_oneofs.Given as goal

-- the oneofs so far are told
abbrev pub invariant-loop-position : goal.invariant-loop-position
invariant-loop-position l = l.told ≡ l.initial.told ++ flat_map (oneof_changes (versions l.self) l.pair.before.now l.pair.after.now) (take l.position l.pair.before.now.oneofs)
