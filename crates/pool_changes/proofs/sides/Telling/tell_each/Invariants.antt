use Rattle.std.proofs.Common.{◌≡◌, ◌++◌, take, flat_map}
use Rattle.schema_changes.specs.Changes.{compared}
use Rattle.pool_changes.specs.Comparing.{told_if}
use Rattle.pool_changes.specs.Sides.{versions}
use Rattle.pool_changes.proofs.sides.Telling.tell_each.Given as goal

-- the changes so far are told
abbrev pub invariant-loop-change : goal.invariant-loop-change
invariant-loop-change l = l.told ≡ l.initial.told ++ flat_map (told_if (versions l.self) (compared l.sides)) (take l.change-index l.found)
