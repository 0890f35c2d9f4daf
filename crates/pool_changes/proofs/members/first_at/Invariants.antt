use Rattle.std.proofs.Common.{◌≡◌, None, take}
use Rattle.schema_changes.specs.Changes.{compared, first_some}
use Rattle.pool_changes.specs.Members.{old_at}
use Rattle.pool_changes.proofs.members.first_at.Given as goal

-- none of the positions so far has one
abbrev pub invariant-loop-position : goal.invariant-loop-position
invariant-loop-position l = first_some (old_at (compared l.sides)) (take l.position-index l.positions) ≡ None
