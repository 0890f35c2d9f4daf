use Rattle.std.proofs.Common.{◌≡◌, None, take}
use Rattle.schema_changes.specs.Changes.{compared, first_some, old_member}
use Rattle.schema_changes.proofs.compared.Compared.first_member.Given as goal

abbrev pub invariant-loop-position : goal.invariant-loop-position
invariant-loop-position l = first_some (old_member (compared l.self)) (take l.position-index l.positions) ≡ None
