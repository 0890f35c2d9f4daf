use Rattle.std.proofs.Common.{◌≡◌, ◌++◌, take, flat_map}
use Rattle.schema_changes.specs.Changes.{compared, joined_changes, old_member}
use Rattle.schema_changes.proofs.compared.Compared.tell_oneof.Given as goal

abbrev pub invariant-loop-position : goal.invariant-loop-position
invariant-loop-position l = l.changes.items ≡ l.initial.changes.items ++ flat_map (λ i. joined_changes l.first (old_member (compared l.self) i)) (take l.position-index l.positions)
