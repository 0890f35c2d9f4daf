use Rattle.std.proofs.Common.{◌≡◌, ◌++◌, take, flat_map}
use Rattle.schema_changes.specs.Changes.{compared, oneof_changes}
use Rattle.schema_changes.proofs.compared.Compared.tell_oneofs.Given as goal

abbrev pub invariant-loop-oneof : goal.invariant-loop-oneof
invariant-loop-oneof l = l.changes.items ≡ l.initial.changes.items ++ flat_map (oneof_changes (compared l.self)) (take l.oneof-index l.oneofs)
