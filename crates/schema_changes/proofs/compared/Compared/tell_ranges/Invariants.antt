use Rattle.std.proofs.Common.{◌≡◌, ◌++◌, take, flat_map}
use Rattle.schema_changes.specs.Changes.{compared, range_changes}
use Rattle.schema_changes.proofs.compared.Compared.tell_ranges.Given as goal

abbrev pub invariant-loop-range : goal.invariant-loop-range
invariant-loop-range l = l.changes.items ≡ l.initial.changes.items ++ flat_map (range_changes (compared l.self)) (take l.range-index l.reserved)
