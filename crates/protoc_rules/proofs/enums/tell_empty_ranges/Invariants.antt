use Rattle.std.proofs.Common.{◌≡◌, ◌++◌, take}
use Rattle.protoc_rules.specs.Faults.{each_told}
use Rattle.protoc_rules.specs.Enums.{empty_range_faults}
use Rattle.protoc_rules.proofs.enums.tell_empty_ranges.Given as goal

abbrev pub invariant-loop-position : goal.invariant-loop-position
invariant-loop-position l = l.found ≡ l.initial.found ++ each_told (empty_range_faults l.id) (take l.position l.spans)
