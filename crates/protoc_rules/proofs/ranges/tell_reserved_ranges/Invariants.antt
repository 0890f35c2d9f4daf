use Rattle.std.proofs.Common.{◌≡◌, ◌++◌, take}
use Rattle.protoc_rules.specs.Faults.{each_told}
use Rattle.protoc_rules.specs.Ranges.{reserved_range_faults}
use Rattle.protoc_rules.proofs.ranges.tell_reserved_ranges.Given as goal

abbrev pub invariant-loop-position : goal.invariant-loop-position
invariant-loop-position l = l.found ≡ l.initial.found ++ each_told (reserved_range_faults l.id) (take l.position l.spans)
