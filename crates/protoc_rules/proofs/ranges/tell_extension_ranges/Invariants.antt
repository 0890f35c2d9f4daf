use Rattle.std.proofs.Common.{◌≡◌, ◌++◌, take}
use Rattle.protoc_rules.specs.Faults.{each_told}
use Rattle.protoc_rules.specs.Ranges.{extension_range_faults}
use Rattle.protoc_rules.proofs.ranges.tell_extension_ranges.Given as goal

abbrev pub invariant-loop-position : goal.invariant-loop-position
invariant-loop-position l = l.found ≡ l.initial.found ++ each_told (extension_range_faults l.extensions.is_set l.id) (take l.position l.extensions.spans.now)
