use Rattle.std.proofs.Common.{◌≡◌, ◌++◌, take}
use Rattle.protoc_rules.specs.Faults.{each_told}
use Rattle.protoc_rules.specs.Spans.{reserved_overlap}
use Rattle.protoc_rules.proofs.spans.tell_pairs_across.Given as goal

abbrev pub invariant-loop-position : goal.invariant-loop-position
invariant-loop-position l = l.found ≡ l.initial.found ++ each_told (reserved_overlap l.id l.ranges.reserved.now) (take l.position l.fn.ranges.extensions.now)
