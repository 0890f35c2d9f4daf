use Rattle.std.proofs.Common.{◌≡◌, ◌++◌, take}
use Rattle.protoc_rules.specs.Faults.{each_told}
use Rattle.protoc_rules.specs.Spans.{earlier_overlap}
use Rattle.protoc_rules.proofs.spans.tell_pairs.Given as goal

abbrev pub invariant-loop-position : goal.invariant-loop-position
invariant-loop-position l = l.found ≡ l.initial.found ++ each_told (earlier_overlap l.id l.tag l.spans) (take l.position l.spans)
