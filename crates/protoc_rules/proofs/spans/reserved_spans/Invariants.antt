use Rattle.std.proofs.Common.{◌≡◌, map, take}
use Rattle.protoc_rules.specs.Spans.{reserved_span}
use Rattle.protoc_rules.proofs.spans.reserved_spans.Given as goal

abbrev pub invariant-loop-range : goal.invariant-loop-range
invariant-loop-range l = l.spans ≡ map reserved_span (take l.range-index l.ranges)
