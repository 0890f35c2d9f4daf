use Rattle.std.proofs.Common.{◌≡◌, map, take}
use Rattle.protoc_rules.specs.Spans.{enum_span}
use Rattle.protoc_rules.proofs.spans.enum_spans.Given as goal

abbrev pub invariant-loop-range : goal.invariant-loop-range
invariant-loop-range l = l.spans ≡ map enum_span (take l.range-index l.ranges)
