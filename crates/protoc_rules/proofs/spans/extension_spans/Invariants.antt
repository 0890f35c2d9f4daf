use Rattle.std.proofs.Common.{◌≡◌, map, take}
use Rattle.protoc_rules.specs.Spans.{extension_span}
use Rattle.protoc_rules.proofs.spans.extension_spans.Given as goal

abbrev pub invariant-loop-range : goal.invariant-loop-range
invariant-loop-range l = l.spans ≡ map extension_span (take l.range-index l.ranges)
