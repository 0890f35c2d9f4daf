use Rattle.std.proofs.Common.{◌≡◌, true}
use Rattle.std.specs.List.{AllAdjacentBelow}
use Rattle.protoc_rules.specs.Spans.{precedes}
use Rattle.protoc_rules.proofs.spans.ascend.Given as goal

-- each range so far precedes the next
abbrev pub invariant-loop-position : goal.invariant-loop-position
invariant-loop-position l = AllAdjacentBelow (λ x y. precedes x y ≡ true) l.spans l.position
