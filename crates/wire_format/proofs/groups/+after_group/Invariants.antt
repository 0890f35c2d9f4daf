use Rattle.std.proofs.Common.{◌≡◌, ◌≤◌, ℕ, List, ◌∷◌, length}
use Rattle.wire_format.specs.Fields.{tokens, fields_within}
use Rattle.wire_format.proofs.groups.+after_group.Given as goal

abbrev pub decreases-after_group : goal.decreases-after_group
decreases-after_group l = length l.bytes.now

abbrev pub invariant-loop-field : goal.invariant-loop-field
invariant-loop-field l = record {
  same : (outer : List ℕ) → fields_within l.levels l.ends (l.number ∷ outer) (tokens l.ends l.bytes) ≡ fields_within l.levels l.ends (l.number ∷ outer) (tokens l.ends l.rest);
  shorter : length l.rest ≤ length l.bytes;
}

abbrev pub decreases-loop-field : goal.decreases-loop-field
decreases-loop-field l = length l.rest
