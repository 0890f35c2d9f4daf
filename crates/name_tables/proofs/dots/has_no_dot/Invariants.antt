use Rattle.std.proofs.Common.{◌-◌, ◌≢◌, ◌<◌, ◌≤◌, ℕ, length, slice_index}
use Rattle.name_tables.proofs.dots.has_no_dot.Given as goal

abbrev pub invariant-loop-at : goal.invariant-loop-at
invariant-loop-at l = record {
  within : l.at ≤ length l.bytes;
  before : (i : ℕ) → i < l.at → slice_index l.bytes i ≢ 46;
}

abbrev pub decreases-loop-at : goal.decreases-loop-at
decreases-loop-at l = l.len - l.at
