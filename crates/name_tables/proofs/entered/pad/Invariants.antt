use Rattle.std.proofs.Common.{◌≡◌, ◌≤◌, ◌<◌, ◌-◌, ℕ, length}
use Rattle.name_tables.specs.Entered.{value_at}
use Rattle.name_tables.proofs.entered.pad.Given as goal

-- each number has what it had
abbrev pub invariant-loop-values : goal.invariant-loop-values
invariant-loop-values g l = record {
  same : (k : ℕ) → value_at l.values.items k ≡ value_at l.fn.values.items k;
  len : (n : ℕ) → length l.fn.values.items ≤ n → l.number < n → length l.values.items ≤ n;
}

abbrev pub decreases-loop-values : goal.decreases-loop-values
decreases-loop-values g l = l.number - length l.values.items
