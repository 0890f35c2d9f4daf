use Rattle.std.proofs.Common.{◌≡◌, ◌≤◌, ◌<◌, ◌⊎◌, ℕ, length}
use Rattle.name_tables.specs.Entered.{found_before, value_at}
use Rattle.name_tables.proofs.entered.remove_all.Given as goal

-- the values of the numbers so far are gone, and the others are what they were
abbrev pub invariant-loop-number : goal.invariant-loop-number
invariant-loop-number g l = record {
  gone : (k : ℕ) → l.first ≤ k → k < l.number → value_at l.values.items k ≡ found_before g.T.InFile.file_of l.file (value_at l.fn.values.items k);
  others : (k : ℕ) → (k < l.first) ⊎ (l.number ≤ k) → value_at l.values.items k ≡ value_at l.fn.values.items k;
  len : length l.values.items ≡ length l.fn.values.items;
}
