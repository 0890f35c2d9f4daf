use Rattle.std.proofs.Common.{◌≡◌, ℕ, ◌≤◌, ◌<◌, ◌-◌}
use Rattle.std.specs.declared.cmp.Ordering.TheVariants.{Less, Greater}
use Rattle.plain_data.specs.TextRows.{text_order, text_at}
use Rattle.plain_data.proofs.text_rows.find_in_run.Given as goal

-- the texts below are less, and those above greater
abbrev pub invariant-loop-low : goal.invariant-loop-low
invariant-loop-low l =
    (l.fn.run.start ≤ l.low) × (l.low ≤ l.high) × (l.high ≤ l.fn.run.end)
    × ((i : ℕ) → l.fn.run.start ≤ i → i < l.low → text_order (text_at l.fn.bytes l.fn.rows i) l.fn.key ≡ Less)
    × ((i : ℕ) → l.high ≤ i → i < l.fn.run.end → text_order (text_at l.fn.bytes l.fn.rows i) l.fn.key ≡ Greater)

abbrev pub decreases-loop-low : goal.decreases-loop-low
decreases-loop-low l = l.high - l.low
