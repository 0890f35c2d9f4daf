use Rattle.std.proofs.Common.{◌≤◌, length}
use Rattle.name_tables.proofs.entered.numbers_before.Given as goal

abbrev pub invariant-loop-count : goal.invariant-loop-count
invariant-loop-count g l = l.count ≤ length l.values

abbrev pub decreases-loop-count : goal.decreases-loop-count
decreases-loop-count g l = l.count
