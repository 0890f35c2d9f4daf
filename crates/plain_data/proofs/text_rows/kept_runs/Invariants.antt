use Rattle.std.proofs.Common.{◌≤◌, length}
use Rattle.plain_data.proofs.text_rows.kept_runs.Given as goal

abbrev pub invariant-loop-kept : goal.invariant-loop-kept
invariant-loop-kept l = l.kept ≤ length l.fn.runs

abbrev pub decreases-loop-kept : goal.decreases-loop-kept
decreases-loop-kept l = l.kept
