use Rattle.std.proofs.Common.{ℕ, ◌+◌, ◌<◌, slice_index}
use Rattle.plain_data.proofs.digests.is_rising.Given as goal

-- each number so far is less than the next
abbrev pub invariant-loop-next : goal.invariant-loop-next
invariant-loop-next l = (k : ℕ) → k + 1 < l.next → slice_index l.numbers k < slice_index l.numbers (k + 1)
