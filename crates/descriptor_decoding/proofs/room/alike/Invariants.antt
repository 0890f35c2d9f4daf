use Rattle.std.proofs.Common.{◌+◌, ◌≤◌, length}
use Rattle.descriptor_decoding.proofs.room.alike.Given as goal

abbrev pub invariant-loop-after : goal.invariant-loop-after
invariant-loop-after l = l.count + length l.rest ≤ length l.bytes

abbrev pub decreases-loop-after : goal.decreases-loop-after
decreases-loop-after l = length l.rest
