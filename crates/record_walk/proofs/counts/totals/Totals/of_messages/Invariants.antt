use Rattle.std.proofs.Common.{◌≡◌, Some, take}
use Rattle.record_walk.proofs.Saturated.{in_64}
use Rattle.record_walk.proofs.Tallies.{messages_tally}
use Rattle.record_walk.proofs.counts.totals.Totals.of_messages.Given as goal

-- the messages so far are summed
abbrev pub invariant-loop-message : goal.invariant-loop-message
invariant-loop-message l = in_64 (messages_tally (take l.message-index l.messages)) ≡ Some l.sum
