use Rattle.std.proofs.Common.{◌≡◌, Some, take}
use Rattle.record_walk.specs.Totals.{both_sums}
use Rattle.record_walk.proofs.Saturated.{in_64}
use Rattle.record_walk.proofs.Tallies.{messages_tally}
use Rattle.record_walk.proofs.counts.totals.Totals.+of_message.Given as goal

-- the nested messages so far are summed, behind the message's own
abbrev pub invariant-loop-nested : goal.invariant-loop-nested
invariant-loop-nested l = Some l.sum ≡ both_sums (Some l.initial.sum) (in_64 (messages_tally (take l.nested-index l.nested-items)))
