use Rattle.std.proofs.Common.{rules, ◌≡◌, Some, None, ap, sym, ◌∙◌}
use Rattle.std.proofs.lemmas.List.{take_all}
use Rattle.proto_types.specs.declared.tag.file.TheConstants.{MESSAGE_TYPE}
use Rattle.record_walk.specs.Counts.{no_counts}
use Rattle.record_walk.specs.Totals.{nowhere, both_sums}
use Rattle.record_walk.proofs.Tallies.{message_tally, messages_tally, message-tally, messages-tally}
use Rattle.record_walk.proofs.Saturated.{in_64, saturated-next, saturated-none}
use Rattle.record_walk.proofs.counts.totals.Totals.of_messages.Goals as goal

pub returns-in_err-of_message : goal.returns-in_err-of_message
returns-in_err-of_message c =
    let m = c.message-item.result in
    let none : in_64 (message_tally m) ≡ None = sym (ap in_64 (message-tally nowhere MESSAGE_TYPE 0 no_counts m)) ∙ search rules in
    let left : c.from_residual.result ≡ None = search rules in
    left ∙ sym (ap in_64 (messages-tally nowhere MESSAGE_TYPE 0 no_counts c.args.messages.now)
    ∙ saturated-none message_tally c.args.messages.now c.loop-message.message-index m c.loop-message-test.true c.message-item.is none)

pub loop-message-preserved : goal.loop-message-preserved
loop-message-preserved c =
    let m = c.message-item.result in
    let more : in_64 (message_tally m) ≡ Some c.in_ok-of_message.field-0 = sym (ap in_64 (message-tally nowhere MESSAGE_TYPE 0 no_counts m)) ∙ search rules in
    saturated-next message_tally c.args.messages.now c.loop-message.message-index m c.loop-message-test.true c.message-item.is
    ∙ (λ i. both_sums (c.loop-message.invariant i) (more i))
    ∙ ap Some (sym c.plus-sum.ensures)

pub returns : goal.returns
returns c =
    sym (ap in_64 (messages-tally nowhere MESSAGE_TYPE 0 no_counts c.args.messages.now)
    ∙ ap (λ ms. in_64 (messages_tally ms)) (sym (take_all c.loop-message.message-index c.args.messages.now c.loop-message-test.false))
    ∙ c.loop-message.invariant)
