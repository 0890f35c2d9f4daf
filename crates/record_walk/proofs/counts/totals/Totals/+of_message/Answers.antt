use Rattle.std.proofs.Common.{rules, ◌≡◌, ◌≤◌, ◌-◌, ◌^◌, true, length, take, Some, None, ap, sym, ◌∙◌}
use Rattle.std.proofs.lemmas.List.{take_all}
use Rattle.proto_types.specs.declared.message.DescriptorProto.{out-DescriptorProto}
use Rattle.proto_types.specs.declared.tag.file.TheConstants.{MESSAGE_TYPE}
use Rattle.record_walk.specs.Counts.{no_counts, lists_fit}
use Rattle.record_walk.specs.Protos.{of_message}
use Rattle.record_walk.specs.Totals.{nowhere, both_sums, totals_of_enums}
use Rattle.record_walk.proofs.Tallies.{message_tally, messages_tally, message-tally}
use Rattle.record_walk.proofs.Saturated.{in_64, own_message, message-saturated, message-none, saturated-next, saturated-none, both_sums-assoc}
use Rattle.record_walk.proofs.counts.totals.Totals.+of_message.Goals as goal

pub returns-then-not-message_lists_fit : goal.returns-then-not-message_lists_fit
returns-then-not-message_lists_fit t c = sym (message-none c.args.message.now (search rules))

pub returns-in_err-of_enums : goal.returns-in_err-of_enums
returns-in_err-of_enums t c = search (rules, message-saturated)

-- where a nested message has a list that is too long, so has the whole
pub returns-in_err-of_message : goal.returns-in_err-of_message
returns-in_err-of_message t c =
    let m = out-DescriptorProto c.args.message.now in
    let n = c.nested-item.result in
    let items = c.as_slice-nested-items.result.now in
    let fits : lists_fit (of_message c.args.message.now) ≡ true = search rules in
    let small : length m.extension ≤ 2 ^ 64 - 1 = search rules in
    let front : both_sums (Some (own_message (length m.extension))) (totals_of_enums m.enum_type) ≡ Some c.plus-sum.result = search rules in
    let none : in_64 (message_tally n) ≡ None = sym (ap in_64 (message-tally nowhere MESSAGE_TYPE 0 no_counts n)) ∙ search rules in
    let deeper : in_64 (messages_tally items) ≡ None = saturated-none message_tally items c.loop-nested.nested-index n c.loop-nested-test.true c.nested-item.is none in
    c.from_residual-in_err-of_message.ensures
    ∙ sym (message-saturated c.args.message.now small fits
    ∙ (λ i. both_sums (front i) ((ap (λ ms. in_64 (messages_tally ms)) (sym c.as_slice-nested-items.ensures) ∙ deeper) i)))

pub loop-nested-preserved : goal.loop-nested-preserved
loop-nested-preserved t c =
    let n = c.nested-item.result in
    let items = c.as_slice-nested-items.result.now in
    let here = c.loop-nested.nested-index in
    let more : in_64 (message_tally n) ≡ Some c.in_ok-of_message.field-0 = sym (ap in_64 (message-tally nowhere MESSAGE_TYPE 0 no_counts n)) ∙ search rules in
    ap Some c.plus-sum-in-loop-nested.ensures
    ∙ (λ i. both_sums (c.loop-nested.invariant i) (sym more i))
    ∙ both_sums-assoc (Some c.plus-sum.result) (in_64 (messages_tally (take here items))) (in_64 (message_tally n))
    ∙ ap (both_sums (Some c.plus-sum.result)) (sym (saturated-next message_tally items here n c.loop-nested-test.true c.nested-item.is))

pub returns : goal.returns
returns t c =
    let m = out-DescriptorProto c.args.message.now in
    let items = c.as_slice-nested-items.result.now in
    let fits : lists_fit (of_message c.args.message.now) ≡ true = search rules in
    let small : length m.extension ≤ 2 ^ 64 - 1 = search rules in
    let front : both_sums (Some (own_message (length m.extension))) (totals_of_enums m.enum_type) ≡ Some c.plus-sum.result = search rules in
    c.loop-nested.invariant
    ∙ (λ i. both_sums (sym front i) (in_64 (messages_tally ((take_all c.loop-nested.nested-index items c.loop-nested-test.false ∙ c.as_slice-nested-items.ensures) i))))
    ∙ sym (message-saturated c.args.message.now small fits)
