use Rattle.std.proofs.Common.{rules, ◌≡◌, ◌++◌, ◌<◌, ℤ, List, to_z, of_z, w32, length, get_or, ap, ◌∙◌, subst}
use Rattle.proto_types.specs.Paths.{entry_path}
use Rattle.proto_types.specs.declared.message.DescriptorProto.{DescriptorProto}
use Rattle.verdict_texts.specs.Places.{message_indexes}
use Rattle.verdict_texts.proofs.Indexed.{messages-next}
use Rattle.verdict_texts.proofs.places.+message.Goals as goal

-- one more message is looked at
pub add_messages-loop-position-preserved : goal.add_messages-loop-position-preserved
add_messages-loop-position-preserved t c =
    let path : List ℤ = c.args.path.now in
    let tag : ℤ = to_z w32 (of_z w32 c.args.tag) in
    let xs : List DescriptorProto = c.args.messages.now in
    let i = c.loop-position.position in
    let x = c.message-item.result in
    let paths : List (List ℤ) = c.loop-position.paths.items in
    let same = c.as_slice-message-items.ensures in
    let below = subst (λ (ys : List DescriptorProto). i < length ys) same c.loop-position-test.true in
    let is = subst (λ (ys : List DescriptorProto). x ≡ get_or ys i x) same c.message-item.is in
    let at : c.as_slice.result.now ≡ entry_path path tag i = search rules in
    let told : c.add_message.new.paths.items ≡ paths ++ message_indexes (entry_path path tag i) x =
    c.in_ok-add_message.ensures ∙ ap (λ p. paths ++ message_indexes p x) at in
    told ∙ messages-next c.args.paths.now.items paths path tag xs i x below is c.loop-position.invariant
