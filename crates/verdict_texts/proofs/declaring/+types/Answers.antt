use Rattle.std.proofs.Common.{rules, ◌≡◌, List, ℕ, ◌<◌, [], ◌∷◌, ◌++◌, OnOk, length, take, get_or, append_assoc, ap, sym, subst, ◌∙◌}
use Rattle.proto_types.specs.Names.{join}
use Rattle.proto_types.specs.Readers.{text_of}
use Rattle.proto_types.specs.declared.message.DescriptorProto.{DescriptorProto, out-DescriptorProto}
use Rattle.verdict_texts.specs.Named.{enum_names, message_types, types_in}
use Rattle.verdict_texts.proofs.Declared.{types-next}
use Rattle.verdict_texts.proofs.Results.{on-ok}
use Rattle.verdict_texts.proofs.declaring.+types.Goals as goal

-- the names in one more message are added
pub add_messages-loop-message-preserved : goal.add_messages-loop-message-preserved
add_messages-loop-message-preserved t c =
    let scope : List ℕ = c.args.scope.now in
    let ms : List DescriptorProto = c.args.messages.now in
    let i = c.loop-message.message-index in
    let x = c.message-item.result in
    let start : List (List ℕ) = c.args.names.now in
    let own = message_types (join scope (text_of (out-DescriptorProto x).name)) x in
    let same = c.as_slice-message-items.ensures in
    let below = subst (λ (ys : List DescriptorProto). i < length ys) same c.loop-message-test.true in
    let is = subst (λ (ys : List DescriptorProto). x ≡ get_or ys i x) same c.message-item.is in
    c.in_ok-add_message.ensures ∙ ap (λ (ys : List (List ℕ)). ys ++ own) c.loop-message.invariant
    ∙ append_assoc start (types_in scope (take i ms)) own ∙ ap (λ (ys : List (List ℕ)). start ++ ys) (sym (types-next scope ms i x below is))

-- the name of a message is added, then those in its messages, and then those of its enums
pub add_message-returns : goal.add_message-returns
add_message-returns t c =
    let m = c.args.message.now in
    let nested = (out-DescriptorProto m).nested_type in
    let enums = (out-DescriptorProto m).enum_type in
    let full : List ℕ = join c.args.scope.now (text_of (out-DescriptorProto m).name) in
    let start : List (List ℕ) = c.args.names.now in
    let own : c.push.new.self ≡ start ++ full ∷ [] = search rules in
    let below : c.add_messages.new.names ≡ c.push.new.self ++ types_in full nested = search rules in
    let beside : OnOk c.add_enums.result (c.add_enums.new.names ≡ c.add_messages.new.names ++ enum_names full enums) = search rules in
    on-ok c.add_enums.result
    (λ (last : c.add_enums.new.names ≡ c.add_messages.new.names ++ enum_names full enums). last
    ∙ ap (λ (ys : List (List ℕ)). ys ++ enum_names full enums) (below ∙ ap (λ (ys : List (List ℕ)). ys ++ types_in full nested) own)
    ∙ append_assoc (start ++ full ∷ []) (types_in full nested) (enum_names full enums)
    ∙ append_assoc start (full ∷ []) (types_in full nested ++ enum_names full enums))
    beside
