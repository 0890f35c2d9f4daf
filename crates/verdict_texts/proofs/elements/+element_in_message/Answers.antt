use Rattle.std.proofs.Common.{rules, ◌≡◌, ℕ, List, pos, Some, IfOk, slice_index_or, subst}
use Rattle.proto_types.specs.Names.{join}
use Rattle.proto_types.specs.declared.message.DescriptorProto.{out-DescriptorProto}
use Rattle.proto_types.specs.declared.tag.message.TheConstants as message
use Rattle.plain_data.specs.Lists.{at}
use Rattle.verdict_texts.specs.Elements.{message_name}
use Rattle.verdict_texts.proofs.Going.{element-on}
use Rattle.verdict_texts.proofs.elements.+element_in_message.Goals as goal

-- a nested message is gone into where its position is
pub returns-in_ok-full-in-Some : goal.returns-in_ok-full-in-Some
returns-in_ok-full-in-Some t c =
    let path = c.args.path.now in
    let full = c.args.full in
    let inner = c.in_ok-full-in-Some.full in
    let m = c.args.message.now in
    let nested = c.in-Some.nested.now in
    let tag : slice_index_or path 0 (pos 0) ≡ message.NESTED_TYPE = search rules in
    let got : at (out-DescriptorProto m).nested_type (slice_index_or path 1 (pos 0)) ≡ Some nested = search rules in
    let name : inner ≡ join full (message_name nested) = search rules in
    subst (λ (e : List ℕ). IfOk c.element_in_message.result (λ found. found ≡ e)) (element-on full inner m nested path c.in-len2-up.len_at_least tag got name)
    c.element_in_message.ensures
