use Rattle.std.proofs.Common.{rules, ◌≡◌, pos, Some, slice_index_or, ◌∙◌}
use Rattle.plain_data.specs.Lists.{at}
use Rattle.proto_types.specs.declared.message.DescriptorProto.{out-DescriptorProto}
use Rattle.proto_types.specs.declared.tag.message.TheConstants as message
use Rattle.verdict_texts.proofs.Going.{oneof-on}
use Rattle.verdict_texts.proofs.indexes.+oneof_index.Goals as goal

-- a nested message is gone into where its position is
pub returns-in-Some : goal.returns-in-Some
returns-in-Some t c =
    let path = c.args.path.now in
    let m = c.args.message.now in
    let nested = c.in-Some.nested.now in
    let tag : slice_index_or path 0 (pos 0) ≡ message.NESTED_TYPE = search rules in
    let got : at (out-DescriptorProto m).nested_type (slice_index_or path 1 (pos 0)) ≡ Some nested = search rules in
    c.oneof_index.ensures ∙ oneof-on m nested path c.in-len2-up.len_at_least tag got
