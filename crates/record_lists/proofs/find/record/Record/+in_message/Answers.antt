use Rattle.std.proofs.Common.{rules, ◌≡◌, pos, Some, slice_index_or, sym, ◌∙◌}
use Rattle.proto_types.specs.declared.message.DescriptorProto.{out-DescriptorProto}
use Rattle.proto_types.specs.declared.tag.message.TheConstants as message
use Rattle.plain_data.specs.Lists.{at}
use Rattle.record_lists.proofs.Finding.{leads-on}
use Rattle.record_lists.proofs.find.record.Record.+in_message.Goals as goal

-- a nested message is found where its position is
pub returns-in_ok-entry-in-3 : goal.returns-in_ok-entry-in-3
returns-in_ok-entry-in-3 t c =
    let path = c.args.path.now in
    let tag : slice_index_or path 0 (pos 0) ≡ message.NESTED_TYPE = search rules in
    let got : at (out-DescriptorProto c.args.root.now).nested_type (slice_index_or path 1 (pos 0)) ≡ Some c.in_ok-entry-in-3.field-0.now = search rules in
    c.in_message.ensures ∙ sym (leads-on c.args.root.now c.in_ok-entry-in-3.field-0.now path c.in-len2-up.len_at_least tag got)
