use Rattle.std.proofs.Common.{◌+◌, length, OnOk, refl, rules, subst}
use Rattle.std.proofs.lemmas.Option.{slice_get_read}
use Rattle.proto_types.specs.declared.message.DescriptorProto.{out-DescriptorProto, out-roll-DescriptorProto}
use Rattle.record_walk.proofs.Listings.{on-ok}
use Rattle.reference_pass.specs.declared.linking.NextItems.{NextItems}
use Rattle.reference_pass.specs.Linking.{LinksFields, lists_of}
use Rattle.reference_pass.proofs.ByItems.{LinksExtensions, LinksMessages, message-ends, message-missing, messages-all, messages-more, messages-none}
use Rattle.reference_pass.proofs.linking.Linker.+link.Goals as goal

pub link_messages-loop-index-init : goal.link_messages-loop-index-init
link_messages-loop-index-init t c = record {
  unvisited = search rules;
  so_far = messages-none (lists_of c.args.self) c.args.next.now c.args.messages.now;
}

pub link_messages-loop-index-preserved : goal.link_messages-loop-index-preserved
link_messages-loop-index-preserved t c = record {
  unvisited = search rules;
  so_far = messages-more (lists_of c.args.self) c.args.next.now c.args.messages.now c.loop-index.next c.link_message.new.next c.loop-index.index c.loop-index.messages c.link_message.new.message _
      c.loop-index.invariant.so_far c.loop-index-test.true c.in_ok-link_message.ensures;
}

pub link_messages-returns : goal.link_messages-returns
link_messages-returns t c =
    messages-all (lists_of c.args.self) c.args.next.now c.args.messages.now c.loop-index.next c.loop-index.index c.loop-index.messages c.loop-index.invariant.so_far c.loop-index-test.false

pub link_message-returns-in_default : goal.link_message-returns-in_default
link_message-returns-in_default t c =
    message-missing (lists_of c.args.self) c.args.next.now c.args.message.now c.in_default.ensures.lookup.3

-- its fields are linked by its item, which is the next one, and then what stands in it
pub link_message-returns : goal.link_message-returns
link_message-returns t c =
    let it = lists_of c.args.self in
    let m = out-DescriptorProto c.args.message.now in
    let item = c.in-Some.item.now in
    let first : NextItems = record c.args.next.now { messages = c.args.next.now.messages + 1 } in
    let second = c.link_messages.new.next in
    let last = c.link_extensions.new.next in
    let got = slice_get_read c.args.self.messages.now (length c.args.self.messages.now) c.args.next.now.messages item refl c.in-Some.ensures.lookup.3.0 c.in-Some.ensures.lookup.1 in
    let fields = subst (λ fs. LinksFields it item.fields fs c.link_fields.new.fields) c.as_mut_slice.ensures.items
    (subst (λ items. LinksFields it items c.as_mut_slice.result.now c.link_fields.new.fields) c.as_slice.ensures c.in_ok-link_fields.ensures) in
    let nested = subst (λ ms. LinksMessages it first second ms c.link_messages.new.messages) (simp out-roll-DescriptorProto at c.as_mut_slice-2.ensures.items) c.in_ok-link_messages.ensures in
    let extensions = subst (λ xs. OnOk c.link_extensions.result (LinksExtensions it second last xs c.link_extensions.new.extensions))
    (simp out-roll-DescriptorProto at c.as_mut_slice-3.ensures.items) c.link_extensions.ensures in
    simp out-roll-DescriptorProto
    (on-ok c.link_extensions.result
    (message-ends it c.args.next.now first second last c.args.message.now item c.link_fields.new.fields c.link_messages.new.messages c.link_extensions.new.extensions got refl fields nested) extensions)
