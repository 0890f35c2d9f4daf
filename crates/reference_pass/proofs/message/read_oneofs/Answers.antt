use Rattle.std.proofs.lemmas.Grind.{common_steps}
use Rattle.std.proofs.Common.{List, ◌<◌, length, get_or, subst, arith, ◌≡◌, ◌++◌, ◌∷◌, [], ap, ◌∙◌, sym}
use Rattle.std.proofs.lemmas.List.Elements.{All-push}
use Rattle.std.specs.List.{All}
use Rattle.pool_types.specs.declared.contents.oneof.OneofDescriptorInner.{OneofDescriptorInner}
use Rattle.proto_types.specs.declared.message.DescriptorProto.{out-DescriptorProto}
use Rattle.proto_types.specs.declared.message.OneofDescriptorProto.{OneofDescriptorProto}
use Rattle.proto_types.specs.declared.tag.message.TheConstants.{ONEOF_DECL}
use Rattle.proto_types.specs.Names.{join}
use Rattle.record_walk.specs.Protos.{of_oneof}
use Rattle.proto_types.specs.Paths.{entry_path}
use Rattle.field_rules.specs.Oneofs.{members}
use Rattle.reference_pass.specs.Items.{oneof_item}
use Rattle.field_rules.specs.Identities.{named_at}
use Rattle.field_rules.specs.NamesBegin.{BeginsAtBoundary}
use Rattle.record_walk.specs.Place.{inside_of, part_inside}
use Rattle.field_rules.proofs.Each.{each-next}
use Rattle.field_rules.proofs.Listed.{length-each}
use Rattle.reference_pass.proofs.Entries.{made-at}
use Rattle.reference_pass.proofs.message.read_oneofs.Goals as goal

-- each oneof has a list
pub index-requires : goal.index-requires
index-requires c =
    let oneofs = c.as_slice-oneofs.result.now in
    let count = ap length c.in_ok-lists.ensures ∙ length-each (members c.as_slice.result.now) 0 oneofs in
    omega (arith, count, c.loop-position-test.true)

-- one more oneof is read
pub loop-position-preserved : goal.loop-position-preserved
loop-position-preserved c =
    let m = out-DescriptorProto c.args.message.now in
    let here = inside_of c.args.place in
    let i = c.loop-position.position in
    let o = c.index-oneofs-position.result in
    let slice = c.as_slice-oneofs.ensures in
    let below = subst (λ (xs : List OneofDescriptorProto). i < length xs) slice c.loop-position-test.true in
    let is = subst (λ (xs : List OneofDescriptorProto). o ≡ get_or xs i o) slice c.index-oneofs-position.is in
    let Begins : OneofDescriptorInner → Type 0 = λ g. BeginsAtBoundary g.id in
    let id = c.in_ok-id.ensures.id ∙ ap (λ name. named_at here.file (entry_path here.path ONEOF_DECL i) (join here.scope name) name) c.name.ensures in
    let d = c.index.result.now in
    let list = ap (λ lists. get_or lists i d) c.in_ok-lists.ensures ∙ made-at (members c.as_slice.result.now) c.as_slice-oneofs.result.now i d c.loop-position-test.true in
    let fields = c.in_ok-fields.ensures ∙ c.as_slice-in-loop-position.ensures ∙ c.index.ensures ∙ list ∙ ap (λ fs. members fs i) c.as_slice.ensures in
    record {
      items = c.in_ok-push.ensures.items ∙ (λ j. c.loop-position.invariant.items j ++ record { id = id j; fields = fields j } ∷ [])
          ∙ sym (each-next (λ n p. oneof_item m.field (part_inside here ONEOF_DECL n (of_oneof p))) m.oneof_decl i o below is);
      begin = subst (All Begins) (sym c.in_ok-push.ensures.items)
          (All-push Begins c.loop-position.items.items (record { id = c.in_ok-id.id; fields = c.in_ok-fields.fields }) c.loop-position.invariant.begin c.in_ok-id.ensures.begins);
    }

pub returns-clause-items : goal.returns-clause-items
returns-clause-items c = grind (arith, common_steps)
