use Rattle.std.proofs.lemmas.Grind.{common_steps}
use Rattle.std.proofs.Common.{arith, to_z, of_z, w32, ◌≡◌, ◌+◌, ◌<◌, ℕ, List, get_or, subst, ◌++◌, ◌∷◌, [], drop, length, ap, ◌∙◌, sym}
use Rattle.std.proofs.lemmas.List.{drop_more}
use Rattle.std.proofs.lemmas.Int.{to_z-of_z}
use Rattle.std.proofs.lemmas.List.Elements.{All-push}
use Rattle.std.specs.List.{All}
use Rattle.proto_types.specs.declared.tag.enum_.TheConstants.{VALUE}
use Rattle.proto_types.specs.Readers.{number_of, text_of}
use Rattle.proto_types.specs.declared.records.enumeration.EnumValueDescriptorProto.{EnumValueDescriptorProto}
use Rattle.pool_types.specs.declared.contents.definition.Identity.{Identity}
use Rattle.pool_types.specs.declared.contents.enumeration.EnumValueDescriptorInner.{EnumValueDescriptorInner}
use Rattle.record_walk.specs.Protos.{of_enum, of_value}
use Rattle.proto_types.specs.Paths.{entry_path}
use Rattle.field_rules.specs.Identities.{before_ending, named_at}
use Rattle.field_rules.specs.InnerNames.{AreNamesBeside}
use Rattle.field_rules.specs.EnumItems.{value_item}
use Rattle.field_rules.specs.NamesBegin.{BeginsAtBoundary}
use Rattle.record_walk.specs.Place.{shown_at, part_beside}
use Rattle.field_rules.proofs.Each.{each-next}
use Rattle.field_rules.proofs.enum_items.read_values.Goals as goal

-- the value at a position comes next
came : (vs : List EnumValueDescriptorProto) (i : ℕ) (v : EnumValueDescriptorProto) → i < length vs → v ≡ get_or vs i v → drop i vs ≡ v ∷ drop (i + 1) vs
came vs i v below is = drop_more vs i v below ∙ ap (λ w. w ∷ drop (i + 1) vs) (sym is)

pub identity_of_value-requires-clause-names : goal.identity_of_value-requires-clause-names
identity_of_value-requires-clause-names c =
    let i = c.loop-position.position in
    let vs = c.args.enumeration.now.value in
    let v = c.index-values-position.result in
    let below = subst (λ (xs : List EnumValueDescriptorProto). i < length xs) c.as_slice-values.ensures c.loop-position-test.true in
    let is = subst (λ (xs : List EnumValueDescriptorProto). v ≡ get_or xs i v) c.as_slice-values.ensures c.index-values-position.is in
    (drop (i + 1) vs, subst (AreNamesBeside c.loop-position.names c.front.result.now) (came vs i v below is) c.loop-position.invariant.names)

-- one more value is read
pub loop-position-preserved : goal.loop-position-preserved
loop-position-preserved c =
    let e = c.args.enumeration.now in
    let d = shown_at c.args.place (of_enum e) in
    let i = c.loop-position.position in
    let v = c.index-values-position.result in
    let named : List ℕ → Identity = λ around. named_at d.file (entry_path d.path VALUE i) (around ++ text_of v.name) (text_of v.name) in
    let around = c.front.ensures ∙ ap (before_ending d.full_name) c.name.ensures in
    let id = c.in_ok-id.ensures.id ∙ ap named around in
    let number : to_z w32 (of_z w32 c.number.result) ≡ number_of v.number = grind (arith, to_z-of_z, c.number.ensures) in
    let below = subst (λ (xs : List EnumValueDescriptorProto). i < length xs) c.as_slice-values.ensures c.loop-position-test.true in
    let is = subst (λ (xs : List EnumValueDescriptorProto). v ≡ get_or xs i v) c.as_slice-values.ensures c.index-values-position.is in
    let Begins : EnumValueDescriptorInner → Type 0 = λ g. BeginsAtBoundary g.id in
    let item : EnumValueDescriptorInner = record { id = c.in_ok-id.id; number = to_z w32 (of_z w32 c.number.result) } in
    let pushed = c.push_reserved.ensures.items ∙ ap (λ items. items ++ item ∷ []) c.reserve.ensures.items in
    let left = subst (AreNamesBeside c.loop-position.names c.front.result.now) (came e.value i v below is) c.loop-position.invariant.names in
    record {
      items = pushed ∙ (λ j. c.loop-position.invariant.items j ++ record { id = id j; number = number j } ∷ [])
          ∙ sym (each-next (λ n w. value_item (part_beside d VALUE n (of_value w)) (number_of w.number)) e.value i v below is);
      begin = subst (All Begins) (sym pushed)
          (All-push Begins c.loop-position.items.items item c.loop-position.invariant.begin c.in_ok-id.ensures.begins);
      names = c.in_ok-id.ensures.names (drop (i + 1) e.value) left;
    }

pub returns-clause-items : goal.returns-clause-items
returns-clause-items c = grind (arith, common_steps)
