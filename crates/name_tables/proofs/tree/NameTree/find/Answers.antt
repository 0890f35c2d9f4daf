use Rattle.std.proofs.Common.{◌<◌, ◌≤◌, ◌≡◌, length, arith, ap, sym, ◌∙◌, subst}
use Rattle.name_tables.specs.Tree.{IsChild}
use Rattle.name_tables.specs.Nodes.{rows, IsSlotOf, child_at}
use Rattle.name_tables.proofs.Rows.{length-rows}
use Rattle.name_tables.proofs.Slots.{only-found, parent-inside, slot-at}
use Rattle.name_tables.proofs.tree.NameTree.find.Goals as goal

pub returns-then-parent-len-clause-none : goal.returns-then-parent-len-clause-none
returns-then-parent-len-clause-none c = λ none k below.
    let all = rows c.self.inside.texts c.self.inside.nodes.items in
    let inside : c.args.parent < length all =
    parent-inside all c.args.parent c.args.part.now k (subst (λ branches. IsChild branches c.args.parent c.args.part.now k) (sym c.self.view_is) below) c.self.invariant.trie in
    let rows_len = length-rows c.self.inside.texts c.self.inside.nodes.items in
    let past : c.len.result ≤ c.args.parent = c.if-parent-len.true in
    let counted : c.len.result ≡ length c.self.inside.nodes.items = c.len.ensures ∙ c.self.inside.nodes.ok.0 in
    omega arith

pub child-requires-clause-inside : goal.child-requires-clause-inside
child-requires-clause-inside c =
    let inside : c.find_slot.result.node < length (rows c.self.inside.texts c.deref-3.result.now) = c.find_slot.ensures.inside in
    let rows_len = length-rows c.self.inside.texts c.deref-3.result.now in
    let same : length c.deref-3.result.now ≡ length c.deref-2.result.now = ap length (c.deref-3.ensures.value ∙ sym c.deref-2.ensures.value) in
    omega arith

pub returns-clause-none : goal.returns-clause-none
returns-clause-none c = λ none k below.
    let texts = c.self.inside.texts in
    let slot_of : IsSlotOf (rows texts c.self.inside.nodes.items) c.args.parent c.args.part.now c.find_slot.result =
    subst (λ nodes. IsSlotOf (rows texts nodes) c.args.parent c.args.part.now c.find_slot.result) c.deref-3.ensures.value c.find_slot.ensures in
    slot_of.none (sym (subst (λ nodes. c.child.result ≡ child_at (rows texts nodes) c.find_slot.result) c.deref-2.ensures.value (c.child.ensures texts)) ∙ none) k
    (subst (λ branches. IsChild branches c.args.parent c.args.part.now k) (sym c.self.view_is) below)

pub returns-clause-only : goal.returns-clause-only
returns-clause-only c = only-found c.child.result (IsChild c.args.self.now c.args.parent c.args.part.now) (λ j below.
    let texts = c.self.inside.texts in
    let all = rows texts c.self.inside.nodes.items in
    let slot_of : IsSlotOf all c.args.parent c.args.part.now c.find_slot.result =
    subst (λ nodes. IsSlotOf (rows texts nodes) c.args.parent c.args.part.now c.find_slot.result) c.deref-3.ensures.value c.find_slot.ensures in
    subst (λ nodes. c.child.result ≡ child_at (rows texts nodes) c.find_slot.result) c.deref-2.ensures.value (c.child.ensures texts)
    ∙ slot-at all c.args.parent c.args.part.now c.find_slot.result c.self.invariant.trie slot_of j
    (subst (λ branches. IsChild branches c.args.parent c.args.part.now j) (sym c.self.view_is) below))
