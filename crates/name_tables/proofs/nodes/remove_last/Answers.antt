use Rattle.std.proofs.Common.{◌≡◌, ◌<◌, ◌≤◌, ◌-◌, ◌+◌, ℕ, List, ◌++◌, ◌∷◌, [], Option, None, Some, length, get_or, arith, ap, sym, ◌∙◌, subst, inl}
use Rattle.std.specs.List.{slice_get}
use Rattle.std.specs.Option.{IsSome, option_to_list}
use Rattle.std.specs.Vec.{with_items}
use Rattle.std.proofs.lemmas.Bool.{false≢true}
use Rattle.std.proofs.lemmas.List.{length_push, with_items_is}
use Rattle.name_tables.specs.Nodes.{Row, row, rows, branch_of, child_digest, IsSlotOf, WithChild}
use Rattle.name_tables.specs.declared.nodes.Node.{Node}
use Rattle.name_tables.proofs.Rows.{length-rows, node_at, read-at, rows-push}
use Rattle.name_tables.proofs.Trie.{IsUnlinked, last-parent, last-digest, last-unlinked, unlinked-length, trie-popped, branches-popped, length-nodes}
use Rattle.name_tables.proofs.nodes.remove_last.Goals as goal
use Rattle.name_tables.proofs.nodes.remove_last.Goals.{in_default, in-len2-up}

-- the last of more nodes
last_read : (nodes slice : List Node) → slice ≡ nodes → 2 ≤ length slice
    → (1 < length nodes) × (node_at slice (length slice - 1) ≡ get_or nodes (length nodes - 1) (node_at slice (length slice - 1)))
last_read nodes slice same many = (
  let counted : length slice ≡ length nodes = ap length same in omega arith,
  subst (λ nodes. node_at slice (length slice - 1) ≡ get_or nodes (length nodes - 1) (node_at slice (length slice - 1))) same (read-at slice (length slice - 1) (omega arith)),
)

-- its part
last_part : (texts : List (List ℕ)) (n m k : ℕ) (part : List ℕ) → n ≡ m → m ≡ k → slice_get texts (n - 1) ≡ Some part → slice_get texts (k - 1) ≡ Some part
last_part texts n m k part one other is = subst (λ n. slice_get texts (n - 1) ≡ Some part) (one ∙ other) is

pub find_slot-slot-requires-clause-parent : goal.find_slot-slot-requires-clause-parent
find_slot-slot-requires-clause-parent c =
    let nodes = c.args.nodes.now.items in
    let read = last_read nodes c.as_slice.result.now c.as_slice.ensures.value c.in-len2-up.len_at_least in
    let last = node_at c.as_slice.result.now (length c.as_slice.result.now - 1) in
    let has = last_part c.args.texts.now c.len.result c.args.nodes.now.len (length nodes) c.get.result.now c.len.ensures c.args.nodes.now.ok.0 c.get.ensures in
    subst (λ nodes. last.parent < length nodes) (sym c.deref.ensures.value)
    (last-parent c.args.texts.now nodes last c.get.result.now c.requires.trie.trie read.0 read.1 has)

pub find_slot-slot-requires-clause-digest : goal.find_slot-slot-requires-clause-digest
find_slot-slot-requires-clause-digest c =
    let nodes = c.args.nodes.now.items in
    let read = last_read nodes c.as_slice.result.now c.as_slice.ensures.value c.in-len2-up.len_at_least in
    let last = node_at c.as_slice.result.now (length c.as_slice.result.now - 1) in
    let has = last_part c.args.texts.now c.len.result c.args.nodes.now.len (length nodes) c.get.result.now c.len.ensures c.args.nodes.now.ok.0 c.get.ensures in
    subst (λ nodes. last.digest ≡ child_digest (rows c.args.texts.now nodes) last.parent c.get.result.now) (sym c.deref.ensures.value)
    (last-digest c.args.texts.now nodes last c.get.result.now c.requires.trie.trie read.0 read.1 has)

pub set_child-requires-clause-inside : goal.set_child-requires-clause-inside
set_child-requires-clause-inside c =
    let inside : c.find_slot-slot.result.node < length (rows c.args.texts.now c.deref.result.now) = c.find_slot-slot.ensures.inside in
    let counted = length-rows c.args.texts.now c.deref.result.now in
    let same : length c.deref.result.now ≡ length c.deref_mut.result.now = ap length (c.deref.ensures.value ∙ sym c.deref_mut.ensures.value) in
    omega arith

-- the last branch is the child of none
unlinked : (c : goal.After-pop-2) → IsUnlinked (rows c.args.texts.now c.args.nodes.now.items) (rows c.args.texts.now c.if-as_slice-lt2.nodes.items)
unlinked c =
    let texts = c.args.texts.now in
    let nodes : List Node = c.args.nodes.now.items in
    elim c.if-as_slice-lt2.branch [
      | in_default w ↦
          let some : 0 < length nodes = c.requires.some in
          let few : length c.as_slice.result.now < 2 = w.in_default.len_below in
          let same : length c.as_slice.result.now ≡ length nodes = ap length c.as_slice.ensures.value in
          let counted = length-rows texts nodes in
          inl (ap (λ nodes. rows texts nodes.items) w.nodes-is, omega arith)
      | in-len2-up w ↦
          let last : Node = node_at c.as_slice.result.now (length c.as_slice.result.now - 1) in
          let read = last_read nodes c.as_slice.result.now c.as_slice.ensures.value w.in-len2-up.len_at_least in
          let has = last_part texts w.len.result c.args.nodes.now.len (length nodes) w.get.result.now w.len.ensures c.args.nodes.now.ok.0 w.get.ensures in
          let slot_of : IsSlotOf (rows texts nodes) last.parent w.get.result.now w.find_slot-slot.result =
          subst (λ nodes. IsSlotOf (rows texts nodes) last.parent w.get.result.now w.find_slot-slot.result) w.deref.ensures.value w.find_slot-slot.ensures in
          let with_child : WithChild (rows texts nodes) (rows texts w.set_child.new.nodes) w.find_slot-slot.result None =
          subst (λ nodes. WithChild (rows texts nodes) (rows texts w.set_child.new.nodes) w.find_slot-slot.result None) w.deref_mut.ensures.value (w.set_child.ensures texts) in
          let set : (with_items c.args.nodes.now w.set_child.new.nodes).items ≡ w.set_child.new.nodes =
          with_items_is c.args.nodes.now w.set_child.new.nodes (length-nodes texts w.set_child.new.nodes nodes with_child.keys ∙ sym c.args.nodes.now.ok.0) in
          subst (λ mid. IsUnlinked (rows texts nodes) (rows texts mid)) (sym (ap (λ nodes. nodes.items) w.nodes-is ∙ set))
          (last-unlinked texts nodes last w.get.result.now c.requires.trie.trie read.0 read.1 has (rows texts w.set_child.new.nodes) w.find_slot-slot.result slot_of with_child)
    ]

one_last : (mid new : List Node) (last : Option Node) → IsSome last → mid ≡ new ++ option_to_list last → (last : Node) × (mid ≡ new ++ last ∷ [])
one_last mid new None some is = absurd (false≢true some)
one_last mid new (Some last) some is = (last, is)

-- the one that is removed
last_of : (c : goal.After-pop-2) → (last : Row) × (rows c.args.texts.now c.if-as_slice-lt2.nodes.items ≡ rows c.pop-2.new.self c.pop.new.self.items ++ last ∷ [])
last_of c =
    let texts = c.args.texts.now in
    let mid = c.if-as_slice-lt2.nodes.items in
    let some : 0 < length c.args.nodes.now.items = c.requires.some in
    let same : length mid ≡ length c.args.nodes.now.items = sym (length-rows texts mid) ∙ unlinked-length (rows texts c.args.nodes.now.items) (rows texts mid) (unlinked c) ∙ length-rows texts c.args.nodes.now.items in
    let counted : c.if-as_slice-lt2.nodes.len ≡ length mid = c.if-as_slice-lt2.nodes.ok.0 in
    let last : (last : Node) × (mid ≡ c.pop.new.self.items ++ last ∷ []) = one_last mid c.pop.new.self.items c.pop.result (c.pop.ensures.variant.1 (omega arith)) c.pop.ensures.items in
    let part = c.pop-2.ensures in
    let even : length texts ≡ length c.args.nodes.now.items = c.requires.trie.even in
    let nodes : length mid ≡ length c.pop.new.self.items + 1 = ap length last.1 ∙ length_push c.pop.new.self.items last.0 in
    let parts : length texts ≡ length c.pop-2.new.self + 1 = ap length part.1 ∙ length_push c.pop-2.new.self part.0 in
    (row part.0 last.0, (λ i. rows (part.1 i) (last.1 i)) ∙ rows-push c.pop-2.new.self c.pop.new.self.items part.0 last.0 (omega arith))

-- there are as many parts as nodes
even : (c : goal.After-pop-2) → length c.pop-2.new.self ≡ length c.pop.new.self.items
even c =
    let texts = c.args.texts.now in
    let mid = c.if-as_slice-lt2.nodes.items in
    let some : 0 < length c.args.nodes.now.items = c.requires.some in
    let same : length mid ≡ length c.args.nodes.now.items = sym (length-rows texts mid) ∙ unlinked-length (rows texts c.args.nodes.now.items) (rows texts mid) (unlinked c) ∙ length-rows texts c.args.nodes.now.items in
    let counted : c.if-as_slice-lt2.nodes.len ≡ length mid = c.if-as_slice-lt2.nodes.ok.0 in
    let last : (last : Node) × (mid ≡ c.pop.new.self.items ++ last ∷ []) = one_last mid c.pop.new.self.items c.pop.result (c.pop.ensures.variant.1 (omega arith)) c.pop.ensures.items in
    let part = c.pop-2.ensures in
    let even : length texts ≡ length c.args.nodes.now.items = c.requires.trie.even in
    let nodes : length mid ≡ length c.pop.new.self.items + 1 = ap length last.1 ∙ length_push c.pop.new.self.items last.0 in
    let parts : length texts ≡ length c.pop-2.new.self + 1 = ap length part.1 ∙ length_push c.pop-2.new.self part.0 in
    omega arith

pub returns-clause-trie : goal.returns-clause-trie
returns-clause-trie c = record {
  even = even c;
  trie = trie-popped (rows c.args.texts.now c.args.nodes.now.items) (rows c.args.texts.now c.if-as_slice-lt2.nodes.items) (rows c.pop-2.new.self c.pop.new.self.items)
      (last_of c).0 (last_of c).1 c.requires.trie.trie (unlinked c);
}

pub returns-clause-branches : goal.returns-clause-branches
returns-clause-branches c = (
  branch_of (last_of c).0,
  branches-popped (rows c.args.texts.now c.args.nodes.now.items) (rows c.args.texts.now c.if-as_slice-lt2.nodes.items) (rows c.pop-2.new.self c.pop.new.self.items)
      (last_of c).0 (last_of c).1 (unlinked c),
)
