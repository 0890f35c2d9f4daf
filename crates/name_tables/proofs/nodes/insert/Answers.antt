use Rattle.std.proofs.Common.{◌≡◌, ◌<◌, arith, ◌++◌, ◌∷◌, [], List, Some, length, take, drop, ap, sym, ◌∙◌, subst, take_at}
use Rattle.std.proofs.lemmas.List.{length_push, map_push}
use Rattle.name_tables.specs.Tree.{branch}
use Rattle.name_tables.specs.Nodes.{Row, rows, branch_of, branches_of, Key, as_key, child_of, IsLeaf, WithChild, IsTrie}
use Rattle.name_tables.proofs.Children.{child-some}
use Rattle.name_tables.proofs.Keys.{branches-keys}
use Rattle.name_tables.proofs.Rows.{length-rows}
use Rattle.name_tables.proofs.Trie.{length-nodes, trie-inserted}
use Rattle.name_tables.proofs.nodes.insert.Goals as goal

pub set_child-requires-clause-inside : goal.set_child-requires-clause-inside
set_child-requires-clause-inside c =
    let old = rows c.args.texts.now c.args.nodes.now.items in
    let pushed = c.in_ok-push_leaf.ensures.pushed in
    let inside : c.args.slot.node < length old = c.requires.free.slot_of.inside in
    let more = length_push old pushed.node in
    let same : length (rows c.push_leaf.new.texts c.push_leaf.new.nodes.items) ≡ length (old ++ pushed.node ∷ []) = ap length pushed.behind in
    let counted = length-rows c.push_leaf.new.texts c.push_leaf.new.nodes.items in
    let value = ap length c.deref_mut.ensures.value in
    omega arith

-- the nodes after the call are those with the child
set : (c : goal.After-nodes-1) → take c.push_leaf.new.nodes.len (c.set_child.new.nodes ++ drop (length c.set_child.new.nodes) c.push_leaf.new.nodes.items) ≡ c.set_child.new.nodes
set c =
    take_at c.set_child.new.nodes (drop (length c.set_child.new.nodes) c.push_leaf.new.nodes.items) c.push_leaf.new.nodes.len
    (length-nodes c.push_leaf.new.texts c.set_child.new.nodes c.deref_mut.result.now (c.set_child.ensures c.push_leaf.new.texts).keys ∙ ap length c.deref_mut.ensures.value ∙ sym c.push_leaf.new.nodes.ok.0)

-- the number of the child
number : (c : goal.After-nodes-1) → child_of c.in-Ok.at ≡ Some (length (rows c.args.texts.now c.args.nodes.now.items))
number c =
    let counted = length-rows c.args.texts.now c.args.nodes.now.items in
    let inside : c.args.slot.node < length (rows c.args.texts.now c.args.nodes.now.items) = c.requires.free.slot_of.inside in
    ap child_of (c.in-Ok.ensures.1 ∙ c.len.ensures ∙ c.args.nodes.now.ok.0 ∙ sym counted) ∙ child-some (length (rows c.args.texts.now c.args.nodes.now.items)) (omega arith)

with_child : (c : goal.After-nodes-1) → WithChild (rows c.args.texts.now c.args.nodes.now.items ++ c.in_ok-push_leaf.ensures.pushed.node ∷ []) (rows c.push_leaf.new.texts c.set_child.new.nodes) c.args.slot
    (Some (length (rows c.args.texts.now c.args.nodes.now.items)))
with_child c =
    let texts = c.push_leaf.new.texts in
    let new : List Row = rows texts c.set_child.new.nodes in
    subst (λ at. WithChild (rows c.args.texts.now c.args.nodes.now.items ++ c.in_ok-push_leaf.ensures.pushed.node ∷ []) new c.args.slot at) (number c)
    (subst (λ all. WithChild all new c.args.slot (child_of c.in-Ok.at)) (ap (rows texts) c.deref_mut.ensures.value ∙ c.in_ok-push_leaf.ensures.pushed.behind) (c.set_child.ensures texts))

pub returns-clause-trie : goal.returns-clause-trie
returns-clause-trie c =
    let texts = c.push_leaf.new.texts in
    let old : List Row = rows c.args.texts.now c.args.nodes.now.items in
    let pushed = c.in_ok-push_leaf.ensures.pushed in
    let parent = c.args.key.parent in
    let part = c.args.key.part.now in
    record {
      even = c.in_ok-push_leaf.ensures.even
          ∙ sym (ap length (set c) ∙ length-nodes texts c.set_child.new.nodes c.deref_mut.result.now (c.set_child.ensures texts).keys ∙ ap length c.deref_mut.ensures.value);
      trie = subst (λ nodes. IsTrie (rows texts nodes)) (sym (set c))
          (trie-inserted old (rows texts c.set_child.new.nodes) pushed.node parent part c.args.slot
          c.requires.trie.trie (subst (λ digest. IsLeaf pushed.node (as_key digest parent part)) c.requires.free.digest pushed.leaf) c.requires.free.slot_of c.requires.free.none (with_child c));
    }

pub returns-in_err-push_leaf-clause-trie : goal.returns-in_err-push_leaf-clause-trie
returns-in_err-push_leaf-clause-trie c = record {
  even = c.in_err-push_leaf.ensures.even;
  trie = subst IsTrie (sym c.in_err-push_leaf.ensures.err) c.requires.trie.trie;
}

pub returns-clause-ok : goal.returns-clause-ok
returns-clause-ok c =
    let old : List Row = rows c.args.texts.now c.args.nodes.now.items in
    let pushed = c.in_ok-push_leaf.ensures.pushed in (
      c.in-Ok.ensures.1 ∙ c.len.ensures ∙ c.args.nodes.now.ok.0,
      ap (λ nodes. branches_of (rows c.push_leaf.new.texts nodes)) (set c)
          ∙ branches-keys (rows c.push_leaf.new.texts c.set_child.new.nodes) (old ++ pushed.node ∷ []) (with_child c).keys
          ∙ map_push branch_of old pushed.node
          ∙ ap (λ (key : Key). branches_of old ++ branch key.parent key.part ∷ []) pushed.leaf.same,
    )
