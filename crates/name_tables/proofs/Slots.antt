-- How a branch is found by its key.
use Rattle.std.proofs.Common.{◌≡◌, ◌≢◌, ◌<◌, ◌≤◌, ◌%◌, ℕ, suc, Bool, true, false, cond, List, [], Option, None, Some, length, refl, ap, sym, ◌∙◌, subst, IfSome, ltb, arith}
use Rattle.std.specs.List.{slice_get}
use Rattle.std.specs.Option.{option_map, option_map_or}
use Rattle.std.proofs.lemmas.List.{length-map}
use Rattle.std.proofs.lemmas.Option.{none-some, same_Some, slice_get-map, slice_get_within}
use Rattle.name_tables.specs.Tree.{Branch, IsChild}
use Rattle.name_tables.specs.Nodes.{Row, rows, branches_of, branch_of, child_at, Key, as_key, key_of, key_at, child_key, digit_at, slot_at, IsFoundFrom, here, past, IsFound, KeepsNodes, IsTrie, IsSlotOf}
use Rattle.name_tables.specs.declared.nodes.Slot.{Slot}
use Rattle.name_tables.specs.declared.nodes.Node.{Node}
use Rattle.name_tables.proofs.Lists.{some_at}
use Rattle.name_tables.proofs.Rows.{length-rows}

-- a digit is below sixteen
rest-small : (n : ℕ) → n % 16 < 16
rest-small n = omega arith

cond-small : (b : Bool) (m n : ℕ) → m < 16 → n < 16 → cond b m n < 16
cond-small true m n first other = first
cond-small false m n first other = other

byte-small : (byte_digit : ℕ → ℕ) (found : Option ℕ) → ((byte : ℕ) → byte_digit byte < 16) → option_map_or byte_digit found 0 < 16
byte-small byte_digit None each = omega arith
byte-small byte_digit (Some byte) each = each byte

pub digit-small : (key : Key) (level : ℕ) → digit_at key level < 16
digit-small key level =
    cond-small (ltb level 16) _ _ (rest-small _) (cond-small (ltb level 24) _ _ (rest-small _) (byte-small _ _ (λ byte. rest-small _)))

module _ (nodes : List Row) (key : Key) where
  -- a search ends at a branch with the key
  found-here : (k : ℕ) (slot : Slot) (level at : ℕ) → IsFoundFrom nodes key k slot level → child_at nodes slot ≡ Some at → key_at nodes at ≡ key → k ≡ at
  found-here k slot level at (here is same) stands equal = same_Some k at (sym is ∙ stands)
  found-here k slot level at (past b is other rest) stands equal = absurd (other (subst (λ at. key_at nodes at ≡ key) (same_Some at b (sym stands ∙ is)) equal))

  -- and goes on behind any other
  pub found-past : (k : ℕ) (slot : Slot) (level at : ℕ) → IsFoundFrom nodes key k slot level → child_at nodes slot ≡ Some at → key_at nodes at ≢ key → IsFoundFrom nodes key k (slot_at key (suc level) at) (suc level)
  found-past k slot level at (here is same) stands differs = absurd (differs (subst (λ at. key_at nodes at ≡ key) (same_Some k at (sym is ∙ stands)) same))
  found-past k slot level at (past b is other rest) stands differs = subst (λ at. IsFoundFrom nodes key k (slot_at key (suc level) at) (suc level)) (same_Some b at (sym is ∙ stands)) rest

  -- nothing is found where there is no child
  pub found-some : (k : ℕ) (slot : Slot) (level : ℕ) → IsFoundFrom nodes key k slot level → (at : ℕ) × (child_at nodes slot ≡ Some at)
  found-some k slot level (here is same) = (k, is)
  found-some k slot level (past at is other rest) = (at, is)

  -- no two branches are found from one slot
  pub found-one : (k j : ℕ) (slot : Slot) (level : ℕ) → IsFoundFrom nodes key k slot level → IsFoundFrom nodes key j slot level → k ≡ j
  found-one k j slot level (here is same) to = sym (found-here j slot level k to is same)
  found-one k j slot level (past at is other rest) to = found-one k j (slot_at key (suc level) at) (suc level) rest (found-past j slot level at to is other)

  -- what is found is found among more nodes
  pub found-more : (more : List Row) (k : ℕ) → IsTrie nodes → KeepsNodes nodes more → (slot : Slot) (level : ℕ) → IsFoundFrom nodes key k slot level → IsFoundFrom more key k slot level
  found-more more k trie extends slot level (here is same) =
      here (extends.children slot k is) (extends.keys k (trie.rising slot k is).1 ∙ same)
  found-more more k trie extends slot level (past at is other rest) =
      past at (extends.children slot at is) (λ same. other (sym (extends.keys at (trie.rising slot at is).1) ∙ same)) (found-more more k trie extends (slot_at key (suc level) at) (suc level) rest)

-- a search by a key has come to a slot
pub record IsSought (nodes : List Row) (key : Key) (slot : Slot) (level : ℕ) : Type 0 where
  pub inside : slot.node < length nodes
  pub digit : slot.digit < 16
  pub low : level ≤ slot.node
  pub kept : (k : ℕ) → IsFound nodes key k → IsFoundFrom nodes key k slot level
  pub back : (more : List Row) → KeepsNodes nodes more → (k : ℕ) → IsFoundFrom more key k slot level → IsFound more key k

-- the key of a node
pub key-of : (nodes : List Row) (at : ℕ) (node : Row) → slice_get nodes at ≡ Some node → key_at nodes at ≡ key_of node
key-of nodes at node is = ap (λ found. option_map_or key_of found (as_key 0 0 [])) is

-- a node stands for a branch
pub child-node : (nodes : List Row) (k : ℕ) → 0 < k → k < length nodes → IsChild (branches_of nodes) (key_at nodes k).parent (key_at nodes k).part k
child-node nodes k above inside =
    let node : (node : Row) × (slice_get nodes k ≡ Some node) = some_at nodes k inside in (
      above,
      branch_of node.0,
      slice_get-map branch_of nodes k ∙ ap (option_map branch_of) node.1,
      ap (λ (key : Key). key.parent) (sym (key-of nodes k node.0 node.1)),
      ap (λ (key : Key). key.part) (sym (key-of nodes k node.0 node.1)),
    )

-- and each branch for which a node stands is inside
pub child-inside : (nodes : List Row) (parent : ℕ) (part : List ℕ) (k : ℕ) → IsChild (branches_of nodes) parent part k → k < length nodes
child-inside nodes parent part k below = subst (λ n. k < n) (length-map nodes branch_of) (slice_get_within (branches_of nodes) k below.1 below.2)

module _ (nodes : List Row) (parent : ℕ) (part : List ℕ) (k : ℕ) (below : IsChild (branches_of nodes) parent part k) where
  -- the node of a child
  node-child : (node : Row) × (slice_get nodes k ≡ Some node) × (below.1 ≡ branch_of node)
  node-child =
      let node : (node : Row) × (slice_get nodes k ≡ Some node) = some_at nodes k (child-inside nodes parent part k below) in (
        node.0,
        node.1,
        same_Some below.1 (branch_of node.0) (sym below.2 ∙ slice_get-map branch_of nodes k ∙ ap (option_map branch_of) node.1),
      )

  -- it has the parent
  pub child-parent : (key_at nodes k).parent ≡ parent
  child-parent =
      let node = node-child in
      ap (λ (key : Key). key.parent) (key-of nodes k node.0 node.1) ∙ ap (λ (b : Branch). b.parent) (sym node.2) ∙ below.3

  -- it has the part
  pub child-part : (key_at nodes k).part ≡ part
  child-part =
      let node = node-child in
      ap (λ (key : Key). key.part) (key-of nodes k node.0 node.1) ∙ ap (λ (b : Branch). b.part) (sym node.2) ∙ below.4

  -- so it has the key of the child
  pub child-key : IsTrie nodes → key_at nodes k ≡ child_key nodes parent part
  child-key trie =
      (λ i. as_key (trie.digests k below.0 (child-inside nodes parent part k below) i) (key_at nodes k).parent (key_at nodes k).part)
      ∙ (λ i. child_key nodes (child-parent i) (child-part i))

  -- and is found by it
  child-found : IsTrie nodes → IsFound nodes (child_key nodes parent part) k
  child-found trie =
      subst (λ key. IsFound nodes key k) (child-key trie) (trie.found k below.0 (child-inside nodes parent part k below))

  -- its parent is inside
  pub parent-inside : IsTrie nodes → parent < length nodes
  parent-inside trie =
      let inside : k < length nodes = child-inside nodes parent part k below in
      let up : (key_at nodes k).parent < k = trie.parents k below.0 inside in
      let above : (key_at nodes k).parent ≡ parent = child-parent in
      omega arith

module _ (nodes : List Row) (key : Key) where
  -- a search begins at the root
  pub sought-first : 0 < length nodes → IsSought nodes key (slot_at key 0 0) 0
  sought-first some = record {
    inside = some;
    digit = digit-small key 0;
    low = omega arith;
    kept = λ k to. to;
    back = λ more extends k to. to;
  }

  -- and goes on behind a branch with another key
  pub sought-next : (slot : Slot) (level at : ℕ) → IsTrie nodes → IsSought nodes key slot level → child_at nodes slot ≡ Some at → key_at nodes at ≢ key
      → IsSought nodes key (slot_at key (suc level) at) (suc level)
  sought-next slot level at trie sought is other =
      let rises : (slot.node < at) × (at < length nodes) = trie.rising slot at is in
      record {
        inside = rises.1;
        digit = digit-small key (suc level);
        low = (let low : level ≤ slot.node = sought.low in let up : slot.node < at = rises.0 in omega arith);
        kept = λ k to. found-past nodes key k slot level at (sought.kept k to) is other;
        back = λ more extends k to. sought.back more extends k (past at (extends.children slot at is) (λ same. other (sym (extends.keys at rises.1) ∙ same)) to);
      }

module _ (nodes : List Row) (parent : ℕ) (part : List ℕ) (slot : Slot) (level : ℕ) (trie : IsTrie nodes) (inside : parent < length nodes) (sought : IsSought nodes (child_key nodes parent part) slot level) where
  -- what is inserted at a slot to which a search came is found
  slot-reached : (more : List Row) → KeepsNodes nodes more → (k : ℕ) → child_at more slot ≡ Some k → key_at more k ≡ child_key nodes parent part → IsFound more (child_key nodes parent part) k
  slot-reached more extends k is same = sought.back more extends k (here is same)

  -- the branch is found
  pub slot-found : (at : ℕ) → child_at nodes slot ≡ Some at → key_at nodes at ≡ child_key nodes parent part → IsSlotOf nodes parent part slot
  slot-found at is same =
      let rises : (slot.node < at) × (at < length nodes) = trie.rising slot at is in
      record {
        inside = sought.inside;
        digit = sought.digit;
        parent_inside = inside;
        child = λ k stands. subst (IsChild (branches_of nodes) parent part) (same_Some at k (sym is ∙ stands))
            (subst (λ (key : Key). IsChild (branches_of nodes) key.parent key.part at) same (child-node nodes at (let up : slot.node < at = rises.0 in omega arith) rises.1));
        none = λ free k below. none-some at (sym free ∙ is);
        found = slot-reached;
      }

  -- or there is none
  pub slot-none : child_at nodes slot ≡ None → IsSlotOf nodes parent part slot
  slot-none free = record {
    inside = sought.inside;
    digit = sought.digit;
    parent_inside = inside;
    child = λ k stands. absurd (none-some k (sym free ∙ stands));
    none = λ free k below.
        let stands : (at : ℕ) × (child_at nodes slot ≡ Some at) = found-some nodes (child_key nodes parent part) k slot level (sought.kept k (child-found nodes parent part k below trie)) in
        none-some stands.0 (sym free ∙ stands.1);
    found = slot-reached;
  }

-- a child stands behind its node, and inside
pub rises-row : (parts : List (List ℕ)) (nodes : List Node) (slot : Slot) (at : ℕ) → IsTrie (rows parts nodes) → child_at (rows parts nodes) slot ≡ Some at → (slot.node < at) × (at < length nodes)
rises-row parts nodes slot at trie stands = let rises = trie.rising slot at stands in (rises.0, subst (λ n. at < n) (length-rows parts nodes) rises.1)

module _ (nodes : List Row) (parent : ℕ) (part : List ℕ) where
  -- no branch has two children with the same part
  pub child-one : IsTrie nodes → (k j : ℕ) → IsChild (branches_of nodes) parent part k → IsChild (branches_of nodes) parent part j → k ≡ j
  child-one trie k j below also =
      let by : Key = child_key nodes parent part in
      found-one nodes by k j (slot_at by 0 0) 0 (child-found nodes parent part k below trie) (child-found nodes parent part j also trie)

  -- the child at the slot of a branch is that branch, if there is one
  at_slot : (slot : Slot) → IsTrie nodes → IsSlotOf nodes parent part slot → (k : ℕ) → IsChild (branches_of nodes) parent part k → (found : Option ℕ) → child_at nodes slot ≡ found → found ≡ Some k
  at_slot slot trie slot_of k below None is = absurd (slot_of.none is k below)
  at_slot slot trie slot_of k below (Some j) is = ap Some (child-one trie j k (slot_of.child j is) below)

  -- a branch is the child at its slot
  pub slot-at : (slot : Slot) → IsTrie nodes → IsSlotOf nodes parent part slot → (k : ℕ) → IsChild (branches_of nodes) parent part k → child_at nodes slot ≡ Some k
  slot-at slot trie slot_of k below = at_slot slot trie slot_of k below (child_at nodes slot) refl

-- what is found wherever something is, is the only one
pub only-found : (found : Option ℕ) (P : ℕ → Type 0) → ((j : ℕ) → P j → found ≡ Some j) → IfSome found (λ k. (j : ℕ) → P j → j ≡ k)
only-found None P finds = tt
only-found (Some k) P finds = λ j holds. sym (same_Some k j (finds j holds))
