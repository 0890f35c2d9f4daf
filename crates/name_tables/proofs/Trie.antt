-- A trie stays well formed where a branch is inserted behind all others, and where the last is removed.
use Rattle.std.proofs.Common.{◌≡◌, ◌≢◌, ◌<◌, ◌-◌, ℕ, zero, suc, List, [], ◌∷◌, ◌++◌, map, Option, None, Some, length, refl, ap, sym, ◌∙◌, subst, inl, inr, ◌⊎◌, get_or, arith}
use Rattle.std.specs.List.{slice_get}
use Rattle.std.specs.Prelude.{slice_index}
use Rattle.std.specs.Option.{option_map, option_and_then, option_map_or}
use Rattle.std.proofs.lemmas.Bool.{cases_eq}
use Rattle.std.proofs.lemmas.List.{length_push, map_push, nil_from_length}
use Rattle.std.proofs.lemmas.Option.{none-some, same_Some, slice_get-map, slice_get_within, option_and_then_some}
use Rattle.name_tables.specs.Nodes.{Row, row, rows, branches_of, branch_of, child_at, child_of, child_by, Key, as_key, key_of, key_at, child_key, child_digest, slot_at, IsFoundFrom, here, past, IsFound, IsLeaf, IsPushed, KeepsNodes, WithChild, IsTrie, IsSlotOf, AreTrie}
use Rattle.name_tables.specs.declared.nodes.Slot.{Slot}
use Rattle.name_tables.specs.declared.nodes.Node.{Node}
use Rattle.name_tables.proofs.Children.{slots_eq}
use Rattle.name_tables.proofs.Lists.{get-before, get-last}
use Rattle.name_tables.proofs.Rows.{length-rows, row-read}
use Rattle.name_tables.proofs.Slots.{found-some, found-more, key-of, slot-at}
use Rattle.name_tables.proofs.Keys.{branches-keys, digest-same, digests-same, key-keys, length-keys}

-- only nodes have children
child_at-inside : (nodes : List Row) (slot : Slot) (k : ℕ) → child_at nodes slot ≡ Some k → slot.node < length nodes
child_at-inside nodes slot k is = option_and_then_some (child_by slot.digit) (slice_get nodes slot.node) k is (λ node there stands. slice_get_within nodes slot.node node there)

module _ (xs ys : List Row) where
  -- the children are the same where one node is
  child_at-same : (slot : Slot) → slice_get xs slot.node ≡ slice_get ys slot.node → child_at xs slot ≡ child_at ys slot
  child_at-same slot same = ap (option_and_then (child_by slot.digit)) same

  -- and so has it the key
  key-same : (k : ℕ) → slice_get xs k ≡ slice_get ys k → key_at xs k ≡ key_at ys k
  key-same k same = ap (λ found. option_map_or key_of found (as_key 0 0 [])) same

-- there are as many nodes where the keys are the same
pub length-nodes : (parts : List (List ℕ)) (xs ys : List Node) → map key_of (rows parts xs) ≡ map key_of (rows parts ys) → length xs ≡ length ys
length-nodes parts xs ys same = sym (length-rows parts xs) ∙ length-keys (rows parts xs) (rows parts ys) same ∙ length-rows parts ys

-- a node without children adds none
get-leaf : (child_of_node : Row → Option ℕ) (node : Row) → child_of_node node ≡ None → (nodes : List Row) (k : ℕ) → option_and_then child_of_node (slice_get (nodes ++ node ∷ []) k) ≡ option_and_then child_of_node (slice_get nodes k)
get-leaf child_of_node node none [] zero = none
get-leaf child_of_node node none [] (suc k) = refl
get-leaf child_of_node node none (n ∷ nodes) zero = refl
get-leaf child_of_node node none (n ∷ nodes) (suc k) = get-leaf child_of_node node none nodes k

-- nor does a leaf
child_at-leaf : (nodes : List Row) (node : Row) (key : Key) → IsLeaf node key → (slot : Slot) → child_at (nodes ++ node ∷ []) slot ≡ child_at nodes slot
child_at-leaf nodes node key leaf slot = get-leaf (child_by slot.digit) node (ap child_of (leaf.childless slot.digit)) nodes slot.node

-- a leaf is pushed behind all nodes, and becomes the child at the slot where it would be found
module _ (old new : List Row) (node : Row) (parent : ℕ) (part : List ℕ) (slot : Slot) (trie : IsTrie old) (leaf : IsLeaf node (child_key old parent part)) (slot_of : IsSlotOf old parent part slot)
    (free : child_at old slot ≡ None) (with_child : WithChild (old ++ node ∷ []) new slot (Some (length old))) where
  -- there is one more
  length-inserted : length new ≡ suc (length old)
  length-inserted = let pushed = length_push old node in let same = length-keys new (old ++ node ∷ []) with_child.keys in omega arith

  -- the others have the keys that they had
  key-old : (k : ℕ) → k < length old → key_at new k ≡ key_at old k
  key-old k inside = key-keys new (old ++ node ∷ []) with_child.keys k ∙ key-same (old ++ node ∷ []) old k (get-before old node k inside)

  -- the new one has that of the child
  key-inserted : key_at new (length old) ≡ child_key old parent part
  key-inserted =
      key-keys new (old ++ node ∷ []) with_child.keys (length old) ∙ key-of (old ++ node ∷ []) (length old) node (get-last old node) ∙ leaf.same

  -- the other children are what they were
  child_at-old : (other : Slot) → other ≢ slot → child_at new other ≡ child_at old other
  child_at-old other apart = with_child.others other apart ∙ child_at-leaf old node (child_key old parent part) leaf other

  -- so the nodes are kept
  keeps-inserted : KeepsNodes old new
  keeps-inserted = record {
    keys = key-old;
    children = λ other k is. child_at-old other (λ same. none-some k (sym free ∙ subst (λ l. child_at old l ≡ Some k) same is)) ∙ is;
  }

  -- the child at a slot is the one that was inserted, or the one that it was
  stands : (other : Slot) (k : ℕ) → child_at new other ≡ Some k → (other ≡ slot) ⊎ (other ≢ slot) → ((other ≡ slot) × (k ≡ length old)) ⊎ (child_at old other ≡ Some k)
  stands other k is (inl same) = inl (same, same_Some k (length old) (sym (subst (λ l. child_at new l ≡ Some k) same is) ∙ with_child.here))
  stands other k is (inr apart) = inr (sym (child_at-old other apart) ∙ is)

  -- it stands behind its node
  rises : (other : Slot) (k : ℕ) → ((other ≡ slot) × (k ≡ length old)) ⊎ (child_at old other ≡ Some k) → (other.node < k) × (k < length new)
  rises other k (inl added) =
      let same : other.node ≡ slot.node = ap (λ (l : Slot). l.node) added.0 in
      let last : k ≡ length old = added.1 in
      let inside : slot.node < length old = slot_of.inside in
      let longer : length new ≡ suc (length old) = length-inserted in
      (omega arith, omega arith)
  rises other k (inr was) =
      let up : other.node < k = (trie.rising other k was).0 in
      let inside : k < length old = (trie.rising other k was).1 in
      let longer : length new ≡ suc (length old) = length-inserted in
      (up, omega arith)

  -- no branch is the child at two slots
  one_slot : (one other : Slot) (k : ℕ) → ((one ≡ slot) × (k ≡ length old)) ⊎ (child_at old one ≡ Some k) → ((other ≡ slot) × (k ≡ length old)) ⊎ (child_at old other ≡ Some k) → one ≡ other
  one_slot one other k (inl added) (inl also) = added.0 ∙ sym also.0
  one_slot one other k (inl added) (inr was) = absurd (let inside : k < length old = (trie.rising other k was).1 in let last : k ≡ length old = added.1 in omega arith)
  one_slot one other k (inr was) (inl added) = absurd (let inside : k < length old = (trie.rising one k was).1 in let last : k ≡ length old = added.1 in omega arith)
  one_slot one other k (inr was) (inr also) = trie.single one other k was also

  -- what holds of the new one and of the others holds of each
  each : (P : ℕ → Type 0) → P (length old) → ((k : ℕ) → 0 < k → k < length old → P k) → (k : ℕ) → 0 < k → k < length new → P k
  each P last others k above inside = elim (cases_eq k (length old)) [
    | inl same ↦ subst P (sym same) last
    | inr before ↦ others k above (let longer : length new ≡ suc (length old) = length-inserted in omega arith)
  ]

  -- each stands behind its parent
  parents-inserted : (k : ℕ) → 0 < k → k < length new → (key_at new k).parent < k
  parents-inserted = each (λ k. (key_at new k).parent < k)
      (subst (λ (key : Key). key.parent < length old) (sym key-inserted) slot_of.parent_inside)
      (λ k above inside. subst (λ (key : Key). key.parent < k) (sym (key-old k inside)) (trie.parents k above inside))

  -- each has the digest of its name
  digests-inserted : (k : ℕ) → 0 < k → k < length new → (key_at new k).digest ≡ child_digest new (key_at new k).parent (key_at new k).part
  digests-inserted = each (λ k. (key_at new k).digest ≡ child_digest new (key_at new k).parent (key_at new k).part)
      (let IsDigested : Key → Type 0 = λ key. key.digest ≡ child_digest new key.parent key.part in
      subst IsDigested (sym key-inserted) (sym (digest-same new old parent part (key-old parent slot_of.parent_inside))))
      (λ k above inside. digests-same new old k (key-old k inside) (key-old (key_at old k).parent (let up = trie.parents k above inside in omega arith)) (trie.digests k above inside))

  -- each is found
  found-inserted : (k : ℕ) → 0 < k → k < length new → IsFound new (key_at new k) k
  found-inserted = each (λ k. IsFound new (key_at new k) k)
      (subst (λ key. IsFound new key (length old)) (sym key-inserted) (slot_of.found new keeps-inserted (length old) with_child.here key-inserted))
      (λ k above inside.
      let by : Key = key_at old k in
      subst (λ key. IsFound new key k) (sym (key-old k inside)) (found-more old by new k trie keeps-inserted (slot_at by 0 0) 0 (trie.found k above inside)))

  -- the trie is well formed
  pub trie-inserted : IsTrie new
  trie-inserted = record {
    rising = λ other k is. rises other k (stands other k is (slots_eq other slot));
    single = λ one other k is also. one_slot one other k (stands one k is (slots_eq one slot)) (stands other k also (slots_eq other slot));
    parents = parents-inserted;
    digests = digests-inserted;
    found = found-inserted;
  }

-- the last node is removed, and is the child of none
module _ (old mid new : List Row) (last : Row) (slot : Slot) (trie : IsTrie old) (stood : child_at old slot ≡ Some (length new)) (with_child : WithChild old mid slot None) (popped : mid ≡ new ++ last ∷ []) where
  -- there was one more
  length-popped : length old ≡ suc (length new)
  length-popped = let pushed = length_push new last in let same = length-keys mid old with_child.keys in let is : length mid ≡ length (new ++ last ∷ []) = ap length popped in omega arith

  -- the others are left
  get-left : (k : ℕ) → k < length new → slice_get mid k ≡ slice_get new k
  get-left k inside = ap (λ nodes. slice_get nodes k) popped ∙ get-before new last k inside

  -- they have the keys that they had
  key-left : (k : ℕ) → k < length new → key_at new k ≡ key_at old k
  key-left k inside = sym (key-same mid new k (get-left k inside)) ∙ key-keys mid old with_child.keys k

  -- the child at a slot was there before the last was removed
  child_at-mid : (other : Slot) (k : ℕ) → child_at new other ≡ Some k → child_at mid other ≡ Some k
  child_at-mid other k is = child_at-same mid new other (get-left other.node (child_at-inside new other k is)) ∙ is

  -- the slot is another than that of the last
  child_at-apart : (other : Slot) (k : ℕ) → child_at new other ≡ Some k → other ≢ slot
  child_at-apart other k is same = none-some k (sym with_child.here ∙ subst (λ l. child_at mid l ≡ Some k) same (child_at-mid other k is))

  -- so it was there at first
  child_at-was : (other : Slot) (k : ℕ) → child_at new other ≡ Some k → child_at old other ≡ Some k
  child_at-was other k is = sym (with_child.others other (child_at-apart other k is)) ∙ child_at-mid other k is

  -- and is not the last
  inside-left : (other : Slot) (k : ℕ) → child_at new other ≡ Some k → k < length new
  inside-left other k is =
      let inside : k < length old = (trie.rising other k (child_at-was other k is)).1 in
      let longer : length old ≡ suc (length new) = length-popped in
      let apart : k ≢ length new = λ same. child_at-apart other k is (trie.single other slot k (child_at-was other k is) (subst (λ n. child_at old slot ≡ Some n) (sym same) stood)) in
      omega arith

  -- and the other way round
  child_at-left : (other : Slot) (k : ℕ) → child_at old other ≡ Some k → k < length new → child_at new other ≡ Some k
  child_at-left other k is inside =
      let up : other.node < k = (trie.rising other k is).0 in
      let apart : other ≢ slot = λ same. (let gone : k ≡ length new = same_Some k (length new) (sym (subst (λ l. child_at old l ≡ Some k) same is) ∙ stood) in omega arith) in
      sym (child_at-same mid new other (get-left other.node (omega arith))) ∙ with_child.others other apart ∙ is

  -- a search for another does not pass the last
  found-left : (key : Key) (k : ℕ) → k < length new → (other : Slot) (level : ℕ) → IsFoundFrom old key k other level → IsFoundFrom new key k other level
  found-left key k inside other level (here is same) = here (child_at-left other k is inside) (key-left k inside ∙ same)
  found-left key k inside other level (past at is apart rest) =
      let next : (j : ℕ) × (child_at old (slot_at key (suc level) at) ≡ Some j) = found-some old key k (slot_at key (suc level) at) (suc level) rest in
      let up : at < next.0 = (trie.rising (slot_at key (suc level) at) next.0 next.1).0 in
      let within : next.0 < length old = (trie.rising (slot_at key (suc level) at) next.0 next.1).1 in
      let longer : length old ≡ suc (length new) = length-popped in
      let before : at < length new = omega arith in
      past at (child_at-left other at is before) (λ same. apart (sym (key-left at before) ∙ same)) (found-left key k inside (slot_at key (suc level) at) (suc level) rest)

  -- what was inside is so still
  inside-old : (k : ℕ) → k < length new → k < length old
  inside-old k inside = let longer : length old ≡ suc (length new) = length-popped in omega arith

  -- the trie is well formed
  trie-left : IsTrie new
  trie-left = record {
    rising = λ other k is. ((trie.rising other k (child_at-was other k is)).0, inside-left other k is);
    single = λ one other k is also. trie.single one other k (child_at-was one k is) (child_at-was other k also);
    parents = λ k above inside. subst (λ (key : Key). key.parent < k) (sym (key-left k inside)) (trie.parents k above (inside-old k inside));
    digests = λ k above inside.
        digests-same new old k (key-left k inside) (key-left (key_at old k).parent (let up = trie.parents k above (inside-old k inside) in omega arith)) (trie.digests k above (inside-old k inside));
    found = λ k above inside.
        subst (λ key. IsFound new key k) (sym (key-left k inside))
        (found-left (key_at old k) k inside (slot_at (key_at old k) 0 0) 0 (trie.found k above (inside-old k inside)));
  }

-- no nodes are a trie
trie-none : IsTrie []
trie-none = record {
  rising = λ slot k is. absurd (nothing slot k is);
  single = λ slot other k is also. absurd (nothing slot k is);
  parents = λ k above inside. absurd (omega arith);
  digests = λ k above inside. absurd (omega arith);
  found = λ k above inside. absurd (omega arith);
}
  where
    nothing : (slot : Slot) (k : ℕ) → child_at [] slot ≡ Some k → ⊥
    nothing slot k is = let inside = child_at-inside [] slot k is in omega arith

-- a node without children is one
module _ (node : Row) (childless : (digit : ℕ) → slice_index node.children digit ≡ 0) where
  childless-none : (slot : Slot) → child_at (node ∷ []) slot ≡ None
  childless-none slot =
      elim slot.node as (λ n. option_and_then (child_by slot.digit) (slice_get (node ∷ []) n) ≡ None) [ zero ↦ ap child_of (childless slot.digit) | suc n ↦ refl ]

  trie-one : IsTrie (node ∷ [])
  trie-one = record {
    rising = λ slot k is. absurd (none-some k (sym (childless-none slot) ∙ is));
    single = λ slot other k is also. absurd (none-some k (sym (childless-none slot) ∙ is));
    parents = λ k above inside. absurd (omega arith);
    digests = λ k above inside. absurd (omega arith);
    found = λ k above inside. absurd (omega arith);
  }

-- the root alone is one
pub trie-root : (parts : List (List ℕ)) (nodes : List Node) (old : List Row) (key : Key) → old ≡ [] → length parts ≡ length nodes → IsPushed old (rows parts nodes) key → AreTrie parts nodes
trie-root parts nodes old key none even pushed = record {
  even = even;
  trie = subst IsTrie (sym (pushed.behind ∙ ap (λ rs. rs ++ pushed.node ∷ []) none)) (trie-one pushed.node pushed.leaf.childless);
}

-- nodes as they were, of which there is one, or of which the last is the child of none
abbrev pub IsUnlinked : List Row → List Row → Type 0
IsUnlinked old mid = ((mid ≡ old) × (length old ≡ 1)) ⊎ ((slot : Slot) × (child_at old slot ≡ Some (length old - 1)) × WithChild old mid slot None)

-- there are as many
pub unlinked-length : (old mid : List Row) → IsUnlinked old mid → length mid ≡ length old
unlinked-length old mid (inl one) = ap length one.0
unlinked-length old mid (inr unlinked) = length-keys mid old unlinked.2.keys

-- the last branch
module _ (parts : List (List ℕ)) (nodes : List Node) (last : Node) (part : List ℕ) (trie : IsTrie (rows parts nodes)) (more : 1 < length nodes)
    (read : last ≡ get_or nodes (length nodes - 1) last) (has : slice_get parts (length nodes - 1) ≡ Some part) where
  -- it is read with its part
  last-row : slice_get (rows parts nodes) (length nodes - 1) ≡ Some (row part last)
  last-row = row-read parts nodes (length nodes - 1) last (omega arith) read part has

  -- so its key is known
  last-key : key_at (rows parts nodes) (length nodes - 1) ≡ as_key last.digest last.parent part
  last-key = key-of (rows parts nodes) (length nodes - 1) (row part last) last-row

  last-inside : length nodes - 1 < length (rows parts nodes)
  last-inside = let counted : length (rows parts nodes) ≡ length nodes = length-rows parts nodes in omega arith

  -- its parent is inside
  pub last-parent : last.parent < length nodes
  last-parent =
      let up : last.parent < length nodes - 1 = subst (λ (key : Key). key.parent < length nodes - 1) last-key (trie.parents (length nodes - 1) (omega arith) last-inside) in
      omega arith

  -- and has the digest of its name
  pub last-digest : last.digest ≡ child_digest (rows parts nodes) last.parent part
  last-digest = subst (λ (key : Key). key.digest ≡ child_digest (rows parts nodes) key.parent key.part) last-key (trie.digests (length nodes - 1) (omega arith) last-inside)

  -- it is the child at the slot where it is found
  pub last-unlinked : (mid : List Row) (slot : Slot) → IsSlotOf (rows parts nodes) last.parent part slot → WithChild (rows parts nodes) mid slot None → IsUnlinked (rows parts nodes) mid
  last-unlinked mid slot slot_of with_child =
      let all : List Row = rows parts nodes in
      let is : slice_get (branches_of all) (length nodes - 1) ≡ Some (branch_of (row part last)) = slice_get-map branch_of all (length nodes - 1) ∙ ap (option_map branch_of) last-row in
      let stands : child_at all slot ≡ Some (length nodes - 1) = slot-at all last.parent part slot trie slot_of (length nodes - 1) (omega arith, branch_of (row part last), is, refl, refl) in
      inr (slot, subst (λ n. child_at all slot ≡ Some (n - 1)) (sym (length-rows parts nodes)) stands, with_child)

module _ (old mid new : List Row) (last : Row) (popped : mid ≡ new ++ last ∷ []) where
  -- the branches before it
  pub trie-popped : IsTrie old → IsUnlinked old mid → IsTrie new
  trie-popped trie (inl one) =
      let pushed = length_push new last in
      let is : length mid ≡ length (new ++ last ∷ []) = ap length popped in
      let same : length mid ≡ length old = ap length one.0 in
      let single : length old ≡ 1 = one.1 in
      subst IsTrie (sym (nil_from_length new (omega arith))) trie-none
  trie-popped trie (inr unlinked) =
      let pushed = length_push new last in
      let is : length mid ≡ length (new ++ last ∷ []) = ap length popped in
      let same : length mid ≡ length old = length-keys mid old unlinked.2.keys in
      let before : length old - 1 ≡ length new = omega arith in
      trie-left old mid new last unlinked.0 trie (unlinked.1 ∙ ap Some before) unlinked.2 popped

  -- the last branch is gone
  pub branches-popped : IsUnlinked old mid → branches_of old ≡ branches_of new ++ branch_of last ∷ []
  branches-popped (inl one) = ap branches_of (sym one.0) ∙ ap branches_of popped ∙ map_push branch_of new last
  branches-popped (inr unlinked) = sym (branches-keys mid old unlinked.2.keys) ∙ ap branches_of popped ∙ map_push branch_of new last
