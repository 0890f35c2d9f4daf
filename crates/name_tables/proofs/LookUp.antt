-- How a branch is found by its whole name.
use Rattle.std.proofs.Common.{◌≡◌, ◌≢◌, ◌<◌, ℕ, zero, suc, Bool, true, cond, ltb, List, [], ◌∷◌, ◌++◌, None, Some, length, refl, ap, sym, subst, ◌∙◌, append_assoc, get_or, arith}
use Rattle.std.specs.List.{slice_get}
use Rattle.std.specs.Option.{option_map}
use Rattle.std.proofs.lemmas.Bool.{lt-ltb}
use Rattle.std.proofs.lemmas.List.{length-map, append_cancel_right}
use Rattle.std.proofs.lemmas.Option.{none-some, slice_get-map}
use Rattle.name_tables.specs.Tree.{Branch, IsChild, IsTree, IsDescendant, path}
use Rattle.name_tables.specs.Nodes.{Row, row, rows, branches_of, branch_of, child_at, Key, key_at, front_digest, digest_along, digest_of, digest_digit, digit_at, slot_at, IsFoundFrom, IsFound, IsTrie}
use Rattle.plain_data.specs.Digests.{digest_after}
use Rattle.name_tables.specs.Parts.{name_of, parts}
use Rattle.name_tables.specs.declared.nodes.Slot.{Slot}
use Rattle.name_tables.specs.declared.nodes.Node.{Node}
use Rattle.name_tables.proofs.NameParts.{name_of-last, parts-name_of, parts-some}
use Rattle.name_tables.proofs.Rows.{length-rows, row-read}
use Rattle.name_tables.proofs.Paths.{descendant-some, name-descendant, path-child, path-descendant, path-whole}
use Rattle.name_tables.proofs.Slots.{child-key, found-one, found-past, found-some}

-- what stands before the part in the name of a child
abbrev pub before_part : List Branch → ℕ → List ℕ
before_part bs zero = []
before_part bs (suc k) = name_of (path bs (suc k)) ++ 46 ∷ []

module _ (bs : List Branch) (tree : IsTree bs) where
  -- a branch other than the root has a name
  path-stands : (k : ℕ) → 0 < k → k < length bs → path bs k ≢ []
  path-stands k above inside none = let root : 0 ≡ k = subst (λ ps. IsDescendant bs 0 ps k) none (path-descendant bs tree k inside) in absurd (omega arith)

  -- a child stands behind its parent
  pub child-before : (parent : ℕ) (part : List ℕ) (k : ℕ) → IsChild bs parent part k → parent < k
  child-before parent part zero below = absurd (omega (arith, below.0))
  child-before parent part (suc k) below = subst (λ p. p < suc k) below.3 (tree.rising k below.1 below.2)

  -- the name of a child is its part behind what stands before it
  pub name-child : (parent : ℕ) (part : List ℕ) (k : ℕ) → IsChild bs parent part k → k < length bs → name_of (path bs k) ≡ before_part bs parent ++ part
  name-child zero part k below inside = ap name_of (path-child bs tree 0 part k below)
  name-child (suc p) part k below inside =
      let up : suc p < k = child-before (suc p) part k below in
      ap name_of (path-child bs tree (suc p) part k below)
      ∙ name_of-last (path bs (suc p)) part (path-stands (suc p) (omega arith) (omega arith))
      ∙ sym (append_assoc (name_of (path bs (suc p))) (46 ∷ []) part)

  -- a name leads to the branch that has it
  pub named-descendant : (name : List ℕ) (at : ℕ) → 0 < at → at < length bs → name ≡ name_of (path bs at) → IsDescendant bs 0 (parts name) at
  named-descendant name at above inside is =
      subst (λ ps. IsDescendant bs 0 ps at) (sym (ap parts is ∙ parts-name_of (path bs at) (path-stands at above inside) (path-whole bs tree at))) (path-descendant bs tree at inside)

  -- a name and a dot stand before the part, unless the parent is the root
  pub before-dot : (parent : ℕ) → parent ≢ 0 → before_part bs parent ≡ name_of (path bs parent) ++ 46 ∷ []
  before-dot zero some = absurd (some refl)
  before-dot (suc p) some = refl

module _ (parts : List (List ℕ)) (nodes : List Node) (tree : IsTree (branches_of (rows parts nodes))) (at : ℕ) (node : Node) (part : List ℕ)
    (above : 0 < at) (inside : at < length nodes) (read : node ≡ get_or nodes at node) (has : slice_get parts at ≡ Some part) where
  -- a node that was read is a branch
  node-child : IsChild (branches_of (rows parts nodes)) node.parent part at
  node-child =
      (above, branch_of (row part node), slice_get-map branch_of (rows parts nodes) at ∙ ap (option_map branch_of) (row-read parts nodes at node inside read part has), refl, refl)

  -- it stands behind its parent
  pub node-before : node.parent < at
  node-before = child-before (branches_of (rows parts nodes)) tree node.parent part at node-child

  -- its name ends with its part
  node-named : name_of (path (branches_of (rows parts nodes)) at) ≡ before_part (branches_of (rows parts nodes)) node.parent ++ part
  node-named =
      name-child (branches_of (rows parts nodes)) tree node.parent part at node-child
      (subst (λ n. at < n) (sym (length-map (rows parts nodes) branch_of ∙ length-rows parts nodes)) inside)

  module _ (text : List ℕ) where
    -- a text that does not end with it is another
    pub node-other : ((front : List ℕ) → text ≢ front ++ part) → text ≢ name_of (path (branches_of (rows parts nodes)) at)
    node-other none is = none (before_part (branches_of (rows parts nodes)) node.parent) (is ∙ node-named)

    module _ (front : List ℕ) (split : text ≡ front ++ part) where
      -- a text that does is it where what stands before is the same
      pub node-text : front ≡ before_part (branches_of (rows parts nodes)) node.parent → text ≡ name_of (path (branches_of (rows parts nodes)) at)
      node-text same = split ∙ ap (λ front. front ++ part) same ∙ sym node-named

      -- and only there
      pub node-front : text ≡ name_of (path (branches_of (rows parts nodes)) at) → front ≡ before_part (branches_of (rows parts nodes)) node.parent
      node-front is = append_cancel_right front (before_part (branches_of (rows parts nodes)) node.parent) part (sym split ∙ is ∙ node-named)

-- what is chosen where a test holds
cond-first : (b : Bool) (x y : ℕ) → b ≡ true → cond b x y ≡ x
cond-first b x y is = ap (λ b. cond b x y) is

-- the first digits of a key are those of its digest
digit-first : (key : Key) (level : ℕ) → level < 16 → digit_at key level ≡ digest_digit key.digest level
digit-first key level low = cond-first (ltb level 16) (digest_digit key.digest level) _ (lt-ltb level 16 low)

-- a search has come to a branch, and what has the name lies ahead
abbrev pub IsAhead : List Row → List ℕ → ℕ → ℕ → Type 0
IsAhead nodes name level at = (k : ℕ) → IsDescendant (branches_of nodes) 0 (parts name) k → IsFoundFrom nodes (key_at nodes k) k (slot_at (key_at nodes k) level at) level

module _ (nodes : List Row) (trie : IsTrie nodes) (tree : IsTree (branches_of nodes)) where
  -- as many branches are branches_of
  inside-branches : (k : ℕ) → k < length nodes → k < length (branches_of nodes)
  inside-branches k inside = subst (λ n. k < n) (sym (length-map nodes branch_of)) inside

  -- what stands before the names of its children has the digest of a branch
  front-own : (k : ℕ) → 0 < k → (key_at nodes k).digest ≡ front_digest nodes k
  front-own zero above = absurd (omega arith)
  front-own (suc k) above = refl

  -- a child has the digest of its part behind its parent's
  digest-child : (from : ℕ) (part : List ℕ) (k : ℕ) → IsChild (branches_of nodes) from part k → front_digest nodes k ≡ digest_after (front_digest nodes from) part
  digest-child from part k below =
      sym (front-own k below.0) ∙ ap (λ (key : Key). key.digest) (child-key nodes from part k below trie)

  -- parts that lead down from a branch go on from its digest
  digest-down : (from : ℕ) (ps : List (List ℕ)) (k : ℕ) → IsDescendant (branches_of nodes) from ps k → front_digest nodes k ≡ digest_along (front_digest nodes from) ps
  digest-down from [] k down = ap (front_digest nodes) (sym down)
  digest-down from (p ∷ ps) k (j, below, down) =
      digest-down j ps k down ∙ ap (λ front. digest_along front ps) (digest-child from p j below)

  module _ (name : List ℕ) where
    -- the branch to which the parts of a name lead is not the root
    descendant-inside : (k : ℕ) → IsDescendant (branches_of nodes) 0 (parts name) k → (0 < k) × (k < length nodes)
    descendant-inside k down =
        let some = descendant-some (branches_of nodes) (parts name) 0 k (parts-some name) down in
        (some.0, subst (λ n. k < n) (length-map nodes branch_of) some.1)

    -- it has the digest of the name
    descendant-digest : (k : ℕ) → IsDescendant (branches_of nodes) 0 (parts name) k → (key_at nodes k).digest ≡ digest_of name
    descendant-digest k down = front-own k (descendant-inside k down).0 ∙ digest-down 0 (parts name) k down

    -- a search begins at the root
    pub ahead-first : IsAhead nodes name 0 0
    ahead-first k down = trie.found k (descendant-inside k down).0 (descendant-inside k down).1

    -- a branch with another digest has another key
    pub apart-digest : (digest at : ℕ) → digest ≡ digest_of name → (key_at nodes at).digest ≢ digest → (k : ℕ) → IsDescendant (branches_of nodes) 0 (parts name) k → key_at nodes at ≢ key_at nodes k
    apart-digest digest at is differs k down same = differs (ap (λ (key : Key). key.digest) same ∙ descendant-digest k down ∙ sym is)

    -- and so has one with another name
    pub apart-name : (at : ℕ) → 0 < at → at < length nodes → name ≢ name_of (path (branches_of nodes) at) → (k : ℕ) → IsDescendant (branches_of nodes) 0 (parts name) k → key_at nodes at ≢ key_at nodes k
    apart-name at above inside differs k down same =
        let by : Key = key_at nodes k in
        let one : at ≡ k = found-one nodes by at k (slot_at by 0 0) 0 (subst (λ key. IsFound nodes key at) same (trie.found at above inside)) (ahead-first k down) in
        differs (name-descendant (branches_of nodes) tree name k down ∙ ap (λ j. name_of (path (branches_of nodes) j)) (sym one))

    module _ (digest level at : ℕ) (is : digest ≡ digest_of name) (low : level < 16) (ahead : IsAhead nodes name level at) where
      -- the slot at which the search goes on is known by the digest
      slot_at-descendant : (k : ℕ) → IsDescendant (branches_of nodes) 0 (parts name) k → slot_at (key_at nodes k) level at ≡ record { node = at; digit = digest_digit digest level }
      slot_at-descendant k down =
          let at_digit : ℕ → Slot = λ digit. record { node = at; digit = digit } in
          ap at_digit (digit-first (key_at nodes k) level low ∙ ap (λ number. digest_digit number level) (descendant-digest k down ∙ sym is))

      -- where nothing stands, nothing has the name
      pub ahead-none : child_at nodes (record { node = at; digit = digest_digit digest level }) ≡ None → (k : ℕ) → IsDescendant (branches_of nodes) 0 (parts name) k → ⊥
      ahead-none none k down =
          let stands = found-some nodes (key_at nodes k) k (slot_at (key_at nodes k) level at) level (ahead k down) in
          none-some stands.0 (sym none ∙ ap (child_at nodes) (sym (slot_at-descendant k down)) ∙ stands.1)

      -- and it lies behind a branch with another key
      pub ahead-next : (next : ℕ) → child_at nodes (record { node = at; digit = digest_digit digest level }) ≡ Some next
          → ((k : ℕ) → IsDescendant (branches_of nodes) 0 (parts name) k → key_at nodes next ≢ key_at nodes k) → IsAhead nodes name (suc level) next
      ahead-next next stands apart k down =
          found-past nodes (key_at nodes k) k (slot_at (key_at nodes k) level at) level next (ahead k down) (ap (child_at nodes) (slot_at-descendant k down) ∙ stands) (apart k down)
