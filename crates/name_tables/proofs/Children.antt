-- Nodes of which one gets another child.
use Rattle.std.proofs.Common.{◌≡◌, ◌≢◌, ◌<◌, ◌⊎◌, inl, inr, arith, ℕ, zero, suc, List, [], Option, None, Some, length, slice_index, slice_index_or, slice_set, refl, ap, sym, ◌∙◌, subst, get_or-set_same, get_or-set_other}
use Rattle.std.specs.List.{slice_get}
use Rattle.std.specs.Option.{option_map, option_and_then}
use Rattle.std.proofs.Math.Seq.{map-set_same}
use Rattle.std.proofs.lemmas.Bool.{cases_eq}
use Rattle.std.proofs.lemmas.Option.{slice_get-map}
use Rattle.name_tables.specs.Nodes.{Row, row, rows, child_at, child_of, child_by, key_of, WithChild}
use Rattle.name_tables.proofs.Lists.{get-set_same, get-set_other}
use Rattle.name_tables.proofs.Rows.{length-rows, row-some, children-row, set-children}
use Rattle.name_tables.specs.declared.nodes.Node.{Node}
use Rattle.name_tables.specs.declared.nodes.Slot.{Slot}

-- what is read of an element, where there may be none, is read of what a function keeps of it
and_then-through : {X Y Z : Type 0} (f : X → Y) (g : Y → Option Z) (found : Option X) → option_and_then g (option_map f found) ≡ option_and_then (λ x. g (f x)) found
and_then-through f g None = refl
and_then-through f g (Some x) = refl

module _ {X : Type 0} where
  -- what is read of the elements stays where the new one has the same
  pub read-set_same : (f : X → Option ℕ) (xs : List X) (k : ℕ) (x d : X) → f x ≡ f (slice_index_or xs k d)
      → (j : ℕ) → option_and_then f (slice_get (slice_set xs k x) j) ≡ option_and_then f (slice_get xs j)
  read-set_same f xs k x d same j =
      sym (and_then-through f (λ found. found) (slice_get (slice_set xs k x) j))
      ∙ ap (option_and_then (λ found. found)) (sym (slice_get-map f (slice_set xs k x) j) ∙ ap (λ all. slice_get all j) (map-set_same f xs k x d same) ∙ slice_get-map f xs j)
      ∙ and_then-through f (λ found. found) (slice_get xs j)

-- any number but 0 stands for a child
pub child-some : (k : ℕ) → 0 < k → child_of k ≡ Some k
child-some zero above = absurd (omega arith)
child-some (suc k) above = refl

-- the child at a slot is the one that the node there has
pub child_at-row : (parts : List (List ℕ)) (nodes : List Node) (slot : Slot) (node : Node) → slot.node < length nodes → node ≡ slice_index_or nodes slot.node node
    → child_at (rows parts nodes) slot ≡ child_of (slice_index node.children slot.digit)
child_at-row parts nodes slot node inside is = ap (option_and_then (child_by slot.digit)) (row-some parts nodes slot.node node inside is).1

-- two slots are one, or they differ
pub slots_eq : (slot other : Slot) → (slot ≡ other) ⊎ (slot ≢ other)
slots_eq slot other =
    elim (cases_eq slot.node other.node) [
      | inr apart ↦ inr (λ same. apart (ap (λ (l : Slot). l.node) same))
      | inl at ↦ elim (cases_eq slot.digit other.digit) [
        | inr apart ↦ inr (λ same. apart (ap (λ (l : Slot). l.digit) same))
        | inl digit ↦ inl (λ i. record { node = at i; digit = digit i })
      ]
    ]

module _ (nodes : List Row) (at : ℕ) (d : Row) (slot : Slot) (inside : slot.node < length nodes) (small : slot.digit < 16) (size : length (slice_index_or nodes slot.node d).children ≡ 16) where
  -- the node of the slot with the child there
  abbrev pub node_with : Row
  node_with = record (slice_index_or nodes slot.node d) { children = slice_set (slice_index_or nodes slot.node d).children slot.digit at }

  abbrev pub nodes_with : List Row
  nodes_with = slice_set nodes slot.node node_with

  -- the slot has the child
  here-with : child_at nodes_with slot ≡ child_of at
  here-with =
      ap (option_and_then (child_by slot.digit)) (get-set_same nodes slot.node node_with inside)
      ∙ ap child_of (get_or-set_same (slice_index_or nodes slot.node d).children slot.digit at 0 (omega arith))

  -- the node keeps its other children
  digit-with : (digit : ℕ) → digit ≢ slot.digit → child_by digit node_with ≡ child_by digit (slice_index_or nodes slot.node d)
  digit-with digit apart = ap child_of (get_or-set_other (slice_index_or nodes slot.node d).children slot.digit digit at 0 apart)

  -- and so do the other nodes
  others-with : (other : Slot) → other ≢ slot → child_at nodes_with other ≡ child_at nodes other
  others-with other differ = elim (cases_eq other.node slot.node) [
    | inr apart ↦ ap (option_and_then (child_by other.digit)) (get-set_other nodes slot.node other.node node_with apart)
    | inl same ↦ read-set_same (child_by other.digit) nodes slot.node node_with d
        (digit-with other.digit (λ digit. differ (λ i. record { node = same i; digit = digit i }))) other.node
  ]

  -- nothing else changes
  pub with-child : WithChild nodes nodes_with slot (child_of at)
  with-child = record {
    keys = map-set_same key_of nodes slot.node node_with d refl;
    here = here-with;
    others = others-with;
  }

-- and so it is with nodes and their parts
pub row-with_child : (parts : List (List ℕ)) (nodes : List Node) (at : ℕ) (d : Node) (slot : Slot) → slot.node < length nodes → slot.digit < 16 → length (slice_index_or nodes slot.node d).children ≡ 16
    → WithChild (rows parts nodes) (rows parts (slice_set nodes slot.node (record (slice_index_or nodes slot.node d) { children = slice_set (slice_index_or nodes slot.node d).children slot.digit at }))) slot (child_of at)
row-with_child parts nodes at d slot inside small size =
    let all : List Row = rows parts nodes in
    let same : (slice_index_or all slot.node (row [] d)).children ≡ (slice_index_or nodes slot.node d).children = children-row d [] parts nodes slot.node in
    let set : List ℕ → List Row = λ children. slice_set all slot.node (record (slice_index_or all slot.node (row [] d)) { children = children }) in
    subst (λ new. WithChild all new slot (child_of at))
    (ap (λ children. set (slice_set children slot.digit at)) same ∙ sym (set-children d [] (slice_set (slice_index_or nodes slot.node d).children slot.digit at) parts nodes slot.node))
    (with-child all at (row [] d) slot (subst (λ n. slot.node < n) (sym (length-rows parts nodes)) inside) small (ap length same ∙ size))
