-- How branches are found: as nodes of a trie with sixteen children each, by the digits of a key. A
-- key has the digest of the branch's name, the number of its parent, and its part.
use Rattle.std.specs.Prelude.{◌≡◌, ◌≢◌, ◌<◌, ◌++◌, ◌-◌, ◌*◌, ◌/◌, ◌%◌, ◌^◌, ℕ, zero, suc}
use Rattle.std.specs.Prelude.{List, [], ◌∷◌, map, length, if◌then◌else◌, nat_lt, slice_index}
use Rattle.std.specs.List.{slice_get}
use Rattle.std.specs.Option.{option_and_then, option_map_or}
use Rattle.std.specs.declared.option.Option.{Option}
use Rattle.std.specs.declared.option.Option.TheVariants.{None, Some}
use Rattle.plain_data.specs.Digests.{digest_after}
use Rattle.name_tables.specs.Parts.{parts}
use Rattle.name_tables.specs.Tree.{Branch, branch, IsChild}
use Rattle.name_tables.specs.declared.nodes.Node.{Node}
use Rattle.name_tables.specs.declared.nodes.Slot.{Slot}

-- a node with its part
pub record Row : Type 0 where
  pub part : List ℕ
  pub digest : ℕ
  pub parent : ℕ
  pub children : List ℕ

-- a node with its part
abbrev pub row : List ℕ → Node → Row
row part node =
    record { part = part; digest = node.digest; parent = node.parent; children = node.children }

-- nodes with their parts: those past all parts have the empty one
abbrev pub rows : List (List ℕ) → List Node → List Row
rows parts [] = []
rows [] (node ∷ nodes) = row [] node ∷ rows [] nodes
rows (part ∷ parts) (node ∷ nodes) = row part node ∷ rows parts nodes

-- the branch that a node stands for
abbrev pub branch_of : Row → Branch
branch_of node = branch node.parent node.part

-- the branches that nodes stand for
abbrev pub branches_of : List Row → List Branch
branches_of nodes = map branch_of nodes

-- the child that a number stands for: 0 for none, since the root is no child
abbrev pub child_of : ℕ → Option ℕ
child_of zero = None
child_of (suc k) = Some (suc k)

-- the child of a node by a digit
abbrev pub child_by : ℕ → Row → Option ℕ
child_by digit node = child_of (slice_index node.children digit)

-- the child at a slot
abbrev pub child_at : List Row → Slot → Option ℕ
child_at nodes slot = option_and_then (child_by slot.digit) (slice_get nodes slot.node)

-- what a branch is found by
pub record Key : Type 0 where
  pub digest : ℕ
  pub parent : ℕ
  pub part : List ℕ

-- a key of a digest, a parent and a part
abbrev pub as_key : ℕ → ℕ → List ℕ → Key
as_key digest parent part = record { digest = digest; parent = parent; part = part }

-- the key of a node
abbrev pub key_of : Row → Key
key_of node = as_key node.digest node.parent node.part

-- the key of node k
abbrev pub key_at : List Row → ℕ → Key
key_at nodes k = option_map_or key_of (slice_get nodes k) (as_key 0 0 [])

-- the digest of no parts
abbrev pub first_digest : ℕ
first_digest = 0

-- the digest of parts behind others, each behind those before it
abbrev pub digest_along : ℕ → List (List ℕ) → ℕ
digest_along digest [] = digest
digest_along digest (part ∷ parts) = digest_along (digest_after digest part) parts

-- the digest of a name, by its parts
abbrev pub digest_of : List ℕ → ℕ
digest_of name = digest_along first_digest (parts name)

-- the digest of what stands before the part in the name of a child
abbrev pub front_digest : List Row → ℕ → ℕ
front_digest nodes zero = first_digest
front_digest nodes (suc k) = (key_at nodes (suc k)).digest

-- the digest of the name of a child
abbrev pub child_digest : List Row → ℕ → List ℕ → ℕ
child_digest nodes parent part = digest_after (front_digest nodes parent) part

-- the key of a child
abbrev pub child_key : List Row → ℕ → List ℕ → Key
child_key nodes parent part = as_key (child_digest nodes parent part) parent part

-- a digit of a number, from the lowest
abbrev pub digit_of : ℕ → ℕ → ℕ
digit_of number position = number / 2 ^ (4 * position) % 16

-- the digit of a digest at a level: from the highest on, which all bits below decide too
abbrev pub digest_digit : ℕ → ℕ → ℕ
digest_digit digest level = digit_of digest (15 - level)

-- the digit of a key at a level: first those of its digest, then of the parent, then of the part
abbrev pub digit_at : Key → ℕ → ℕ
digit_at key level =
    if nat_lt level 16 then digest_digit key.digest level else
    if nat_lt level 24 then digit_of key.parent (level - 16) else
    option_map_or (λ byte. digit_of byte ((level - 24) % 2))
    (slice_get key.part ((level - 24) / 2)) 0

-- the slot of a node at which a search by a key goes on at a level
abbrev pub slot_at : Key → ℕ → ℕ → Slot
slot_at key level at = record { node = at; digit = digit_at key level }

-- branch k is found by a key from a slot on: it is the child there, or is found from the child that
-- is
pub data IsFoundFrom (nodes : List Row) (key : Key) (k : ℕ) : Slot → ℕ → Type 0 where
  here : {slot : Slot} {level : ℕ} → child_at nodes slot ≡ Some k → key_at nodes k ≡ key
      → IsFoundFrom nodes key k slot level
  past : {slot : Slot} {level : ℕ} (at : ℕ) → child_at nodes slot ≡ Some at → key_at nodes at ≢ key
      → IsFoundFrom nodes key k (slot_at key (suc level) at) (suc level)
      → IsFoundFrom nodes key k slot level

-- branch k is found by a key from the root on
abbrev pub IsFound : List Row → Key → ℕ → Type 0
IsFound nodes key k = IsFoundFrom nodes key k (slot_at key 0 0) 0

-- a node with a key, and without children
pub record IsLeaf (node : Row) (key : Key) : Type 0 where
  pub same : key_of node ≡ key
  pub childless : (digit : ℕ) → slice_index node.children digit ≡ 0

-- a leaf with a key was pushed behind all nodes
pub record IsPushed (old new : List Row) (key : Key) : Type 0 where
  pub node : Row
  pub leaf : IsLeaf node key
  pub behind : new ≡ old ++ node ∷ []

-- new nodes keep the keys and the children of the old
pub record KeepsNodes (old new : List Row) : Type 0 where
  pub keys : (k : ℕ) → k < length old → key_at new k ≡ key_at old k
  pub children : (slot : Slot) (k : ℕ) → child_at old slot ≡ Some k → child_at new slot ≡ Some k

-- new nodes are the old ones but for the child at a slot
pub record WithChild (old new : List Row) (slot : Slot) (child : Option ℕ) : Type 0 where
  pub keys : map key_of new ≡ map key_of old
  pub here : child_at new slot ≡ child
  pub others : (other : Slot) → other ≢ slot → child_at new other ≡ child_at old other

-- a well-formed trie: each child stands behind its node, and is the child at one slot; each branch
-- but the root stands behind its parent, has the digest of its name, and is found by its key
pub record IsTrie (nodes : List Row) : Type 0 where
  pub rising : (slot : Slot) (k : ℕ) → child_at nodes slot ≡ Some k
      → (slot.node < k) × (k < length nodes)
  pub single : (slot other : Slot) (k : ℕ) → child_at nodes slot ≡ Some k
      → child_at nodes other ≡ Some k → slot ≡ other
  pub parents : (k : ℕ) → 0 < k → k < length nodes → (key_at nodes k).parent < k
  pub digests : (k : ℕ) → 0 < k → k < length nodes
      → (key_at nodes k).digest
      ≡ child_digest nodes (key_at nodes k).parent (key_at nodes k).part
  pub found : (k : ℕ) → 0 < k → k < length nodes → IsFound nodes (key_at nodes k) k

-- the slot of the child of a branch with a part, or the one at which it is found once it is
-- inserted
pub record IsSlotOf (nodes : List Row) (parent : ℕ) (part : List ℕ) (slot : Slot) : Type 0 where
  pub inside : slot.node < length nodes
  pub digit : slot.digit < 16
  pub parent_inside : parent < length nodes
  pub child : (k : ℕ) → child_at nodes slot ≡ Some k → IsChild (branches_of nodes) parent part k
  pub none : child_at nodes slot ≡ None
      → (k : ℕ) → IsChild (branches_of nodes) parent part k → ⊥
  pub found : (more : List Row) → KeepsNodes nodes more → (k : ℕ) → child_at more slot ≡ Some k
      → key_at more k ≡ child_key nodes parent part → IsFound more (child_key nodes parent part) k

-- parts and nodes, as many of each, that make a well-formed trie
pub record AreTrie (parts : List (List ℕ)) (nodes : List Node) : Type 0 where
  pub even : length parts ≡ length nodes
  pub trie : IsTrie (rows parts nodes)

-- no branch has a key, and one that has it would be found at a slot
pub record IsFree (nodes : List Row) (key : Key) (slot : Slot) : Type 0 where
  pub digest : key.digest ≡ child_digest nodes key.parent key.part
  pub slot_of : IsSlotOf nodes key.parent key.part slot
  pub none : child_at nodes slot ≡ None
