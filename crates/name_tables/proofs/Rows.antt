-- Nodes with their parts.
use Rattle.std.proofs.Common.{◌≡◌, ◌≢◌, ◌<◌, arith, ℕ, zero, suc, List, [], ◌∷◌, ◌++◌, Some, length, slice_index_or, slice_set, get_or, refl, ap}
use Rattle.std.specs.List.{slice_get}
use Rattle.std.specs.Option.{option_map_or}
use Rattle.std.proofs.lemmas.Option.{slice_get_read}
use Rattle.name_tables.specs.Nodes.{as_key, key_of, front_digest, row, rows}
use Rattle.name_tables.specs.declared.nodes.Node.{Node}

-- there are as many as nodes
pub length-rows : (parts : List (List ℕ)) (nodes : List Node) → length (rows parts nodes) ≡ length nodes
length-rows parts [] = refl
length-rows [] (node ∷ nodes) = ap suc (length-rows [] nodes)
length-rows (part ∷ parts) (node ∷ nodes) = ap suc (length-rows parts nodes)

-- a node with its part
pub get-row : (parts : List (List ℕ)) (nodes : List Node) (k : ℕ) (part : List ℕ) (node : Node) → slice_get parts k ≡ Some part → slice_get nodes k ≡ Some node
    → slice_get (rows parts nodes) k ≡ Some (row part node)
get-row parts [] k part node has is = cc
get-row [] (n ∷ nodes) k part node has is = cc
get-row (p ∷ parts) (n ∷ nodes) zero part node has is = cc
get-row (p ∷ parts) (n ∷ nodes) (suc k) part node has is = get-row parts nodes k part node has is

-- and with any part
pub get-some : (parts : List (List ℕ)) (nodes : List Node) (k : ℕ) (node : Node) → slice_get nodes k ≡ Some node
    → (part : List ℕ) × (slice_get (rows parts nodes) k ≡ Some (row part node))
get-some parts [] k node is = cc
get-some [] (n ∷ nodes) zero node is = ([], cc)
get-some [] (n ∷ nodes) (suc k) node is = get-some [] nodes k node is
get-some (p ∷ parts) (n ∷ nodes) zero node is = (p, cc)
get-some (p ∷ parts) (n ∷ nodes) (suc k) node is = get-some parts nodes k node is

-- a node that is read
abbrev pub node_at : List Node → ℕ → Node
node_at nodes at = get_or nodes at (record { digest = 0; parent = 0; children = [] })

pub read-at : (nodes : List Node) (at : ℕ) → at < length nodes → node_at nodes at ≡ get_or nodes at (node_at nodes at)
read-at [] at inside = absurd (omega arith)
read-at (n ∷ nodes) zero inside = refl
read-at (n ∷ nodes) (suc at) inside = read-at nodes at (omega arith)

module _ (parts : List (List ℕ)) (nodes : List Node) (at : ℕ) (node : Node) (inside : at < length nodes) (read : node ≡ get_or nodes at node) where
  -- a node that is read, with the part that is
  pub row-read : (part : List ℕ) → slice_get parts at ≡ Some part → slice_get (rows parts nodes) at ≡ Some (row part node)
  row-read part has = get-row parts nodes at part node has (slice_get_read nodes (length nodes) at node refl inside read)

  -- and without it
  pub row-some : (part : List ℕ) × (slice_get (rows parts nodes) at ≡ Some (row part node))
  row-some = get-some parts nodes at node (slice_get_read nodes (length nodes) at node refl inside read)

-- the digest of a name up to the part below a node that is read
pub front-row : (parts : List (List ℕ)) (nodes : List Node) (parent : ℕ) (node : Node) → parent ≢ 0 → parent < length nodes → node ≡ get_or nodes parent node
    → front_digest (rows parts nodes) parent ≡ node.digest
front-row parts nodes zero node some inside read = absurd (some refl)
front-row parts nodes (suc k) node some inside read =
    ap (λ found. (option_map_or key_of found (as_key 0 0 [])).digest) (row-some parts nodes (suc k) node inside read).1

-- one more of both is one more
pub rows-push : (parts : List (List ℕ)) (nodes : List Node) (part : List ℕ) (node : Node) → length parts ≡ length nodes
    → rows (parts ++ part ∷ []) (nodes ++ node ∷ []) ≡ rows parts nodes ++ row part node ∷ []
rows-push [] [] part node even = refl
rows-push [] (n ∷ nodes) part node even = absurd (omega arith)
rows-push (p ∷ parts) [] part node even = absurd (omega arith)
rows-push (p ∷ parts) (n ∷ nodes) part node even = ap (λ rest. row p n ∷ rest) (rows-push parts nodes part node (omega arith))

module _ (d : Node) (empty : List ℕ) where
  -- the children of a node
  pub children-row : (parts : List (List ℕ)) (nodes : List Node) (k : ℕ) → (slice_index_or (rows parts nodes) k (row empty d)).children ≡ (slice_index_or nodes k d).children
  children-row parts [] k = refl
  children-row [] (n ∷ nodes) zero = refl
  children-row [] (n ∷ nodes) (suc k) = children-row [] nodes k
  children-row (p ∷ parts) (n ∷ nodes) zero = refl
  children-row (p ∷ parts) (n ∷ nodes) (suc k) = children-row parts nodes k

  -- a node with other children
  pub set-children : (children : List ℕ) (parts : List (List ℕ)) (nodes : List Node) (k : ℕ)
      → rows parts (slice_set nodes k (record (slice_index_or nodes k d) { children = children })) ≡ slice_set (rows parts nodes) k (record (slice_index_or (rows parts nodes) k (row empty d)) { children = children })
  set-children children parts [] k = refl
  set-children children [] (n ∷ nodes) zero = refl
  set-children children [] (n ∷ nodes) (suc k) = ap (λ rest. row [] n ∷ rest) (set-children children [] nodes k)
  set-children children (p ∷ parts) (n ∷ nodes) zero = refl
  set-children children (p ∷ parts) (n ∷ nodes) (suc k) = ap (λ rest. row p n ∷ rest) (set-children children parts nodes k)
