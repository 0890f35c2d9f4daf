-- A tree of names: its branches are parts, each a child of another. The first is the root, which
-- has no part.
use Rattle.std.specs.Prelude.{◌≡◌, ◌⊎◌, ◌<◌, ◌==◌, ℕ, zero, suc, List, [], ◌∷◌, ◌++◌, if◌then◌else◌}
use Rattle.std.specs.List.{slice_get}
use Rattle.std.specs.Option.{option_map_or}
use Rattle.std.specs.declared.option.Option.TheVariants.{Some}
use Rattle.name_tables.specs.Parts.{parts}

-- a part, and the number of the branch that it is a child of
pub record Branch : Type 0 where
  pub part : List ℕ
  pub parent : ℕ

-- a branch with a part and a parent
abbrev pub branch : ℕ → List ℕ → Branch
branch parent part = record { part = part; parent = parent }

-- the branches, and a root where there is none
abbrev pub with_root : List Branch → List Branch
with_root [] = branch 0 [] ∷ []
with_root (b ∷ branches) = b ∷ branches

-- branch k has a parent
abbrev pub HasParent : List Branch → ℕ → ℕ → Type 0
HasParent branches k parent = (b : Branch) × (slice_get branches k ≡ Some b) × (b.parent ≡ parent)

-- branch k has a part
abbrev pub HasPart : List Branch → ℕ → List ℕ → Type 0
HasPart branches k part = (b : Branch) × (slice_get branches k ≡ Some b) × (b.part ≡ part)

-- branch k is the child of another with a part
abbrev pub IsChild : List Branch → ℕ → List ℕ → ℕ → Type 0
IsChild branches parent part k =
    (0 < k) × (b : Branch) × (slice_get branches k ≡ Some b) × (b.parent ≡ parent) × (b.part ≡ part)

-- branch k is the child of another with a part, and was, or was inserted behind all others
abbrev pub InsertsChild : List Branch → List Branch → ℕ → List ℕ → ℕ → Type 0
InsertsChild old new parent part k =
    IsChild new parent part k
    × ((new ≡ old)
    ⊎ ((new ≡ old ++ branch parent part ∷ []) × ((j : ℕ) → IsChild old parent part j → ⊥)))

-- new branches stand behind the old
abbrev pub KeepsBranches : List Branch → List Branch → Type 0
KeepsBranches old new = (more : List Branch) × (new ≡ old ++ more)

-- parts lead down from a branch to branch k: each to the child that has it
abbrev pub IsDescendant : List Branch → ℕ → List (List ℕ) → ℕ → Type 0
IsDescendant branches from [] k = from ≡ k
IsDescendant branches from (part ∷ rest) k =
    (j : ℕ) × IsChild branches from part j × IsDescendant branches j rest k

-- the parts of the name of branch k, of which no more than n are taken
abbrev pub path_of : List Branch → ℕ → ℕ → List (List ℕ)
path_of branches zero k = []
path_of branches (suc n) k =
    if k == 0 then [] else option_map_or (λ b. path_of branches n b.parent ++ b.part ∷ [])
    (slice_get branches k) []

-- the parts of the name of branch k: its own behind those of its parent
abbrev pub path : List Branch → ℕ → List (List ℕ)
path branches k = path_of branches k k

-- each branch but the root stands behind its parent, is the only child with its part, and its part
-- has no dot
pub record IsTree (branches : List Branch) : Type 0 where
  pub rising : (k : ℕ) (b : Branch) → slice_get branches (suc k) ≡ Some b → b.parent < suc k
  pub single : (parent : ℕ) (part : List ℕ) (k j : ℕ) → IsChild branches parent part k
      → IsChild branches parent part j → k ≡ j
  pub whole : (k : ℕ) (b : Branch) → slice_get branches (suc k) ≡ Some b
      → parts b.part ≡ b.part ∷ []
