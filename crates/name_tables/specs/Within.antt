-- Whether names mean the same in two trees.
use Rattle.std.specs.Prelude.{◌≡◌, ◌<◌, ◌≤◌, ℕ, List, ◌++◌}
use Rattle.std.specs.declared.option.Option.TheVariants.{Some}
use Rattle.name_tables.specs.Tree.{Branch, IsDescendant, IsTree, path}
use Rattle.pool_types.specs.declared.contents.definition.Definition.{Definition}
use Rattle.name_tables.specs.Branches.{AreBranches}
use Rattle.name_tables.specs.Entered.{value_at}
use Rattle.name_tables.specs.declared.branches.Branches.{Branches}
use Rattle.name_tables.specs.declared.within.Pair.{Pair}

-- what the name of branch k means is what it means among others
abbrev pub IsWithinAt : Branches → Branches → ℕ → Type 0
IsWithinAt branches others k =
    (d : Definition) → value_at branches.definitions k ≡ Some d
    → (j : ℕ) × IsDescendant others.tree 0 (path branches.tree k) j
    × (value_at others.definitions j ≡ Some d)

-- so it is with each name
abbrev pub IsWithin : Branches → Branches → Type 0
IsWithin branches others = (k : ℕ) → IsWithinAt branches others k

-- the name of a branch leads down to the other one among others
abbrev pub IsPair : List Branch → List Branch → Pair → Type 0
IsPair branches others pair = IsDescendant others 0 (path branches pair.branch) pair.other

-- two trees, and a branch of one with the branch of the other that has its name
pub record ArePaired (branches others : List Branch) (pair : Pair) : Type 0 where
  pub tree : IsTree branches
  pub other_tree : IsTree others
  pub names : IsPair branches others pair

-- the branches and others, and a pair of them that stands no later than branch k
pub record AreCompared (branches others : Branches) (pair : Pair) (k : ℕ) : Type 0 where
  pub branches_are : AreBranches branches.tree branches.definitions
  pub others_are : AreBranches others.tree others.definitions
  pub names : IsPair branches.tree others.tree pair
  pub earlier : pair.branch ≤ k

-- branch k stands before another, and its name is made of the first parts of that one's name
abbrev pub IsAbove : List Branch → ℕ → ℕ → Type 0
IsAbove branches k at =
    (k < at) × (rest : List (List ℕ)) × (path branches at ≡ path branches k ++ rest)
