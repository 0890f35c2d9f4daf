-- A scope of a table of names.
use Rattle.std.specs.Prelude.{◌≡◌, ◌⊎◌, ◌<◌, ℕ, List, [], ◌∷◌, ◌++◌, All, length, map}
use Rattle.std.specs.declared.option.Option.{Option}
use Rattle.std.specs.declared.option.Option.TheVariants.{None, Some}
use Rattle.name_tables.specs.Tree.{Branch, IsDescendant, path}
use Rattle.name_tables.specs.Parts.{name_of, parts}

-- the parts that stand before a name in a scope: none in the empty one
abbrev pub scope_parts : List ℕ → List (List ℕ)
scope_parts [] = []
scope_parts (c ∷ cs) = parts (c ∷ cs)

-- the branch of a scope, or none where it has none
abbrev pub IsBranchOf : List Branch → List ℕ → Option ℕ → Type 0
IsBranchOf branches text None = (k : ℕ) → IsDescendant branches 0 (scope_parts text) k → ⊥
IsBranchOf branches text (Some k) = IsDescendant branches 0 (scope_parts text) k

-- the scope around another: the text before its last dot, or the empty text where it has none
abbrev pub IsAround : List ℕ → List ℕ → Type 0
IsAround text outer =
    ((last : List ℕ) × (text ≡ outer ++ 46 ∷ last) × (parts last ≡ last ∷ []))
    ⊎ ((outer ≡ []) × (parts text ≡ text ∷ []))

-- the texts of scopes, by their branches
abbrev pub scope_texts : List Branch → List ℕ → List (List ℕ)
scope_texts branches scopes = map (λ k. name_of (path branches k)) scopes

-- branch k is that of the scope whose text is its name: the root, where that is empty
abbrev pub IsScope : List Branch → ℕ → Type 0
IsScope branches k =
    (k < length branches) × IsBranchOf branches (name_of (path branches k)) (Some k)

-- so is each
abbrev pub AreScopes : List Branch → List ℕ → Type 0
AreScopes branches scopes = All (IsScope branches) scopes
