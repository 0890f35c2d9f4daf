-- The scopes in which a name is looked for, from the innermost out (the protobuf language rules on
-- names).
use Rattle.std.specs.Prelude.{◌≡◌, ℕ, ◌+◌, List, [], ◌∷◌, ◌++◌, reverse, length, count_by}
use Rattle.proto_types.specs.Names.{fronts, is_dot}
use Rattle.name_resolution.specs.declared.parents.Left.{Left}
use Rattle.name_resolution.specs.declared.parents.Left.TheVariants.{Parents, Empty, Nothing}

-- the scopes in which a name is looked for, from the innermost out: the scope itself, the text
-- before each of its dots from the last to the first, and the empty text, which comes twice where
-- the scope is empty or begins with a dot
abbrev pub outer : List ℕ → List (List ℕ)
outer scope = scope ∷ (reverse (fronts scope) ++ [] ∷ [])

-- the scopes that a `CandidateParents` has still to give
abbrev pub parents_left : Left → List (List ℕ)
parents_left (Parents parent) = outer parent.now
parents_left Empty = [] ∷ []
parents_left Nothing = []

-- law: there are two more scopes in which a name is looked for than the scope has dots
abbrev pub ParentsCount : Type 0
ParentsCount = (scope : List ℕ) → length (outer scope) ≡ count_by is_dot scope + 2
