-- The scopes in which declarations are named, in the order in which they are shown: those around a
-- declaration are open when it comes.
use Rattle.std.specs.Prelude.{◌≡◌, ◌<◌, ◌-◌, ◌/◌, ℕ, suc, List, [], ◌∷◌, ◌++◌, length, take, get_or}
use Rattle.proto_types.specs.Names.{join}
use Rattle.proto_types.specs.Readers.{text_of}
use Rattle.record_walk.specs.Protos.{of_file, of_value, name_of}
use Rattle.record_walk.specs.Shown.{Shown}

-- the level of the scope in which a declaration is named, from 0 for the package of its file: each
-- entry of a list on its path is one more, but values are named beside their enum
abbrev pub scope_level : Shown → ℕ
scope_level d = elim d.proto [
  | of_value _ ↦ length d.path / 2 - 2
  | _ ↦ length d.path / 2 - 1
]

-- the scopes that are open behind a declaration: behind a file that of its package, and behind any
-- other those up to the one in which it is named, and that of its full name
abbrev pub scopes_behind : List (List ℕ) → Shown → List (List ℕ)
scopes_behind scopes d = elim d.proto [
  | of_file f ↦ text_of f.«package» ∷ []
  | _ ↦ take (suc (scope_level d)) scopes ++ d.full_name ∷ []
]

-- a declaration other than a file is named in the open scope with its level
abbrev pub IsNamedIn : List (List ℕ) → Shown → Type 0
IsNamedIn scopes d = elim d.proto [
  | of_file _ ↦ Unit {0}
  | _ ↦ (scope_level d < length scopes)
      × (d.full_name ≡ join (get_or scopes (scope_level d) []) (name_of d.proto))
]

-- each declaration of a list is named in the scopes that are open behind those before it
abbrev pub FollowScopes : List (List ℕ) → List Shown → Type 0
FollowScopes scopes [] = Unit {0}
FollowScopes scopes (d ∷ ds) = IsNamedIn scopes d × FollowScopes (scopes_behind scopes d) ds

-- law: the front of a list that follows open scopes does so too
pub front-follows : (scopes : List (List ℕ)) (ds es : List Shown) → FollowScopes scopes (ds ++ es)
    → FollowScopes scopes ds
front-follows scopes [] es all = tt
front-follows scopes (d ∷ ds) es all =
    (all.0, front-follows (scopes_behind scopes d) ds es all.1)
