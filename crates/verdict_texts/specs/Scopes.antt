-- Full names and the scopes that they begin with.
use Rattle.std.specs.Prelude.{ℕ, Bool, false, ◌==◌, nat_eq, List, [], ◌∷◌, length, take, drop}
use Rattle.std.specs.Prelude.{if◌then◌else◌}
use Rattle.std.specs.Cmp.Lexicographic.{pointwise}
use Rattle.std.specs.List.{find}
use Rattle.std.specs.Option.{option_map_or}
use Rattle.std.specs.declared.option.Option.{Option}
use Rattle.std.specs.declared.option.Option.TheVariants.{None, Some}
use Rattle.name_resolution.specs.Parents.{outer}

-- whether two names are one
abbrev pub is : List ℕ → List ℕ → Bool
is = pointwise nat_eq

-- what stands behind a dot
abbrev pub behind_dot : List ℕ → Option (List ℕ)
behind_dot [] = None
behind_dot (c ∷ rest) = if c == 46 then Some rest else None

-- what a name has behind a scope and a dot, if it begins with them
abbrev pub behind : List ℕ → List ℕ → Option (List ℕ)
behind scope name =
    if is (take (length scope) name) scope then behind_dot (drop (length scope) name) else None

-- whether a full name is a scope, a dot and a name
abbrev pub is_in : List ℕ → List ℕ → List ℕ → Bool
is_in full name scope = option_map_or (λ rest. is rest name) (behind scope full) false

-- the scope around a full name that stands before a name and its dot, if there is one
abbrev pub scope_of : List ℕ → List ℕ → Option (List ℕ)
scope_of full name = find (is_in full name) (outer full)
