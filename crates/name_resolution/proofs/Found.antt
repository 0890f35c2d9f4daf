-- What is true of all that can be found: it is a name that the names have, with the definition that
-- they have under it, of a kind that is wanted.
use Rattle.std.proofs.Common.{◌≡◌, ℕ, Bool, true, false, not, cond, if◌then◌else◌, List, [], ◌∷◌, Option, None, Some, unwrap_or, refl, subst}
use Rattle.std.specs.FinMap as finite
use Rattle.std.specs.List.{find}
use Rattle.std.specs.Option.{option_map_or}
use Rattle.pool_types.specs.Contents.{ByText}
use Rattle.pool_types.specs.declared.contents.definition.Definition.{Definition}
use Rattle.proto_types.specs.Names.{is_dot, join}
use Rattle.name_resolution.specs.declared.filter.ResolveNameFilter.{ResolveNameFilter}
use Rattle.name_resolution.specs.Filter.{is_match}
use Rattle.name_resolution.specs.Parents.{outer}
use Rattle.name_resolution.specs.Resolution.{Resolution, found, invalid_type, not_imported, shadowed, not_found, is_found, is_not_found, or_shadowed, has_dot, look, simple, holds_first, dotted, relative, resolution}
use Rattle.name_resolution.proofs.Outward.{answers}

-- what is found meets a condition on its name and its definition
abbrev pub IfFound : (List ℕ → Definition → Type 0) → Resolution → Type 0
IfFound P (found name def) = P name def
IfFound P _ = Unit {0}

-- a condition on all that the names have, of a kind that is wanted
module _ (names : ByText Definition) (seen : ℕ → Bool) (filter : ResolveNameFilter) (P : List ℕ → Definition → Type 0)
    (each : (name : List ℕ) (def : Definition) → finite.get names name ≡ Some def → is_match filter def.kind ≡ true → P name def) where
  seen-meets : (name : List ℕ) (def : Definition) (sees matches : Bool) → finite.get names name ≡ Some def → is_match filter def.kind ≡ matches
      → IfFound P (if not sees then not_imported name def.file else (if not matches then invalid_type name def filter else found name def))
  seen-meets name def true true has wanted = each name def has wanted
  seen-meets name def true false has wanted = tt
  seen-meets name def false matches has wanted = tt

  got-meets : (name : List ℕ) (got : Option Definition) → finite.get names name ≡ got
      → IfFound P (option_map_or (λ def.
      if not (seen def.file) then not_imported name def.file
      else (if not (is_match filter def.kind) then invalid_type name def filter
      else found name def)) got not_found)
  got-meets name None is = tt
  got-meets name (Some def) is = seen-meets name def (seen def.file) (is_match filter def.kind) is refl

  pub look-meets : (name : List ℕ) → IfFound P (look names seen filter name)
  look-meets name = got-meets name (finite.get names name) refl

  -- the first answer of scopes that passes a test, or another answer
  first-meets : (test : Resolution → Bool) (name : List ℕ) (scopes : List (List ℕ)) (other : Resolution) → IfFound P other
      → IfFound P (unwrap_or (find test (answers names seen filter name scopes)) other)
  first-meets test name [] other meets = meets
  first-meets test name (scope ∷ scopes) other meets =
      let answer = look names seen filter (join scope name) in
      elim (test answer) as (λ b. IfFound P (unwrap_or (cond b (Some answer) (find test (answers names seen filter name scopes))) other))
      [ true ↦ look-meets (join scope name) | false ↦ first-meets test name scopes other meets ]

  simple-meets : (scopes : List (List ℕ)) (name : List ℕ) → IfFound P (simple names seen filter scopes name)
  simple-meets scopes name =
      first-meets is_found name scopes (unwrap_or (find (λ r. not (is_not_found r)) (answers names seen filter name scopes)) not_found)
      (first-meets (λ r. not (is_not_found r)) name scopes not_found tt)

  shadowed-meets : (written full : List ℕ) (r : Resolution) → IfFound P r → IfFound P (or_shadowed written full r)
  shadowed-meets written full (found name def) meets = meets
  shadowed-meets written full (invalid_type name def kind) meets = tt
  shadowed-meets written full (not_imported name file) meets = tt
  shadowed-meets written full (shadowed name other) meets = tt
  shadowed-meets written full not_found meets = tt

  dotted-meets : (name : List ℕ) (scope : Option (List ℕ))
      → IfFound P (option_map_or (λ scope. or_shadowed name (join scope name) (look names seen filter (join scope name))) scope not_found)
  dotted-meets name None = tt
  dotted-meets name (Some scope) = shadowed-meets name (join scope name) (look names seen filter (join scope name)) (look-meets (join scope name))

  relative-meets : (scope name : List ℕ) → IfFound P (relative names seen filter scope name)
  relative-meets [] name = look-meets name
  relative-meets (c ∷ cs) name =
      elim (has_dot name) as (λ b. IfFound P (if b then dotted names seen filter (outer (c ∷ cs)) name else simple names seen filter (outer (c ∷ cs)) name))
      [ true ↦ dotted-meets name (find (holds_first names seen filter name) (outer (c ∷ cs))) | false ↦ simple-meets (outer (c ∷ cs)) name ]

  pub resolution-meets : (scope written : List ℕ) → IfFound P (resolution names seen filter scope written)
  resolution-meets scope [] = relative-meets scope []
  resolution-meets scope (c ∷ cs) =
      elim (is_dot c) as (λ b. IfFound P (if b then look names seen filter cs else relative names seen filter scope (c ∷ cs)))
      [ true ↦ look-meets cs | false ↦ relative-meets scope (c ∷ cs) ]

-- what is found, the names have
abbrev pub IsNamed : ByText Definition → Resolution → Type 0
IsNamed names r = IfFound (λ name def. finite.get names name ≡ Some def) r

-- what is found is of a kind that a filter wants
abbrev pub IsWanted : ResolveNameFilter → Resolution → Type 0
IsWanted filter r = IfFound (λ name def. is_match filter def.kind ≡ true) r

module _ (names : ByText Definition) (seen : ℕ → Bool) (filter : ResolveNameFilter) where
  pub look-named : (name : List ℕ) → IsNamed names (look names seen filter name)
  look-named name = look-meets names seen filter (λ name def. finite.get names name ≡ Some def) (λ name def has wanted. has) name

  pub resolution-named : (scope written : List ℕ) → IsNamed names (resolution names seen filter scope written)
  resolution-named scope written =
      resolution-meets names seen filter (λ name def. finite.get names name ≡ Some def) (λ name def has wanted. has) scope written

  pub resolution-wanted : (scope written : List ℕ) → IsWanted filter (resolution names seen filter scope written)
  resolution-wanted scope written =
      resolution-meets names seen filter (λ name def. is_match filter def.kind ≡ true) (λ name def has wanted. wanted) scope written

  pub found-named : (scope written name : List ℕ) (def : Definition) → resolution names seen filter scope written ≡ found name def → finite.get names name ≡ Some def
  found-named scope written name def is = subst (IsNamed names) is (resolution-named scope written)
