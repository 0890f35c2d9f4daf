-- What is found is what its full name gives by itself, and gives again where names come.
use Rattle.std.proofs.Common.{◌≡◌, ℕ, Bool, true, false, not, cond, if◌then◌else◌, List, [], ◌∷◌, Option, None, Some, unwrap_or, refl, ap, subst, ◌∙◌}
use Rattle.std.specs.FinMap as finite
use Rattle.std.specs.List.{find}
use Rattle.std.specs.Option.{option_map_or}
use Rattle.pool_types.specs.Contents.{ByText}
use Rattle.pool_types.specs.declared.contents.definition.Definition.{Definition}
use Rattle.proto_types.specs.Names.{is_dot, join}
use Rattle.name_resolution.specs.declared.filter.ResolveNameFilter.{ResolveNameFilter}
use Rattle.name_resolution.specs.Filter.{is_match}
use Rattle.name_resolution.specs.Parents.{outer}
use Rattle.name_resolution.specs.Resolution.{Resolution, found, invalid_type, not_imported, shadowed, not_found, is_found, is_not_found, or_shadowed, has_dot, look, simple, holds_first, dotted, relative, resolution}
use Rattle.name_resolution.proofs.Outward.{answers}

-- what holds of each look-up, of a name that is shadowed, and of nothing, holds of what a reference means
module _ (names : ByText Definition) (seen : ℕ → Bool) (filter : ResolveNameFilter) (Q : Resolution → Type 0)
    (looked : (name : List ℕ) → Q (look names seen filter name)) (hidden : (written full : List ℕ) → Q (shadowed written full)) (nothing : Q not_found) where
  first-all : (test : Resolution → Bool) (name : List ℕ) (scopes : List (List ℕ)) (other : Resolution) → Q other
      → Q (unwrap_or (find test (answers names seen filter name scopes)) other)
  first-all test name [] other holds = holds
  first-all test name (scope ∷ scopes) other holds =
      let answer = look names seen filter (join scope name) in
      elim (test answer) as (λ b. Q (unwrap_or (cond b (Some answer) (find test (answers names seen filter name scopes))) other))
      [ true ↦ looked (join scope name) | false ↦ first-all test name scopes other holds ]

  simple-all : (scopes : List (List ℕ)) (name : List ℕ) → Q (simple names seen filter scopes name)
  simple-all scopes name =
      first-all is_found name scopes (unwrap_or (find (λ r. not (is_not_found r)) (answers names seen filter name scopes)) not_found)
      (first-all (λ r. not (is_not_found r)) name scopes not_found nothing)

  shadowed-all : (written full : List ℕ) (r : Resolution) → Q r → Q (or_shadowed written full r)
  shadowed-all written full (found name def) holds = holds
  shadowed-all written full (invalid_type name def kind) holds = holds
  shadowed-all written full (not_imported name file) holds = holds
  shadowed-all written full (shadowed name other) holds = holds
  shadowed-all written full not_found holds = hidden written full

  settled-all : (name : List ℕ) (scope : Option (List ℕ))
      → Q (option_map_or (λ scope. or_shadowed name (join scope name) (look names seen filter (join scope name))) scope not_found)
  settled-all name None = nothing
  settled-all name (Some scope) = shadowed-all name (join scope name) (look names seen filter (join scope name)) (looked (join scope name))

  relative-all : (scope name : List ℕ) → Q (relative names seen filter scope name)
  relative-all [] name = looked name
  relative-all (c ∷ cs) name =
      elim (has_dot name) as (λ b. Q (if b then dotted names seen filter (outer (c ∷ cs)) name else simple names seen filter (outer (c ∷ cs)) name))
      [ true ↦ settled-all name (find (holds_first names seen filter name) (outer (c ∷ cs))) | false ↦ simple-all (outer (c ∷ cs)) name ]

  pub resolution-all : (scope written : List ℕ) → Q (resolution names seen filter scope written)
  resolution-all scope [] = relative-all scope []
  resolution-all scope (c ∷ cs) =
      elim (is_dot c) as (λ b. Q (if b then look names seen filter cs else relative names seen filter scope (c ∷ cs)))
      [ true ↦ looked cs | false ↦ relative-all scope (c ∷ cs) ]

-- what is found is what a look-up of its full name finds, of a kind that is wanted
module _ (names : ByText Definition) (seen : ℕ → Bool) (filter : ResolveNameFilter) where
  abbrev pub IsLooked : Resolution → Type 0
  IsLooked (found name def) = (look names seen filter name ≡ found name def) × (is_match filter def.kind ≡ true)
  IsLooked _ = Unit {0}

  abbrev pub answer : List ℕ → Option Definition → Resolution
  answer name got = option_map_or (λ def.
      if not (seen def.file) then not_imported name def.file
      else (if not (is_match filter def.kind) then invalid_type name def filter
      else found name def)) got not_found

  got-looked : (name : List ℕ) (got : Option Definition) → finite.get names name ≡ got → IsLooked (answer name got)
  got-looked name None is = tt
  got-looked name (Some def) is =
      elim (seen def.file) as (λ sees. seen def.file ≡ sees → IsLooked (if not sees then not_imported name def.file
      else (if not (is_match filter def.kind) then invalid_type name def filter else found name def))) [
        | true ↦ λ e. elim (is_match filter def.kind) as (λ b. is_match filter def.kind ≡ b → IsLooked (if not b then invalid_type name def filter else found name def)) [
          | true ↦ λ m. (
            ap (answer name) is
                ∙ (λ i. if not (e i) then not_imported name def.file else (if not (m i) then invalid_type name def filter else found name def)),
            m,
          )
          | false ↦ λ m. tt
        ] refl
        | false ↦ λ e. tt
      ] refl

  pub resolution-looked : (scope written : List ℕ) → IsLooked (resolution names seen filter scope written)
  resolution-looked = resolution-all names seen filter IsLooked (λ name. got-looked name (finite.get names name) refl) (λ _ _. tt) tt

  -- and where the names are among others that come
  module _ (more : ByText Definition) (stays : (name : List ℕ) (def : Definition) → finite.get names name ≡ Some def → finite.get more name ≡ Some def) where
    pub look-again : (x name : List ℕ) (def : Definition) → look names seen filter x ≡ found name def → look more seen filter x ≡ found name def
    look-again x name def =
        elim (finite.get names x) as (λ got. finite.get names x ≡ got → answer x got ≡ found name def → look more seen filter x ≡ found name def) [
          | None ↦ λ e is. absurd (cc)
          | Some here ↦ λ e is. ap (answer x) (stays x here e) ∙ is
        ] refl

  -- what is found under a name is what it means
  got-named : (x name : List ℕ) (def here : Definition) → answer x (Some here) ≡ found name def → here ≡ def
  got-named x name def here =
      elim (seen here.file) as (λ sees. (if not sees then not_imported x here.file
      else (if not (is_match filter here.kind) then invalid_type x here filter else found x here)) ≡ found name def → here ≡ def) [
        | true ↦ elim (is_match filter here.kind) as (λ b. (if not b then invalid_type x here filter else found x here) ≡ found name def → here ≡ def) [
          | true ↦ λ is. cc
          | false ↦ λ is. absurd (cc)
        ]
        | false ↦ λ is. absurd (cc)
      ]

  got-seen : (x name : List ℕ) (def here : Definition) → answer x (Some here) ≡ found name def → seen here.file ≡ true
  got-seen x name def here =
      elim (seen here.file) as (λ sees. (if not sees then not_imported x here.file
      else (if not (is_match filter here.kind) then invalid_type x here filter else found x here)) ≡ found name def → sees ≡ true) [
        | true ↦ λ is. refl
        | false ↦ λ is. absurd (cc)
      ]

  -- and is seen
  pub looked-seen : (x name : List ℕ) (def : Definition) → look names seen filter x ≡ found name def → seen def.file ≡ true
  looked-seen x name def =
      elim (finite.get names x) as (λ got. answer x got ≡ found name def → seen def.file ≡ true) [
        | None ↦ λ is. absurd (cc)
        | Some here ↦ λ is. subst (λ (d : Definition). seen d.file ≡ true) (got-named x name def here is) (got-seen x name def here is)
      ]

  pub looked-named : (x name : List ℕ) (def : Definition) → look names seen filter x ≡ found name def → finite.get names x ≡ Some def
  looked-named x name def =
      elim (finite.get names x) as (λ got. answer x got ≡ found name def → got ≡ Some def) [
        | None ↦ λ is. absurd (cc)
        | Some here ↦ λ is. ap Some (got-named x name def here is)
      ]
