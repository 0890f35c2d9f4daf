-- What a reference finds has a full name that is UTF-8, where the reference and its scope are.
use Rattle.std.proofs.Common.{◌≡◌, ℕ, Bool, true, false, not, cond, if◌then◌else◌, IfSome, List, [], ◌∷◌, Option, None, Some, unwrap_or, refl, sym, subst, reverse}
use Rattle.std.proofs.lemmas.Grind.{reverse_onto}
use Rattle.std.specs.FinMap as finite
use Rattle.std.specs.List.{AllByRecursion, find}
use Rattle.std.specs.Option.{option_map_or}
use Rattle.pool_types.specs.Contents.{ByText}
use Rattle.pool_types.specs.declared.contents.definition.Definition.{Definition}
use Rattle.proto_types.specs.Names.{fronts, is_dot, join}
use Rattle.name_resolution.specs.declared.filter.ResolveNameFilter.{ResolveNameFilter}
use Rattle.name_resolution.specs.Filter.{is_match}
use Rattle.name_resolution.specs.Parents.{outer}
use Rattle.name_resolution.specs.Resolution.{Resolution, found, invalid_type, not_imported, shadowed, not_found, is_found, is_not_found, or_shadowed, has_dot, look, simple, holds_first, dotted, relative, resolution}
use Rattle.name_resolution.proofs.Outward.{answers}
use Rattle.descriptor_encoding.specs.Whole.{IsText}
use Rattle.descriptor_pool.proofs.Resolved.{all-append}
use Rattle.stored_pools.proofs.Texts.{empty-text, fronts-texts, joined, undotted}

-- what is found has a full name that is UTF-8
abbrev pub FoundIsText : Resolution → Type 0
FoundIsText (found name def) = IsText name
FoundIsText _ = Unit {0}

all-reversed : {X : Type 0} (P : X → Type 0) (xs : List X) → AllByRecursion P xs → AllByRecursion P (reverse xs)
all-reversed P [] all = tt
all-reversed P (x ∷ xs) all = subst (AllByRecursion P) (sym (reverse_onto xs x [])) (all-append P (reverse xs) (x ∷ []) (all-reversed P xs all.1) (all.0, tt))

outer-texts : (scope : List ℕ) → IsText scope → AllByRecursion IsText (outer scope)
outer-texts scope whole = (whole, all-append IsText (reverse (fronts scope)) ([] ∷ []) (all-reversed IsText (fronts scope) (fronts-texts scope whole)) (empty-text, tt))

found-all : {X : Type 0} (P : X → Type 0) (test : X → Bool) (xs : List X) → AllByRecursion P xs → IfSome (find test xs) P
found-all P test [] all = tt
found-all P test (x ∷ xs) all = elim (test x) as (λ b. IfSome (cond b (Some x) (find test xs)) P) [ true ↦ all.0 | false ↦ found-all P test xs all.1 ]

module _ (names : ByText Definition) (seen : ℕ → Bool) (filter : ResolveNameFilter) where
  looked : (name : List ℕ) → IsText name → FoundIsText (look names seen filter name)
  looked name whole =
      elim (finite.get names name) as (λ got. FoundIsText (option_map_or (λ def.
      if not (seen def.file) then not_imported name def.file
      else (if not (is_match filter def.kind) then invalid_type name def filter
      else found name def)) got not_found)) [
        | None ↦ tt
        | Some def ↦ elim (seen def.file) as (λ sees. FoundIsText (if not sees then not_imported name def.file
            else (if not (is_match filter def.kind) then invalid_type name def filter else found name def))) [
              | true ↦ elim (is_match filter def.kind) as (λ b. FoundIsText (if not b then invalid_type name def filter else found name def)) [ true ↦ whole | false ↦ tt ]
              | false ↦ tt
            ]
      ]

  first-text : (test : Resolution → Bool) (name : List ℕ) → IsText name → (scopes : List (List ℕ)) → AllByRecursion IsText scopes → (other : Resolution) → FoundIsText other
      → FoundIsText (unwrap_or (find test (answers names seen filter name scopes)) other)
  first-text test name whole [] all other holds = holds
  first-text test name whole (scope ∷ scopes) all other holds =
      let answer = look names seen filter (join scope name) in
      elim (test answer) as (λ b. FoundIsText (unwrap_or (cond b (Some answer) (find test (answers names seen filter name scopes))) other))
      [ true ↦ looked (join scope name) (joined scope name all.0 whole) | false ↦ first-text test name whole scopes all.1 other holds ]

  simple-text : (scopes : List (List ℕ)) → AllByRecursion IsText scopes → (name : List ℕ) → IsText name → FoundIsText (simple names seen filter scopes name)
  simple-text scopes all name whole =
      first-text is_found name whole scopes all (unwrap_or (find (λ r. not (is_not_found r)) (answers names seen filter name scopes)) not_found)
      (first-text (λ r. not (is_not_found r)) name whole scopes all not_found tt)

  shadowed-text : (written full : List ℕ) (r : Resolution) → FoundIsText r → FoundIsText (or_shadowed written full r)
  shadowed-text written full (found name def) holds = holds
  shadowed-text written full (invalid_type name def kind) holds = tt
  shadowed-text written full (not_imported name file) holds = tt
  shadowed-text written full (shadowed name other) holds = tt
  shadowed-text written full not_found holds = tt

  settled-text : (name : List ℕ) → IsText name → (scope : Option (List ℕ)) → IfSome scope IsText
      → FoundIsText (option_map_or (λ scope. or_shadowed name (join scope name) (look names seen filter (join scope name))) scope not_found)
  settled-text name whole None all = tt
  settled-text name whole (Some scope) scoped =
      shadowed-text name (join scope name) (look names seen filter (join scope name)) (looked (join scope name) (joined scope name scoped whole))

  relative-text : (scope name : List ℕ) → IsText scope → IsText name → FoundIsText (relative names seen filter scope name)
  relative-text [] name scoped whole = looked name whole
  relative-text (c ∷ cs) name scoped whole =
      let all = outer-texts (c ∷ cs) scoped in
      elim (has_dot name) as (λ b. FoundIsText (if b then dotted names seen filter (outer (c ∷ cs)) name else simple names seen filter (outer (c ∷ cs)) name)) [
        | true ↦ settled-text name whole (find (holds_first names seen filter name) (outer (c ∷ cs))) (found-all IsText (holds_first names seen filter name) (outer (c ∷ cs)) all)
        | false ↦ simple-text (outer (c ∷ cs)) all name whole
      ]

  pub found-text : (scope written : List ℕ) → IsText scope → IsText written → FoundIsText (resolution names seen filter scope written)
  found-text scope [] scoped whole = relative-text scope [] scoped whole
  found-text scope (c ∷ cs) scoped whole =
      elim (is_dot c) as (λ b. is_dot c ≡ b → FoundIsText (if b then look names seen filter cs else relative names seen filter scope (c ∷ cs)))
      [ true ↦ λ is. looked cs (undotted c cs is whole) | false ↦ λ is. relative-text scope (c ∷ cs) scoped whole ] refl
