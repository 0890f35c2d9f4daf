-- The innermost scope in which a name without a dot is wanted, else is defined.
use Rattle.std.proofs.Common.{◌≡◌, ℕ, Bool, true, false, not, cond, ◌&&◌, if◌then◌else◌, List, [], ◌∷◌, Option, None, Some, unwrap_or, Bor, refl, ap, sym, ◌∙◌}
use Rattle.std.specs.Prelude.{◌↔◌}
use Rattle.std.specs.FinMap as finite
use Rattle.std.specs.Option.{IfSome, option_map_or, option_or}
use Rattle.std.proofs.lemmas.Bool.{true≢false}
use Rattle.pool_types.specs.Contents.{ByText}
use Rattle.pool_types.specs.declared.contents.definition.Definition.{Definition}
use Rattle.proto_types.specs.Names.{join}
use Rattle.name_tables.specs.Scopes.{IsAround}
use Rattle.name_resolution.specs.declared.filter.ResolveNameFilter.{ResolveNameFilter}
use Rattle.name_resolution.specs.Filter.{is_match}
use Rattle.name_resolution.specs.Parents.{outer}
use Rattle.name_resolution.specs.Resolution.{Resolution, found, invalid_type, not_imported, shadowed, not_found, is_found, is_not_found, judged, look}
use Rattle.name_resolution.proofs.Outward.{answers, best_from, best_from-next}
use Rattle.name_resolution.proofs.Around.{texts_left, behind, around-left}

-- an answer that comes twice tells as much once
best_from-twice : (so_far r : Resolution) → best_from so_far (r ∷ r ∷ []) ≡ best_from so_far (r ∷ [])
best_from-twice so_far (found name def) = refl
best_from-twice so_far (invalid_type name def filter) = refl
best_from-twice so_far (not_imported name file) = refl
best_from-twice so_far (shadowed name full) = refl
best_from-twice so_far not_found = refl

-- the answer so far, or another where that is nothing
abbrev or_else : Resolution → Resolution → Resolution
or_else so_far r = if is_not_found so_far then r else so_far

-- that is no better with the other once more
best_from-again : (so_far r : Resolution) → is_found r ≡ false → best_from (or_else so_far r) (r ∷ []) ≡ best_from (or_else so_far r) []
best_from-again (found name def) r none = ap (λ b. unwrap_or (cond b (Some r) None) (found name def)) none
best_from-again (invalid_type name def filter) r none = ap (λ b. unwrap_or (cond b (Some r) None) (invalid_type name def filter)) none
best_from-again (not_imported name file) r none = ap (λ b. unwrap_or (cond b (Some r) None) (not_imported name file)) none
best_from-again (shadowed name full) r none = ap (λ b. unwrap_or (cond b (Some r) None) (shadowed name full)) none
best_from-again not_found (found name def) none = absurd (cc)
best_from-again not_found (invalid_type name def filter) none = refl
best_from-again not_found (not_imported name file) none = refl
best_from-again not_found (shadowed name full) none = refl
best_from-again not_found not_found none = refl

-- nothing more leaves the answer so far
or_else-not_found : (so_far : Resolution) → or_else so_far not_found ≡ so_far
or_else-not_found (found name def) = refl
or_else-not_found (invalid_type name def filter) = refl
or_else-not_found (not_imported name file) = refl
or_else-not_found (shadowed name full) = refl
or_else-not_found not_found = refl

module _ (names : ByText Definition) (name : List ℕ) where
  -- what a name means in a scope of these names
  pub found-in : (scope : ByText Definition × List ℕ) (got : Option Definition) → scope.0 ≡ names
      → got ≡ finite.get scope.0 (join scope.1 name) → finite.get names (join scope.1 name) ≡ got
  found-in scope got same is = ap (λ ns. finite.get ns (join scope.1 name)) (sym same) ∙ sym is

  -- that the name has the definition that was found, in the scope where it was
  abbrev pub IsDefined : (ByText Definition × List ℕ) × Bor Definition → Type 0
  IsDefined best = finite.get names (join best.0.1 name) ≡ Some best.1.now

  -- the best so far stays so before a further one
  pub defined-or : (best : Option ((ByText Definition × List ℕ) × Bor Definition)) (more : (ByText Definition × List ℕ) × Bor Definition)
      → IfSome best IsDefined → IsDefined more → IfSome (option_or best (Some more)) IsDefined
  defined-or None more so_far is = is
  defined-or (Some best) more so_far is = so_far

module _ (names : ByText Definition) (seen : ℕ → Bool) (filter : ResolveNameFilter) where
  -- what a definition that isn't wanted means is not found
  pub judged-unwanted : (x : List ℕ) (def : Definition) → (seen def.file && is_match filter def.kind) ≡ false → is_found (judged seen filter x def) ≡ false
  judged-unwanted x def other =
      elim (seen def.file) as (λ s. (s && is_match filter def.kind) ≡ false
      → is_found (if not s then not_imported x def.file else (if not (is_match filter def.kind) then invalid_type x def filter else found x def)) ≡ false) [
        | true ↦ λ fails. ap (λ m. is_found (if not m then invalid_type x def filter else found x def)) fails
        | false ↦ λ none. refl
      ] other

  -- it is never nothing
  pub judged-some : (x : List ℕ) (def : Definition) → is_not_found (judged seen filter x def) ≡ false
  judged-some x def =
      elim (seen def.file) as (λ s. is_not_found (if not s then not_imported x def.file else (if not (is_match filter def.kind) then invalid_type x def filter else found x def)) ≡ false) [
        | true ↦ elim (is_match filter def.kind) as (λ m. is_not_found (if not m then invalid_type x def filter else found x def) ≡ false) [ true ↦ refl | false ↦ refl ]
        | false ↦ refl
      ]

  -- what a full name means that has a definition
  pub look-defined : (x : List ℕ) (def : Definition) → finite.get names x ≡ Some def → look names seen filter x ≡ judged seen filter x def
  look-defined x def is = ap (λ got. option_map_or (judged seen filter x) got not_found) is

  -- it is found where it is wanted
  pub look-wanted : (x : List ℕ) (def : Definition) → finite.get names x ≡ Some def → (seen def.file && is_match filter def.kind) ≡ true → look names seen filter x ≡ found x def
  look-wanted x def is wanted = look-defined x def is ∙ both (seen def.file) (is_match filter def.kind) wanted
    where
      both : (s m : Bool) → (s && m) ≡ true → (if not s then not_imported x def.file else (if not m then invalid_type x def filter else found x def)) ≡ found x def
      both true true are = refl
      both true false are = absurd (cc)
      both false m are = absurd (cc)

  -- that has none
  pub look-undefined : (x : List ℕ) → finite.get names x ≡ None → look names seen filter x ≡ not_found
  look-undefined x none = ap (λ got. option_map_or (judged seen filter x) got not_found) none

  -- a name that means nothing has none
  pub undefined : (x : List ℕ) → look names seen filter x ≡ not_found → finite.get names x ≡ None
  undefined x nothing = by_got (finite.get names x) nothing
    where
      by_got : (got : Option Definition) → option_map_or (judged seen filter x) got not_found ≡ not_found → got ≡ None
      by_got None nothing = refl
      by_got (Some def) nothing = absurd (true≢false (sym (ap is_not_found nothing) ∙ judged-some x def))

  module _ (name : List ℕ) where
    -- what the scope answers in which a definition was found, if one was
    abbrev pub answer_of : Option ((ByText Definition × List ℕ) × Bor Definition) → Resolution
    answer_of None = not_found
    answer_of (Some best) = look names seen filter (join best.0.1 name)

    -- one scope further: it finds nothing that is wanted
    further-left : (so_far : Resolution) (text : List ℕ) (next : Option (ByText Definition × List ℕ))
        → (next ≡ None) ↔ (text ≡ []) → IfSome next (λ scope. IsAround text scope.1)
        → is_found (look names seen filter (join text name)) ≡ false
        → best_from (or_else so_far (look names seen filter (join text name))) (answers names seen filter name (texts_left next))
        ≡ best_from so_far (answers names seen filter name (outer text))
    further-left so_far text next none around finds =
        let r = look names seen filter (join text name) in
        sym (around-left (λ texts. best_from (or_else so_far r) (answers names seen filter name texts)) text next none around
        (best_from-twice (or_else so_far r) (look names seen filter (join [] name)))
        (λ empty. ap (λ t. best_from (or_else so_far r) (look names seen filter (join t name) ∷ [])) (sym empty) ∙ best_from-again so_far r finds))
        ∙ best_from-next so_far r (answers names seen filter name (behind (outer text))) finds

    -- the answer of the best so far stays its answer before a further one
    answer_of-or : (best : Option ((ByText Definition × List ℕ) × Bor Definition)) (more : (ByText Definition × List ℕ) × Bor Definition)
        → IfSome best (IsDefined names name) → answer_of (option_or best (Some more)) ≡ or_else (answer_of best) (look names seen filter (join more.0.1 name))
    answer_of-or None more so_far = refl
    answer_of-or (Some best) more so_far =
        let x = join best.0.1 name in
        ap (λ b. if b then look names seen filter (join more.0.1 name) else look names seen filter x) (sym (ap is_not_found (look-defined x best.1.now so_far) ∙ judged-some x best.1.now))

    -- one of the scopes that are left further, which answers nothing that is wanted
    one-left-further : (so_far later all : Resolution) (next after : Option (ByText Definition × List ℕ)) (scope : ByText Definition × List ℕ)
        → next ≡ Some scope → (after ≡ None) ↔ (scope.1 ≡ []) → IfSome after (λ s. IsAround scope.1 s.1)
        → is_found (look names seen filter (join scope.1 name)) ≡ false → later ≡ or_else so_far (look names seen filter (join scope.1 name))
        → best_from so_far (answers names seen filter name (texts_left next)) ≡ all → best_from later (answers names seen filter name (texts_left after)) ≡ all
    one-left-further so_far later all next after scope is none around finds is_later left =
        ap (λ a. best_from a (answers names seen filter name (texts_left after))) is_later
        ∙ further-left so_far scope.1 after none around finds
        ∙ ap (λ o. best_from so_far (answers names seen filter name (texts_left o))) (sym is)
        ∙ left

    -- where it is not wanted what was found
    pub left-unwanted : (best : Option ((ByText Definition × List ℕ) × Bor Definition)) (all : Resolution) (next after : Option (ByText Definition × List ℕ))
        (scope : ByText Definition × List ℕ) (def : Bor Definition)
        → next ≡ Some scope → (after ≡ None) ↔ (scope.1 ≡ []) → IfSome after (λ s. IsAround scope.1 s.1)
        → finite.get names (join scope.1 name) ≡ Some def.now → (seen def.now.file && is_match filter def.now.kind) ≡ false → IfSome best (IsDefined names name)
        → best_from (answer_of best) (answers names seen filter name (texts_left next)) ≡ all
        → best_from (answer_of (option_or best (Some (scope, def)))) (answers names seen filter name (texts_left after)) ≡ all
    left-unwanted best all next after scope def is none around defined other so_far left =
        let x = join scope.1 name in
        one-left-further (answer_of best) (answer_of (option_or best (Some (scope, def)))) all next after scope is none around
        (ap is_found (look-defined x def.now defined) ∙ judged-unwanted x def.now other) (answer_of-or best (scope, def) so_far) left

    -- where nothing was
    pub left-undefined : (so_far all : Resolution) (next after : Option (ByText Definition × List ℕ)) (scope : ByText Definition × List ℕ)
        → next ≡ Some scope → (after ≡ None) ↔ (scope.1 ≡ []) → IfSome after (λ s. IsAround scope.1 s.1)
        → finite.get names (join scope.1 name) ≡ None
        → best_from so_far (answers names seen filter name (texts_left next)) ≡ all → best_from so_far (answers names seen filter name (texts_left after)) ≡ all
    left-undefined so_far all next after scope is none around undefined left =
        let nothing = look-undefined (join scope.1 name) undefined in
        one-left-further so_far so_far all next after scope is none around
        (ap is_found nothing) (sym (ap (or_else so_far) nothing ∙ or_else-not_found so_far)) left
