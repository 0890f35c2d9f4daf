-- The scopes of a table of names that a walk outwards has left, where the empty one comes once.
use Rattle.std.proofs.Common.{◌≡◌, ◌+◌, arith, ℕ, suc, Bool, true, false, cond, List, [], ◌∷◌, ◌++◌, length, take, drop, Option, None, Some, ◌⊎◌, inl, inr, ⊎_elim, length-append, drop-cons, refl, ap, sym, subst, ◌∙◌}
use Rattle.std.specs.Prelude.{◌↔◌}
use Rattle.std.specs.FinMap as finite
use Rattle.std.specs.List.{find}
use Rattle.std.specs.Option.{IfSome, option_map_or}
use Rattle.std.proofs.lemmas.List.{take-append-drop}
use Rattle.std.proofs.lemmas.List.Splits.{length-slice_split}
use Rattle.pool_types.specs.Contents.{ByText}
use Rattle.pool_types.specs.declared.contents.definition.Definition.{Definition}
use Rattle.pool_types.specs.Definition.{is_parent}
use Rattle.proto_types.specs.Names.{first_part, is_dot, join}
use Rattle.name_tables.specs.Parts.{parts}
use Rattle.name_tables.specs.Scopes.{IsAround}
use Rattle.name_tables.proofs.NameParts.{parts-dot}
use Rattle.name_resolution.specs.declared.filter.ResolveNameFilter.{ResolveNameFilter}
use Rattle.name_resolution.specs.Parents.{outer}
use Rattle.name_resolution.specs.Resolution.{holds_first}
use Rattle.name_resolution.proofs.Fronts.{IsUndotted, outer-last, outer-undotted}

-- the texts of those that are left: of a scope, and of the ones around it
abbrev pub texts_left : Option (ByText Definition × List ℕ) → List (List ℕ)
texts_left None = []
texts_left (Some scope) = outer scope.1

-- more than how many of these are to come
abbrev pub steps_left : Option (ByText Definition × List ℕ) → ℕ
steps_left None = 0
steps_left (Some scope) = length scope.1 + 1

-- the texts behind the first
abbrev pub behind : List (List ℕ) → List (List ℕ)
behind [] = []
behind (text ∷ texts) = texts

-- a text of one part has no dot
part-undotted : (text : List ℕ) → parts text ≡ text ∷ [] → IsUndotted text
part-undotted text one i below dot =
    let front = take i text in
    let back = drop (suc i) text in
    let cut : text ≡ front ++ 46 ∷ back = sym (take-append-drop i text) ∙ ap (λ t. front ++ t) (drop-cons text i 0 below ∙ ap (λ c. c ∷ back) dot) in
    let both : parts text ≡ parts front ++ parts back = ap parts cut ∙ parts-dot front back in
    absurd (omega (arith, length-slice_split is_dot front, length-slice_split is_dot back, length-append (parts front) (parts back), ap length both, ap length one))

-- around a text are the one around it and those around that, but for the empty one, which `outer` has twice
outer-around : (text around : List ℕ) → IsAround text around
    → (outer text ≡ text ∷ outer around) ⊎ ((around ≡ []) × (outer text ≡ text ∷ [] ∷ []))
outer-around text around (inl (last, is, one)) = inl (outer-last text around last is (part-undotted last one))
outer-around text around (inr (empty, one)) = inr (empty, outer-undotted text (part-undotted text one))

-- what goes by the texts around a text goes by those that are left, where it goes by none twice
pub around-left : {X : Type 0} (F : List (List ℕ) → X) (text : List ℕ) (next : Option (ByText Definition × List ℕ))
    → (next ≡ None) ↔ (text ≡ []) → IfSome next (λ scope. IsAround text scope.1)
    → F ([] ∷ [] ∷ []) ≡ F ([] ∷ []) → (text ≡ [] → F ([] ∷ []) ≡ F [])
    → F (behind (outer text)) ≡ F (texts_left next)
around-left F text None none around twice once = ap (λ t. F (behind (outer t))) (none.0 refl) ∙ once (none.0 refl)
around-left F text (Some scope) none around twice once =
    ⊎_elim (λ e. ap (λ texts. F (behind texts)) e)
    (λ e. ap (λ texts. F (behind texts)) e.1 ∙ sym twice ∙ ap (λ t. F (outer t)) (sym e.0))
    (outer-around text scope.1 around)

module _ (test : List ℕ → Bool) where
  -- the first that passes a test is looked for in vain twice
  find-twice : find test ([] ∷ [] ∷ []) ≡ find test ([] ∷ [])
  find-twice = elim (test []) as (λ b. cond {A = Option (List ℕ)} b (Some []) (cond b (Some []) None) ≡ cond b (Some []) None) [ true ↦ refl | false ↦ refl ]

  -- one that fails the test is passed over
  find-left : (text : List ℕ) (next : Option (ByText Definition × List ℕ))
      → (next ≡ None) ↔ (text ≡ []) → IfSome next (λ scope. IsAround text scope.1) → test text ≡ false
      → find test (texts_left next) ≡ find test (outer text)
  find-left text next none around fails =
      sym (around-left (find test) text next none around find-twice (λ empty. ap (λ b. cond {A = Option (List ℕ)} b (Some []) None) (ap test (sym empty) ∙ fails)))
      ∙ ap (λ b. cond b (Some text) (find test (behind (outer text)))) (sym fails)

-- what is left of a scope of which the names are known
pub names-left : (names : ByText Definition) (next : Option (ByText Definition × List ℕ)) (scope : ByText Definition × List ℕ)
    → next ≡ Some scope → IfSome next (λ s. s.0 ≡ names) → scope.0 ≡ names
names-left names next scope is same = subst (λ o. IfSome o (λ s. s.0 ≡ names)) is same

-- and of the one around it
pub names-around : (names : ByText Definition) (scope : ByText Definition × List ℕ) (after : Option (ByText Definition × List ℕ))
    → IfSome after (λ s. s.0 ≡ scope.0) → scope.0 ≡ names → IfSome after (λ s. s.0 ≡ names)
names-around names scope None around same = around
names-around names scope (Some s) around same = around ∙ same

module _ (names : ByText Definition) (seen : ℕ → Bool) (filter : ResolveNameFilter) (name first : List ℕ) (is_first : first ≡ first_part name) where
  -- whether the next of the scopes that are left holds the first part of a name
  holds : (scope : ByText Definition × List ℕ) (held : Bool) → scope.0 ≡ names
      → held ≡ option_map_or (λ def. is_parent def.kind) (finite.get scope.0 (join scope.1 first)) false
      → holds_first names seen filter name scope.1 ≡ held
  holds scope held same is =
      (λ i. option_map_or (λ def. is_parent def.kind) (finite.get (sym same i) (join scope.1 (sym is_first i))) false) ∙ sym is

  -- it does, so it is the first
  pub first-held : (next : Option (ByText Definition × List ℕ)) (scope : ByText Definition × List ℕ) (held : Bool) (all : List (List ℕ))
      → next ≡ Some scope → scope.0 ≡ names
      → held ≡ option_map_or (λ def. is_parent def.kind) (finite.get scope.0 (join scope.1 first)) false → held ≡ true
      → find (holds_first names seen filter name) (texts_left next) ≡ find (holds_first names seen filter name) all
      → find (holds_first names seen filter name) all ≡ Some scope.1
  first-held next scope held all is same tested holding left =
      sym left ∙ ap (λ o. find (holds_first names seen filter name) (texts_left o)) is
      ∙ ap (λ b. cond b (Some scope.1) (find (holds_first names seen filter name) (behind (outer scope.1)))) (holds scope held same tested ∙ holding)

  -- it doesn't, so the first is among those around it
  pub none-held : (next after : Option (ByText Definition × List ℕ)) (scope : ByText Definition × List ℕ) (held : Bool) (all : List (List ℕ))
      → next ≡ Some scope → scope.0 ≡ names
      → held ≡ option_map_or (λ def. is_parent def.kind) (finite.get scope.0 (join scope.1 first)) false → held ≡ false
      → (after ≡ None) ↔ (scope.1 ≡ []) → IfSome after (λ s. IsAround scope.1 s.1)
      → find (holds_first names seen filter name) (texts_left next) ≡ find (holds_first names seen filter name) all
      → find (holds_first names seen filter name) (texts_left after) ≡ find (holds_first names seen filter name) all
  none-held next after scope held all is same tested failing none around left =
      find-left (holds_first names seen filter name) scope.1 after none around (holds scope held same tested ∙ failing)
      ∙ ap (λ o. find (holds_first names seen filter name) (texts_left o)) (sym is) ∙ left
