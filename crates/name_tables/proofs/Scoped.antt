-- What names mean inside a scope.
use Rattle.std.proofs.Common.{◌≡◌, ◌≢◌, ◌<◌, ℕ, List, [], ◌∷◌, ◌++◌, length, Option, Some, None, refl, sym, ap, ◌∙◌, subst, inl, inr}
use Rattle.std.specs.FinMap as map
use Rattle.std.specs.List.{slice_get}
use Rattle.std.proofs.lemmas.Option.{slice_get_within}
use Rattle.proto_types.specs.Names.{join}
use Rattle.name_tables.specs.Tree.{Branch, IsDescendant}
use Rattle.pool_types.specs.declared.contents.definition.Definition.{Definition}
use Rattle.name_tables.specs.Branches.{AreBranches, names_of}
use Rattle.name_tables.specs.Entered.{value_at}
use Rattle.name_tables.specs.Parts.{parts}
use Rattle.name_tables.specs.Scopes.{IsAround, scope_parts}
use Rattle.name_tables.proofs.NameParts.{parts-dot}
use Rattle.name_tables.proofs.Paths.{descendant-append, descendant-one, descendant-split}
use Rattle.name_tables.proofs.BranchNames.{get-descendant, get-absent}

-- the parts of a name inside a scope
pub joined-parts : (text name : List ℕ) → parts (join text name) ≡ scope_parts text ++ parts name
joined-parts [] name = refl
joined-parts (c ∷ cs) name = parts-dot (c ∷ cs) name

module _ (branches : List Branch) (definitions : List (Option Definition)) (are : AreBranches branches definitions) (text name : List ℕ) where
  -- the parts of the name lead on from the branch of the scope
  pub get-inside : (at k : ℕ) → IsDescendant branches 0 (scope_parts text) at → IsDescendant branches at (parts name) k → map.get (names_of branches definitions) (join text name) ≡ value_at definitions k
  get-inside at k scope down =
      get-descendant branches definitions are (join text name) k
      (subst (λ ps. IsDescendant branches 0 ps k) (sym (joined-parts text name)) (descendant-append branches (scope_parts text) (parts name) 0 at k scope down))

  split : (k : ℕ) → IsDescendant branches 0 (parts (join text name)) k → (j : ℕ) × IsDescendant branches 0 (scope_parts text) j × IsDescendant branches j (parts name) k
  split k down = descendant-split branches (scope_parts text) (parts name) 0 k (subst (λ ps. IsDescendant branches 0 ps k) (joined-parts text name) down)

  -- they lead nowhere from it
  pub get-outside : (at : ℕ) → IsDescendant branches 0 (scope_parts text) at → ((k : ℕ) → IsDescendant branches at (parts name) k → ⊥) → map.get (names_of branches definitions) (join text name) ≡ None
  get-outside at scope none =
      get-absent branches definitions are (join text name) (λ k down.
      let way = split k down in
      none k (subst (λ j. IsDescendant branches j (parts name) k) (descendant-one branches are.tree (scope_parts text) 0 way.0 at way.1 scope) way.2))

  -- the scope has no branch
  pub get-nowhere : ((k : ℕ) → IsDescendant branches 0 (scope_parts text) k → ⊥) → map.get (names_of branches definitions) (join text name) ≡ None
  get-nowhere none = get-absent branches definitions are (join text name) (λ k down. let way = split k down in none way.0 way.1)

module _ (branches : List Branch) (at : ℕ) where
  around-dot : (front last : List ℕ) → front ≢ [] → parts last ≡ last ∷ [] → IsDescendant branches 0 (scope_parts (front ++ 46 ∷ last)) at
      → (b : Branch) × (slice_get branches at ≡ Some b) × IsDescendant branches 0 (scope_parts front) b.parent
  around-dot [] last some one down = absurd (some refl)
  around-dot (c ∷ cs) last some one down =
      let way = descendant-split branches (parts (c ∷ cs)) (last ∷ []) 0 at (subst (λ ps. IsDescendant branches 0 ps at) (parts-dot (c ∷ cs) last ∙ ap (λ ps. parts (c ∷ cs) ++ ps) one) down) in
      let below = way.2.1 in
      (below.1, subst (λ k. slice_get branches k ≡ Some below.1) way.2.2 below.2, subst (IsDescendant branches 0 (parts (c ∷ cs))) (sym below.3) way.1)

  -- the branch of the scope around another is the parent of the branch of the other
  pub around-descendant : (text outer : List ℕ) → IsAround text outer → outer ≢ [] → IsDescendant branches 0 (scope_parts text) at
      → (b : Branch) × (slice_get branches at ≡ Some b) × IsDescendant branches 0 (scope_parts outer) b.parent
  around-descendant text outer (inl dot) some down = around-dot outer dot.0 some dot.2 (subst (λ t. IsDescendant branches 0 (scope_parts t) at) dot.1 down)
  around-descendant text outer (inr none) some down = absurd (some none.0)

  -- which is one of the branches
  pub around-inside : (text outer : List ℕ) → IsAround text outer → outer ≢ [] → IsDescendant branches 0 (scope_parts text) at → at < length branches
  around-inside text outer around some down = let found = around-descendant text outer around some down in slice_get_within branches at found.0 found.1
