-- A reference by its dots.
use Rattle.std.proofs.Common.{◌≡◌, ◌≢◌, arith, ℕ, Bool, true, false, ◌||◌, cond, ◌==◌, eqb, None, List, [], ◌∷◌, length, refl, ap, ◌∙◌}
use Rattle.std.specs.List.{list_any}
use Rattle.std.specs.Str.Pattern.{FindsChar, HasMatch}
use Rattle.std.proofs.lemmas.Bool.Decides.{nat_tests}
use Rattle.std.proofs.lemmas.List.{nil_from_length}
use Rattle.std.proofs.lemmas.List.Folds.{list_any_at}
use Rattle.std.proofs.lemmas.Str.Pattern.{contains_char}
use Rattle.pool_types.specs.Contents.{ByText}
use Rattle.pool_types.specs.declared.contents.definition.Definition.{Definition}
use Rattle.proto_types.specs.Names.{is_dot}
use Rattle.name_resolution.specs.declared.filter.ResolveNameFilter.{ResolveNameFilter}
use Rattle.name_resolution.specs.Parents.{outer}
use Rattle.name_resolution.specs.Resolution.{resolution, relative, look, simple, dotted, has_dot}
use Rattle.name_resolution.proofs.Fronts.{IsUndotted, no_dot, tail-undotted, none-found}

-- a dot was found in a name
pub dot-found : (name : List ℕ) → HasMatch (FindsChar 46) name → has_dot name ≡ true
dot-found name found =
    let (k, below, at) = (contains_char 46 name true found (omega arith)).0 refl in
    list_any_at is_dot name k 0 below (ap is_dot at)

-- none was
pub has_dot-undotted : (name : List ℕ) → IsUndotted name → has_dot name ≡ false
has_dot-undotted [] none = refl
has_dot-undotted (c ∷ cs) none = ap (λ b. b || list_any is_dot cs) (no_dot c (none 0 (omega arith))) ∙ has_dot-undotted cs (tail-undotted c cs none)

-- a text of no length is empty
pub none-long : (text : List ℕ) → (length text == 0) ≡ true → text ≡ []
none-long text none = nil_from_length text (grind (arith, nat_tests))

module _ (names : ByText Definition) (seen : ℕ → Bool) (filter : ResolveNameFilter) where
  -- without a leading dot it means what the name means where it stands
  pub resolution_without_dot : (scope name : List ℕ) → ((rest : List ℕ) → name ≢ 46 ∷ rest) → resolution names seen filter scope name ≡ relative names seen filter scope name
  resolution_without_dot scope [] h = refl
  resolution_without_dot scope (c ∷ cs) h =
      let other : c ≢ 46 = λ e. h cs (ap (λ x. x ∷ cs) e) in
      let fails : eqb c 46 ≡ false = grind (arith, nat_tests) in
      rw fails refl

  pub relative-dotted : (scope name : List ℕ) → scope ≢ [] → has_dot name ≡ true → relative names seen filter scope name ≡ dotted names seen filter (outer scope) name
  relative-dotted [] name some dot = absurd (some refl)
  relative-dotted (c ∷ cs) name some dot = ap (λ b. cond b (dotted names seen filter (outer (c ∷ cs)) name) (simple names seen filter (outer (c ∷ cs)) name)) dot

  pub relative-simple : (scope name : List ℕ) → scope ≢ [] → has_dot name ≡ false → relative names seen filter scope name ≡ simple names seen filter (outer scope) name
  relative-simple [] name some dot = absurd (some refl)
  relative-simple (c ∷ cs) name some dot = ap (λ b. cond b (dotted names seen filter (outer (c ∷ cs)) name) (simple names seen filter (outer (c ∷ cs)) name)) dot

  -- without a leading dot, in a scope
  pub resolution-dotted : (scope name : List ℕ) → ((rest : List ℕ) → name ≢ 46 ∷ rest) → scope ≢ [] → HasMatch (FindsChar 46) name
      → resolution names seen filter scope name ≡ dotted names seen filter (outer scope) name
  resolution-dotted scope name h some found = resolution_without_dot scope name h ∙ relative-dotted scope name some (dot-found name found)

  pub resolution-simple : (scope name : List ℕ) → ((rest : List ℕ) → name ≢ 46 ∷ rest) → scope ≢ [] → FindsChar 46 name None
      → resolution names seen filter scope name ≡ simple names seen filter (outer scope) name
  resolution-simple scope name h some none = resolution_without_dot scope name h ∙ relative-simple scope name some (has_dot-undotted name (none-found name none))

  -- in the empty scope
  pub resolution-empty : (scope name : List ℕ) → ((rest : List ℕ) → name ≢ 46 ∷ rest) → scope ≡ [] → resolution names seen filter scope name ≡ look names seen filter name
  resolution-empty scope name h empty = resolution_without_dot scope name h ∙ ap (λ s. relative names seen filter s name) empty
