-- A name in scopes from the innermost out, a scope at a time.
use Rattle.std.proofs.Common.{◌≡◌, ℕ, Bool, false, not, cond, if◌then◌else◌, List, ◌∷◌, Some, refl, ap, sym, ◌∙◌, map, unwrap_or}
use Rattle.std.specs.List.{find}
use Rattle.pool_types.specs.Contents.{ByText}
use Rattle.pool_types.specs.declared.contents.definition.Definition.{Definition}
use Rattle.proto_types.specs.Names.{join}
use Rattle.name_resolution.specs.declared.filter.ResolveNameFilter.{ResolveNameFilter}
use Rattle.name_resolution.specs.Resolution.{Resolution, found, invalid_type, not_imported, shadowed, not_found, is_found, is_not_found, look}

-- the best of an answer that found nothing, and of further ones
abbrev pub best_from : Resolution → List Resolution → Resolution
best_from so_far answers =
    unwrap_or (find is_found answers) (if is_not_found so_far then unwrap_or (find (λ r. not (is_not_found r)) answers) not_found else so_far)

nothing-found : (r : Resolution) (rs : List Resolution) → is_found r ≡ false → find is_found (r ∷ rs) ≡ find is_found rs
nothing-found r rs none = ap (λ b. cond b (Some r) (find is_found rs)) none

-- one further answer, which found nothing
pub best_from-next : (so_far r : Resolution) (rs : List Resolution) → is_found r ≡ false
    → best_from (if is_not_found so_far then r else so_far) rs ≡ best_from so_far (r ∷ rs)
best_from-next not_found (found name def) rs none = absurd (cc)
best_from-next not_found (invalid_type name def filter) rs none = refl
best_from-next not_found (not_imported name file) rs none = refl
best_from-next not_found (shadowed name full) rs none = refl
best_from-next not_found not_found rs none = refl
best_from-next (found name def) r rs none = ap (λ o. unwrap_or o (found name def)) (sym (nothing-found r rs none))
best_from-next (invalid_type name def filter) r rs none = ap (λ o. unwrap_or o (invalid_type name def filter)) (sym (nothing-found r rs none))
best_from-next (not_imported name file) r rs none = ap (λ o. unwrap_or o (not_imported name file)) (sym (nothing-found r rs none))
best_from-next (shadowed name full) r rs none = ap (λ o. unwrap_or o (shadowed name full)) (sym (nothing-found r rs none))

module _ (names : ByText Definition) (seen : ℕ → Bool) (filter : ResolveNameFilter) (name : List ℕ) where
  -- what scopes answer for a name
  abbrev pub answers : List (List ℕ) → List Resolution
  answers scopes = map (λ scope. look names seen filter (join scope name)) scopes

  -- one scope further: its full name is looked up, and nothing is found
  pub one-scope-further : (so_far r after all : Resolution) (scope full_name text : List ℕ) (more left : List (List ℕ)) (tested : Bool)
      → left ≡ scope ∷ more → full_name ≡ join scope name → text ≡ full_name → r ≡ look names seen filter text
      → tested ≡ is_found r → tested ≡ false → after ≡ (if is_not_found so_far then r else so_far)
      → best_from so_far (answers left) ≡ all → best_from after (answers more) ≡ all
  one-scope-further so_far r after all scope full_name text more left tested is is_full is_text answered test none is_after known =
      ap (λ a. best_from a (answers more)) is_after
      ∙ best_from-next so_far r (answers more) (sym test ∙ none)
      ∙ ap (λ a. best_from so_far (a ∷ answers more)) (answered ∙ ap (look names seen filter) (is_text ∙ is_full))
      ∙ ap (λ scopes. best_from so_far (answers scopes)) (sym is)
      ∙ known
