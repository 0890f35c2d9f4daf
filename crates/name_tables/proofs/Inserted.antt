-- One more name, which is new or is there already.
use Rattle.std.proofs.Common.{◌≡◌, ℕ, List, Option, Some, None, Result, IfOk, is_some, true, false, rules, ap, refl, ◌∙◌}
use Rattle.std.proofs.lemmas.Result.{IfOk-weaker}
use Rattle.std.specs.FinMap as map
use Rattle.std.specs.Option.{option_map_or}
use Rattle.pool_types.specs.Contents.{ByText}
use Rattle.pool_types.specs.declared.contents.definition.Definition.{Definition}
use Rattle.name_tables.specs.NameTables.{inserted}

-- nothing was found
pub found-none : {X : Type 0} (found : Option X) → is_some found ≡ false → found ≡ None
found-none None is = refl
found-none (Some x) is = absurd (search rules)

-- something was found
pub found-some : {X : Type 0} (found : Option X) → is_some found ≡ true → (x : X) × (found ≡ Some x)
found-some None is = absurd (search rules)
found-some (Some x) is = (x, refl)

module _ (names : ByText Definition) (name : List ℕ) (d : Definition) where
  pub inserted-absent : map.get names name ≡ None → inserted names name d ≡ (map.insert names name d, None)
  inserted-absent = ap (λ found. option_map_or (λ _. (names, Some d)) found (map.insert names name d, None))

  pub inserted-present : (e : Definition) → map.get names name ≡ Some e → inserted names name d ≡ (names, Some d)
  inserted-present e = ap (λ found. option_map_or (λ _. (names, Some d)) found (map.insert names name d, None))

-- the same of equal names
pub inserted-alike : {E : Type 0} (result : Result (Option Definition) E) (new old also : ByText Definition) (name text : List ℕ) (d : Definition) → old ≡ also → name ≡ text
    → IfOk result (λ back. (new, back) ≡ inserted old name d) → IfOk result (λ back. (new, back) ≡ inserted also text d)
inserted-alike result new old also name text d names texts =
    IfOk-weaker result (λ back. (new, back) ≡ inserted old name d) (λ back. (new, back) ≡ inserted also text d) (λ back is. is ∙ (λ i. inserted (names i) (texts i) d))
