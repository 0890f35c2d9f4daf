-- Values that are entered under numbers, and that go from a file on.
use Rattle.std.proofs.Common.{◌≡◌, ◌<◌, ◌-◌, ℕ, zero, suc, Bool, true, false, cond, List, [], ◌∷◌, length, Option, None, Some, refl, sym, ap, ◌∙◌, subst, inl, inr, ltb, arith}
use Rattle.std.proofs.lemmas.Bool.{cases_eq}
use Rattle.std.proofs.lemmas.Map.Entries.{option_filter}
use Rattle.std.proofs.lemmas.Option.{none-some, same_Some}
use Rattle.name_tables.specs.Entered.{found_before, IsRising, value_at}

module _ {X : Type 0} where
  -- a number that has a value is one of the list
  pub value-inside : (values : List (Option X)) (k : ℕ) (x : X) → value_at values k ≡ Some x → k < length values
  value-inside [] k x is = absurd (none-some x is)
  value-inside (v ∷ values) zero x is = omega arith
  value-inside (v ∷ values) (suc k) x is = omega (arith, value-inside values k x is)

  module _ (file_of : X → ℕ) (n : ℕ) where
    -- what is left, in the words of finite maps
    pub before-filter : (found : Option X) → found_before file_of n found ≡ option_filter (λ x. ltb (file_of x) n) found
    before-filter None = refl
    before-filter (Some x) = refl

    -- only what was there is left
    pub before-left : (found : Option X) (x : X) → found_before file_of n found ≡ Some x → found ≡ Some x
    before-left None x is = absurd (none-some x is)
    before-left (Some y) x is = next (ltb (file_of y) n) refl
      where
        next : (b : Bool) → ltb (file_of y) n ≡ b → Some y ≡ Some x
        next true early = sym (ap (λ b. cond b (Some y) None) early) ∙ is
        next false late = absurd (none-some x (sym (ap (λ b. cond b (Some y) None) late) ∙ is))

module _ {X : Type 0} (file_of : X → ℕ) where
  -- where files rise, all before a value of an earlier file lie in earlier ones
  pub rising-before : (values : List (Option X)) (count n : ℕ) (y : X) → IsRising file_of values → value_at values (count - 1) ≡ Some y → file_of y < n
      → (k : ℕ) (x : X) → k < count → value_at values k ≡ Some x → file_of x < n
  rising-before values count n y rising last early k x below is = elim (cases_eq k (count - 1)) [
    | inl same ↦ subst (λ z. file_of z < n) (same_Some y x (sym last ∙ ap (value_at values) (sym same) ∙ is)) early
    | inr other ↦ let up = rising k (count - 1) x y (omega (arith, other, below)) is last in omega (arith, up, early)
  ]
