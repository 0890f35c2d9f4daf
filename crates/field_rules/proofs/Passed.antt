-- What is told of a list where what doesn't pass a test is told nothing of.
use Rattle.std.proofs.Common.{◌≡◌, ◌≤◌, ℕ, zero, suc, Bool, true, false, List, [], ◌∷◌, ◌++◌, Option, Some, None, take, refl, ap, ◌∙◌, arith, if◌then◌else◌}
use Rattle.std.specs.List.{flat_map}
use Rattle.std.specs.Option.{option_map}
use Rattle.plain_data.specs.Each.{map_enumerated}
use Rattle.field_rules.specs.NumberRanges.{first_from}

module _ {X Y : Type 0} (test : X → Bool) (make : ℕ → X → List Y) (quiet : (n : ℕ) (x : X) → test x ≡ false → make n x ≡ []) where
  abbrev told : ℕ → List X → List Y
  told n xs = flat_map (λ ys. ys) (map_enumerated make n xs)

  some-pred : (x : Option ℕ) (i : ℕ) → option_map suc x ≡ Some i → (j : ℕ) × (i ≡ suc j) × (x ≡ Some j)
  some-pred None i is = absurd (cc)
  some-pred (Some j) i is = (j, cc, refl)

  some-if : (b : Bool) (n : ℕ) (x : X) (xs : List X) (i : ℕ) → test x ≡ b → (if b then Some 0 else option_map suc (first_from test 0 xs)) ≡ Some i
      → ((j : ℕ) → first_from test 0 xs ≡ Some j → told (suc n) (take j xs) ≡ []) → told n (take i (x ∷ xs)) ≡ []
  some-if true n x xs i passes is later =
      let zeroth : i ≡ 0 = cc in
      ap (λ k. told n (take k (x ∷ xs))) zeroth
  some-if false n x xs i passes is later =
      let p = some-pred (first_from test 0 xs) i is in
      ap (λ k. told n (take k (x ∷ xs))) p.1 ∙ (λ k. quiet n x passes k ++ later p.0 p.2 k)

  -- up to the first that passes
  pub up-to : (n : ℕ) (xs : List X) (from i : ℕ) → first_from test from xs ≡ Some i → (from ≤ i) × (told n (take i xs) ≡ told n (take from xs))
  up-to n [] from i is = absurd (cc)
  up-to n (x ∷ xs) zero i is = (omega arith, some-if (test x) n x xs i refl is (λ j later. (up-to (suc n) xs 0 j later).1))
  up-to n (x ∷ xs) (suc from) i is =
      let p = some-pred (first_from test from xs) i is in
      let later = up-to (suc n) xs from p.0 p.2 in
      (omega (arith, later.0, p.1), ap (λ k. told n (take k (x ∷ xs))) p.1 ∙ ap (λ ys. make n x ++ ys) later.1)

  none-pred : (x : Option ℕ) → option_map suc x ≡ None → x ≡ None
  none-pred None is = refl
  none-pred (Some j) is = absurd (cc)

  none-if : (b : Bool) (n : ℕ) (x : X) (xs : List X) → test x ≡ b → (if b then Some 0 else option_map suc (first_from test 0 xs)) ≡ None
      → (first_from test 0 xs ≡ None → told (suc n) xs ≡ []) → told n (x ∷ xs) ≡ []
  none-if true n x xs passes is later = absurd (cc)
  none-if false n x xs passes is later = λ k. quiet n x passes k ++ later (none-pred (first_from test 0 xs) is) k

  -- to the end, where none passes
  pub to-end : (n : ℕ) (xs : List X) (from : ℕ) → first_from test from xs ≡ None → told n xs ≡ told n (take from xs)
  to-end n [] zero is = refl
  to-end n [] (suc from) is = refl
  to-end n (x ∷ xs) zero is = none-if (test x) n x xs refl is (to-end (suc n) xs 0)
  to-end n (x ∷ xs) (suc from) is = ap (λ ys. make n x ++ ys) (to-end (suc n) xs from (none-pred (first_from test from xs) is))
