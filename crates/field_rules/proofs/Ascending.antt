-- Two ascending lists with the same elements are one list.
use Rattle.std.proofs.Common.{◌≡◌, ℕ, ◌+◌, Bool, true, false, cond, List, [], ◌∷◌, refl, sym, ◌∙◌, ap, arith, ◌<◌, ◌≤◌, suc, length, get_or}
use Rattle.std.proofs.lemmas.List.Sorted.{sorted_far}
use Rattle.std.proofs.lemmas.List.Sums.{sum_by-cons}
use Rattle.std.specs.Cmp.{IsStrictWeakOrder}
use Rattle.std.specs.List.{sum_by}
use Rattle.std.specs.List.Sorted.{IsSortedBy}

no-one : (b : Bool) (n : ℕ) → cond b 1 0 + n ≡ 0 → b ≡ false
no-one true n e = absurd (omega (arith, e))
no-one false n e = refl

refuted : (b : Bool) → (b ≡ true → b ≡ false) → b ≡ false
refuted true says = says refl
refuted false says = refl

abbrev pub Each : {X : Type 0} → (X → Type 0) → List X → Type 0
Each P [] = Unit {0}
Each P (x ∷ xs) = P x × Each P xs

all-from : {X : Type 0} (P : X → Type 0) (xs : List X) (d : X) → ((j : ℕ) → j < length xs → P (get_or xs j d)) → Each P xs
all-from P [] d holds = tt
all-from P (x ∷ xs) d holds = (holds 0 (omega arith), all-from P xs d (λ j below. holds (suc j) (omega (arith, below))))

module _ {X : Type 0} (less : X → X → Bool) where
  -- no element is less than one before it
  abbrev pub Ascends : List X → Type 0
  Ascends [] = Unit {0}
  Ascends (x ∷ xs) = Each (λ y. less y x ≡ false) xs × Ascends xs

  none-less : (x : X) (xs : List X) → Each (λ y. less y x ≡ false) xs → sum_by (λ y. cond (less y x) 1 0) xs ≡ 0
  none-less x [] low = refl
  none-less x (y ∷ ys) low =
      sum_by-cons (λ y. cond (less y x) 1 0) y ys ∙ (λ i. cond (low.0 i) 1 0 + none-less x ys low.1 i)

  -- what a sort makes ascends
  ascends-far : (xs : List X) → ((i j : ℕ) (d : X) → i ≤ j → j < length xs → less (get_or xs j d) (get_or xs i d) ≡ false) → Ascends xs
  ascends-far [] far = tt
  ascends-far (x ∷ xs) far =
      (all-from (λ y. less y x ≡ false) xs x (λ j below. far 0 (suc j) x (omega arith) (omega (arith, below))), ascends-far xs (λ i j d le below. far (suc i) (suc j) d (omega (arith, le)) (omega (arith, below))))

  module _ (order : IsStrictWeakOrder less) (exact : (x y : X) → less x y ≡ false → less y x ≡ false → x ≡ y) where
    pub ascends-sorted : (xs : List X) → IsSortedBy less xs → Ascends xs
    ascends-sorted xs up = ascends-far xs (sorted_far less order xs up)

    not-below : (x y : X) (xs ys : List X) → Each (λ z. less z x ≡ false) xs → ((f : X → ℕ) → sum_by f (x ∷ xs) ≡ sum_by f (y ∷ ys)) → less y x ≡ false
    not-below x y xs ys low same =
        let f : X → ℕ = λ z. cond (less z x) 1 0 in
        let own = refuted (less x x) (order.one_way x x) in
        let none : f x + sum_by f xs ≡ 0 = λ i. cond (own i) 1 0 + none-less x xs low i in
        no-one (less y x) (sum_by f ys) (sym (sum_by-cons f y ys) ∙ sym (same f) ∙ sum_by-cons f x xs ∙ none)

    rest-same : (x y : X) (xs ys : List X) → x ≡ y → ((f : X → ℕ) → sum_by f (x ∷ xs) ≡ sum_by f (y ∷ ys)) → (f : X → ℕ) → sum_by f xs ≡ sum_by f ys
    rest-same x y xs ys is same f = omega (arith, same f, sum_by-cons f x xs, sum_by-cons f y ys, ap f is)

    pub same-ascending : (xs ys : List X) → Ascends xs → Ascends ys → ((f : X → ℕ) → sum_by f xs ≡ sum_by f ys) → xs ≡ ys
    same-ascending [] [] up_x up_y same = refl
    same-ascending [] (y ∷ ys) up_x up_y same = absurd (omega (arith, same (λ _. 1), sum_by-cons (λ _. 1) y ys))
    same-ascending (x ∷ xs) [] up_x up_y same = absurd (omega (arith, same (λ _. 1), sum_by-cons (λ _. 1) x xs))
    same-ascending (x ∷ xs) (y ∷ ys) up_x up_y same =
        let is = exact x y (not-below y x ys xs up_y.0 (λ f. sym (same f))) (not-below x y xs ys up_x.0 same) in
        λ i. is i ∷ same-ascending xs ys up_x.1 up_y.1 (rest-same x y xs ys is same) i
