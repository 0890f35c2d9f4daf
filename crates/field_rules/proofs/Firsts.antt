-- The first of a list that passes a test, from a position on.
use Rattle.std.proofs.Common.{◌≡◌, ◌<◌, ◌≤◌, ◌+◌, ◌-◌, ℕ, zero, suc, Bool, true, false, cond, is_some, ◌||◌, List, [], ◌∷◌, ◌++◌, Option, Some, None, length, map, position, drop, refl, sym, ap, ◌∙◌, arith, if◌then◌else◌}
use Rattle.std.specs.List.{count_by, list_any, position_from}
use Rattle.std.specs.Option.{option_map}
use Rattle.std.proofs.lemmas.List.Sums.{sum_by-cons}
use Rattle.std.proofs.lemmas.Iterator.Adapters.{position_from-zero}
use Rattle.field_rules.specs.NumberRanges.{first_from}

option_map-map : {A B C : Type 0} (f : A → B) (g : B → C) (x : Option A) → option_map g (option_map f x) ≡ option_map (λ a. g (f a)) x
option_map-map f g None = refl
option_map-map f g (Some x) = refl

option_map-same : {A : Type 0} (f g : ℕ → A) → ((k : ℕ) → f k ≡ g k) → (x : Option ℕ) → option_map f x ≡ option_map g x
option_map-same f g same None = refl
option_map-same f g same (Some k) = ap Some (same k)

pub option_map-id : (f : ℕ → ℕ) → ((k : ℕ) → f k ≡ k) → (x : Option ℕ) → option_map f x ≡ x
option_map-id f same None = refl
option_map-id f same (Some k) = ap Some (same k)

module _ {X : Type 0} (test : X → Bool) where
  none-if : (b : Bool) (x : Option ℕ) → ◌≡◌ {A = ℕ} (cond b 1 0) 0 → x ≡ None → (if b then Some 0 else option_map suc x) ≡ None
  none-if true x count later = absurd (omega (arith, count))
  none-if false x count later = ap (option_map suc) later

  -- where none passes
  pub first-none : (xs : List X) (from : ℕ) → count_by test xs ≡ 0 → first_from test from xs ≡ None
  first-none [] from none = refl
  first-none (x ∷ xs) zero none =
      let sum = sum_by-cons (λ y. cond (test y) 1 0) x xs in
      none-if (test x) (first_from test 0 xs) (omega (arith, sum, none)) (first-none xs 0 (omega (arith, sum, none)))
  first-none (x ∷ xs) (suc from) none =
      let sum = sum_by-cons (λ y. cond (test y) 1 0) x xs in
      ap (option_map suc) (first-none xs from (omega (arith, sum, none)))

  -- past the end
  pub first-past : (xs : List X) (from : ℕ) → length xs ≤ from → first_from test from xs ≡ None
  first-past [] from le = refl
  first-past (x ∷ xs) zero le = absurd (omega arith)
  first-past (x ∷ xs) (suc from) le = ap (option_map suc) (first-past xs from (omega arith))

  some-pred : (x : Option ℕ) (i : ℕ) → option_map suc x ≡ Some i → (j : ℕ) × (i ≡ suc j) × (x ≡ Some j)
  some-pred None i is = absurd (cc)
  some-pred (Some j) i is = (j, cc, refl)

  none-pred : (x : Option ℕ) → option_map suc x ≡ None → x ≡ None
  none-pred None is = refl
  none-pred (Some j) is = absurd (cc)

  below-if : (b : Bool) (x : Option ℕ) (i n : ℕ) → ((j : ℕ) → x ≡ Some j → j < n) → (if b then Some 0 else option_map suc x) ≡ Some i → i < suc n
  below-if true x i n later is = let zeroth : 0 ≡ i = cc in omega arith
  below-if false x i n later is = let p = some-pred x i is in let less = later p.0 p.2 in omega (arith, less, p.1)

  -- it stands in the list
  pub first-below : (xs : List X) (from i : ℕ) → first_from test from xs ≡ Some i → i < length xs
  first-below [] from i is = absurd (cc)
  first-below (x ∷ xs) zero i is = below-if (test x) (first_from test 0 xs) i (length xs) (first-below xs 0) is
  first-below (x ∷ xs) (suc from) i is = below-if false (first_from test from xs) i (length xs) (first-below xs from) is

  front-if : (b : Bool) (x y : Option ℕ) (i : ℕ) → ((j : ℕ) → x ≡ Some j → y ≡ Some j) → (if b then Some 0 else option_map suc x) ≡ Some i → (if b then Some 0 else option_map suc y) ≡ Some i
  front-if true x y i later is = is
  front-if false x y i later is =
      let p = some-pred x i is in
      ap (option_map suc) (later p.0 p.2) ∙ ap Some (sym p.1)

  -- in two lists, one behind the other: in the first, or else in the second
  pub first-front : (xs ys : List X) (from i : ℕ) → first_from test from xs ≡ Some i → first_from test from (xs ++ ys) ≡ Some i
  first-front [] ys from i is = absurd (cc)
  first-front (x ∷ xs) ys zero i is =
      front-if (test x) (first_from test 0 xs) (first_from test 0 (xs ++ ys)) i (first-front xs ys 0) is
  first-front (x ∷ xs) ys (suc from) i is =
      front-if false (first_from test from xs) (first_from test from (xs ++ ys)) i (first-front xs ys from) is

  back-if : (b : Bool) (x y : Option ℕ) (z : Option ℕ) → (x ≡ None → y ≡ z) → (if b then Some 0 else option_map suc x) ≡ None → (if b then Some 0 else option_map suc y) ≡ option_map suc z
  back-if true x y z later is = absurd (cc)
  back-if false x y z later is = ap (option_map suc) (later (none-pred x is))

  one-more : (n m o : ℕ) (ys : List X) → m ≡ o → option_map suc (option_map (λ k. n + k) (first_from test m ys)) ≡ option_map (λ k. suc n + k) (first_from test o ys)
  one-more n m o ys is =
      option_map-map (λ k. n + k) suc (first_from test m ys)
      ∙ option_map-same (λ k. suc (n + k)) (λ k. suc n + k) (λ k. omega arith) (first_from test m ys)
      ∙ ap (λ l. option_map (λ k. suc n + k) (first_from test l ys)) is

  pub first-back : (xs ys : List X) (from : ℕ) → first_from test from xs ≡ None → first_from test from (xs ++ ys) ≡ option_map (λ k. length xs + k) (first_from test (from - length xs) ys)
  first-back [] ys from is =
      let whole : from ≡ from - 0 = omega arith in
      ap (λ m. first_from test m ys) whole ∙ sym (option_map-id (λ k. 0 + k) (λ k. omega arith) (first_from test (from - 0) ys))
  first-back (x ∷ xs) ys zero is =
      back-if (test x) (first_from test 0 xs) (first_from test 0 (xs ++ ys)) (option_map (λ k. length xs + k) (first_from test (0 - length xs) ys)) (first-back xs ys 0) is
      ∙ one-more (length xs) (0 - length xs) (0 - length (x ∷ xs)) ys (omega arith)
  first-back (x ∷ xs) ys (suc from) is =
      back-if false (first_from test from xs) (first_from test from (xs ++ ys)) (option_map (λ k. length xs + k) (first_from test (from - length xs) ys)) (first-back xs ys from) is
      ∙ one-more (length xs) (from - length xs) (suc from - length (x ∷ xs)) ys (omega arith)

  some-if : (b : Bool) (x : Option ℕ) → is_some (if b then Some 0 else option_map suc x) ≡ (b || is_some x)
  some-if true x = refl
  some-if false None = refl
  some-if false (Some i) = refl

  -- there is one where any passes
  pub first-any : (xs : List X) → is_some (first_from test 0 xs) ≡ list_any test xs
  first-any [] = refl
  first-any (x ∷ xs) = some-if (test x) (first_from test 0 xs) ∙ ap (λ b. test x || b) (first-any xs)

  position-if : (b : Bool) (i : ℕ) (x y : Option ℕ) → x ≡ option_map (λ k. suc i + k) y → cond b (Some i) x ≡ option_map (λ k. i + k) (if b then Some 0 else option_map suc y)
  position-if true i x y is = ap Some (omega arith)
  position-if false i x y is = is ∙ option_map-same (λ k. suc i + k) (λ k. i + suc k) (λ k. omega arith) y ∙ sym (option_map-map suc (λ k. i + k) y)

  pub position-first : (xs : List X) (i : ℕ) → position_from test i xs ≡ option_map (λ k. i + k) (first_from test 0 xs)
  position-first [] i = refl
  position-first (x ∷ xs) i =
      position-if (test x) i (position_from test (i + 1) xs) (first_from test 0 xs)
      (position-first xs (i + 1) ∙ option_map-same (λ k. i + 1 + k) (λ k. suc i + k) (λ k. omega arith) (first_from test 0 xs))

  -- as `position` counts in the rest of the list
  pub first-listed : (xs : List X) (from : ℕ) → first_from test from xs ≡ option_map (λ k. from + k) (position test (drop from xs))
  first-listed [] zero = refl
  first-listed [] (suc from) = refl
  first-listed (x ∷ xs) zero =
      sym (ap (option_map (λ k. 0 + k)) (position_from-zero test (x ∷ xs) ∙ position-first (x ∷ xs) 0)
      ∙ option_map-map (λ k. 0 + k) (λ k. 0 + k) (first_from test 0 (x ∷ xs))
      ∙ option_map-id (λ k. 0 + (0 + k)) (λ k. omega arith) (first_from test 0 (x ∷ xs)))
  first-listed (x ∷ xs) (suc from) =
      ap (option_map suc) (first-listed xs from)
      ∙ option_map-map (λ k. from + k) suc (position test (drop from xs))
      ∙ option_map-same (λ k. suc (from + k)) (λ k. suc from + k) (λ k. omega arith) (position test (drop from xs))

-- in a list of what is read of another
pub first-map : {X Y : Type 0} (read : X → Y) (test : Y → Bool) (xs : List X) (from : ℕ) → first_from test from (map read xs) ≡ first_from (λ x. test (read x)) from xs
first-map read test [] from = refl
first-map read test (x ∷ xs) zero = ap (λ f. if test (read x) then Some 0 else option_map suc f) (first-map read test xs 0)
first-map read test (x ∷ xs) (suc from) = ap (option_map suc) (first-map read test xs from)
