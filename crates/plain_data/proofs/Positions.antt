-- The first entry of a list that passes a test, and its position.
use Rattle.std.proofs.Common.{◌≡◌, ◌+◌, ◌<◌, ℕ, suc, Bool, true, false, cond, Option, Some, None, List, [], ◌∷◌, ◌++◌, length, refl, ap, subst, sym, ◌∙◌, arith}
use Rattle.std.specs.List.{find, position_from}
use Rattle.std.specs.Option.{IfSome, option_and_then, option_map, option_or}
use Rattle.std.specs.Prelude.{slice_get}

module _ {X : Type 0} (p : X → Bool) where
  -- positions that count from a later one
  position-suc : (i : ℕ) (xs : List X) → position_from p (suc i) xs ≡ option_map suc (position_from p i xs)
  position-suc i [] = refl
  position-suc i (x ∷ xs) =
      let there : suc i + 1 ≡ suc (i + 1) = omega arith in
      elim (p x) as (λ b. cond b (Some (suc i)) (position_from p (suc i + 1) xs) ≡ option_map suc (cond b (Some i) (position_from p (i + 1) xs)))
      [ true ↦ refl | false ↦ ap (λ n. position_from p n xs) there ∙ position-suc (i + 1) xs ]

  later-entry : (x : X) (xs : List X) (r : Option ℕ) → option_and_then (slice_get xs) r ≡ option_and_then (slice_get (x ∷ xs)) (option_map suc r)
  later-entry x xs None = refl
  later-entry x xs (Some k) = refl

  -- the first of a list stands at its position
  pub find-position : (xs : List X) → find p xs ≡ option_and_then (slice_get xs) (position_from p 0 xs)
  find-position [] = refl
  find-position (x ∷ xs) =
      let rest = find-position xs ∙ later-entry x xs (position_from p 0 xs) ∙ ap (option_and_then (slice_get (x ∷ xs))) (sym (position-suc 0 xs)) in
      elim (p x) as (λ b. cond b (Some x) (find p xs) ≡ option_and_then (slice_get (x ∷ xs)) (cond b (Some 0) (position_from p 1 xs)))
      [ true ↦ refl | false ↦ rest ]

  -- in a list behind another
  pub position-append : (i : ℕ) (xs ys : List X) → position_from p i (xs ++ ys) ≡ option_or (position_from p i xs) (position_from p (i + length xs) ys)
  position-append i [] ys = let here : i ≡ i + 0 = omega arith in ap (λ n. position_from p n ys) here
  position-append i (x ∷ xs) ys =
      let there : i + 1 + length xs ≡ i + suc (length xs) = omega arith in
      let rest = position-append (i + 1) xs ys ∙ ap (λ n. option_or (position_from p (i + 1) xs) (position_from p n ys)) there in
      elim (p x) as (λ b. cond b (Some i) (position_from p (i + 1) (xs ++ ys))
      ≡ option_or (cond b (Some i) (position_from p (i + 1) xs)) (position_from p (i + suc (length xs)) ys))
      [ true ↦ refl | false ↦ rest ]

  -- it is one of the list
  pub position-below : (i : ℕ) (xs : List X) → IfSome (position_from p i xs) (λ k. k < i + length xs)
  position-below i [] = tt
  position-below i (x ∷ xs) =
      let there : i + 1 + length xs ≡ i + suc (length xs) = omega arith in
      let rest = subst (λ n. IfSome (position_from p (i + 1) xs) (λ k. k < n)) there (position-below (i + 1) xs) in
      elim (p x) as (λ b. IfSome (cond b (Some i) (position_from p (i + 1) xs)) (λ k. k < i + suc (length xs)))
      [ true ↦ omega arith | false ↦ rest ]
