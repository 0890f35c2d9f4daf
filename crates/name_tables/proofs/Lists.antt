-- Elements of lists by their positions.
use Rattle.std.proofs.Common.{◌≡◌, ◌≢◌, ◌<◌, ◌⊎◌, ℕ, zero, suc, List, [], ◌∷◌, ◌++◌, length, slice_set, Some, refl, ap, inl, inr, ⊎_elim, arith}
use Rattle.std.specs.List.{slice_get}
use Rattle.std.proofs.lemmas.Option.{none-some, same_Some}

module _ {X : Type 0} where
  -- there is an element at each position
  pub some_at : (xs : List X) (k : ℕ) → k < length xs → (x : X) × (slice_get xs k ≡ Some x)
  some_at [] k inside = absurd (omega arith)
  some_at (x ∷ xs) zero inside = (x, refl)
  some_at (x ∷ xs) (suc k) inside = some_at xs k (omega arith)

  -- an element of a list is one of a longer list
  pub got-front : (xs ys : List X) (k : ℕ) (x : X) → slice_get xs k ≡ Some x → slice_get (xs ++ ys) k ≡ Some x
  got-front [] ys k x is = absurd (none-some x is)
  got-front (y ∷ xs) ys zero x is = is
  got-front (y ∷ xs) ys (suc k) x is = got-front xs ys k x is

  -- an element of a list with one more was there, or is that one
  pub got-pushed : (xs : List X) (y : X) (k : ℕ) (x : X) → slice_get (xs ++ y ∷ []) k ≡ Some x → (slice_get xs k ≡ Some x) ⊎ ((k ≡ length xs) × (y ≡ x))
  got-pushed [] y zero x is = inr (refl, same_Some y x is)
  got-pushed [] y (suc k) x is = absurd (none-some x is)
  got-pushed (z ∷ xs) y zero x is = inl is
  got-pushed (z ∷ xs) y (suc k) x is = ⊎_elim inl (λ last. inr (ap suc last.0, last.1)) (got-pushed xs y k x is)

  -- the elements before one that is behind all
  pub get-before : (xs : List X) (x : X) (k : ℕ) → k < length xs → slice_get (xs ++ x ∷ []) k ≡ slice_get xs k
  get-before [] x k inside = absurd (omega arith)
  get-before (y ∷ xs) x zero inside = refl
  get-before (y ∷ xs) x (suc k) inside = get-before xs x k (omega arith)

  -- and that one
  pub get-last : (xs : List X) (x : X) → slice_get (xs ++ x ∷ []) (length xs) ≡ Some x
  get-last [] x = refl
  get-last (y ∷ xs) x = get-last xs x

  -- an element that was set
  pub get-set_same : (xs : List X) (k : ℕ) (x : X) → k < length xs → slice_get (slice_set xs k x) k ≡ Some x
  get-set_same [] k x below = absurd (omega arith)
  get-set_same (y ∷ ys) zero x below = refl
  get-set_same (y ∷ ys) (suc k) x below = get-set_same ys k x (omega arith)

  -- and any other
  pub get-set_other : (xs : List X) (k j : ℕ) (x : X) → j ≢ k → slice_get (slice_set xs k x) j ≡ slice_get xs j
  get-set_other [] k j x other = refl
  get-set_other (y ∷ ys) zero zero x other = absurd (other refl)
  get-set_other (y ∷ ys) zero (suc j) x other = refl
  get-set_other (y ∷ ys) (suc k) zero x other = refl
  get-set_other (y ∷ ys) (suc k) (suc j) x other = get-set_other ys k j x (λ same. other (ap suc same))
