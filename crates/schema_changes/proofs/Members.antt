-- The first value that a function gives, one element further on.
use Rattle.std.proofs.Common.{◌≡◌, ℕ, zero, suc, ◌+◌, ◌<◌, List, [], ◌∷◌, Option, Some, None, Bool, true, false, is_some, length, take, slice_index_or, refl, ap, sym, ◌∙◌, arith}
use Rattle.std.proofs.lemmas.Bool.{false≢true}
use Rattle.std.specs.Option.{option_or}
use Rattle.schema_changes.specs.Changes.{first_some}

module _ {X Y : Type 0} (f : X → Option Y) where
  none-first : (x : X) (xs : List X) (o : Option Y) → f x ≡ o → option_or o (first_some f xs) ≡ None → (f x ≡ None) × (first_some f xs ≡ None)
  none-first x xs None e h = (e, h)
  none-first x xs (Some y) e h = absurd cc

  pub first-none-more : (xs : List X) (i : ℕ) (d : X) → i < length xs → first_some f (take i xs) ≡ None → f (slice_index_or xs i d) ≡ None → first_some f (take (suc i) xs) ≡ None
  first-none-more [] i d lt none here = absurd (omega arith)
  first-none-more (x ∷ xs) zero d lt none here = ap (λ o. option_or o None) here
  first-none-more (x ∷ xs) (suc i) d lt none here =
      let both = none-first x (take i xs) (f x) refl none in
      ap (λ o. option_or o (first_some f (take (suc i) xs))) both.0 ∙ first-none-more xs i d (omega arith) both.1 here

  some-first : (o r : Option Y) → is_some o ≡ true → option_or o r ≡ o
  some-first (Some y) r h = refl
  some-first None r h = absurd (false≢true h)

  pub first-here : (xs : List X) (i : ℕ) (d : X) → i < length xs → first_some f (take i xs) ≡ None → is_some (f (slice_index_or xs i d)) ≡ true → first_some f xs ≡ f (slice_index_or xs i d)
  first-here [] i d lt none here = absurd (omega arith)
  first-here (x ∷ xs) zero d lt none here = some-first (f x) (first_some f xs) here
  first-here (x ∷ xs) (suc i) d lt none here =
      let both = none-first x (take i xs) (f x) refl none in
      ap (λ o. option_or o (first_some f xs)) both.0 ∙ first-here xs i d (omega arith) both.1 here

  none-of : (o : Option Y) → is_some o ≡ false → o ≡ None
  none-of None h = refl
  none-of (Some y) h = absurd (false≢true (sym h))

  -- the one at an index is the first
  pub is-first : (xs : List X) (i : ℕ) (d : X) (o : Option Y) (b : Bool) → o ≡ f (slice_index_or xs i d) → b ≡ is_some o → b ≡ true → i < length xs → first_some f (take i xs) ≡ None → o ≡ first_some f xs
  is-first xs i d o b is test there lt none = is ∙ sym (first-here xs i d lt none (ap is_some (sym is) ∙ sym test ∙ there))

  -- and if it is none, there is none up to the next one
  pub no-first : (xs : List X) (i : ℕ) (d : X) (o : Option Y) (b : Bool) → o ≡ f (slice_index_or xs i d) → b ≡ is_some o → b ≡ false → i < length xs → first_some f (take i xs) ≡ None → first_some f (take (i + 1) xs) ≡ None
  no-first xs i d o b is test missing lt none =
      let next : suc i ≡ i + 1 = omega arith in
      ap (λ k. first_some f (take k xs)) (sym next) ∙ first-none-more xs i d lt none (sym is ∙ none-of o (sym test ∙ missing))
