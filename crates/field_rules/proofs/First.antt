-- The first entry of a list that passes a test, by its position.
use Rattle.std.proofs.Common.{◌≡◌, ℕ, suc, ◌+◌, ◌-◌, ◌≤◌, Bool, true, false, cond, List, [], ◌∷◌, get_or, find, None, Some, refl, ap, sym, ◌∙◌, arith}
use Rattle.std.specs.List.{enumerate_from, position_from}

-- a position in a list, whose positions begin with n, at which the first entry stands that passes
pub record FirstFrom {X : Type 0} (p : X → Bool) (n : ℕ) (xs : List X) (i : ℕ) : Type 0 where
  pub from : n ≤ i
  pub entry : (x : X) → x ≡ get_or xs (i - n) x → find (λ e. p e.1) (enumerate_from n xs) ≡ Some (i, x)

module _ {X : Type 0} (p : X → Bool) where
  first-test : (b : Bool) (n : ℕ) (y : X) (ys : List X) (i : ℕ) → (position_from p (n + 1) ys ≡ Some i → FirstFrom p (n + 1) ys i)
      → p y ≡ b → cond b (Some n) (position_from p (n + 1) ys) ≡ Some i → FirstFrom p n (y ∷ ys) i
  first-test true n y ys i later passes found =
      let is : n ≡ i = cc in
      let here : i - n ≡ 0 = omega (arith, is) in
      record {
        from = omega (arith, is);
        entry = λ x there. ap (λ b. cond b (Some (n, y)) (find (λ e. p e.1) (enumerate_from (n + 1) ys))) passes
            ∙ (λ j. Some (is j, sym (there ∙ ap (λ k. get_or (y ∷ ys) k x) here) j));
      }
  first-test false n y ys i later passes found =
      let rest = later found in
      let there : i - n ≡ suc (i - (n + 1)) = omega (arith, rest.from) in
      record {
        from = omega (arith, rest.from);
        entry = λ x is. ap (λ b. cond b (Some (n, y)) (find (λ e. p e.1) (enumerate_from (n + 1) ys))) passes
            ∙ rest.entry x (is ∙ ap (λ k. get_or (y ∷ ys) k x) there);
      }

  pub first-from : (n : ℕ) (xs : List X) (i : ℕ) → position_from p n xs ≡ Some i → FirstFrom p n xs i
  first-from n [] i found = absurd (cc)
  first-from n (y ∷ ys) i found = first-test (p y) n y ys i (first-from (n + 1) ys i) refl found

  none-test : (b : Bool) (n : ℕ) (y : X) (ys : List X) → (position_from p (n + 1) ys ≡ None → find (λ e. p e.1) (enumerate_from (n + 1) ys) ≡ None)
      → cond b (Some n) (position_from p (n + 1) ys) ≡ None → cond b (Some (n, y)) (find (λ e. p e.1) (enumerate_from (n + 1) ys)) ≡ None
  none-test true n y ys later none = absurd (cc)
  none-test false n y ys later none = later none

  -- where none passes, none is found
  pub none-from : (n : ℕ) (xs : List X) → position_from p n xs ≡ None → find (λ e. p e.1) (enumerate_from n xs) ≡ None
  none-from n [] none = refl
  none-from n (y ∷ ys) none = none-test (p y) n y ys (none-from (n + 1) ys) none
