-- The innermost open record is the last of the list.
use Rattle.std.proofs.Common.{◌≡◌, ℕ, zero, suc, ◌-◌, ◌<◌, List, [], ◌∷◌, ◌++◌, length, slice_index_or, slice_set, reverse, refl, ap, sym, ◌∙◌, arith}
use Rattle.std.proofs.lemmas.List.{reverse-append}

-- a list whose last is x, and what a write of y there makes of it
record IsLast {X : Type 0} (xs : List X) (n : ℕ) (x y : X) : Type 0 where
  front : List X
  before : xs ≡ front ++ x ∷ []
  after : slice_set xs n y ≡ front ++ y ∷ []

further : {X : Type 0} {xs : List X} {n : ℕ} {x y : X} (a : X) → IsLast xs n x y → IsLast (a ∷ xs) (suc n) x y
further a e = record {
  front = a ∷ e.front;
  before = ap (λ zs. a ∷ zs) e.before;
  after = ap (λ zs. a ∷ zs) e.after;
}

last_of : {X : Type 0} (xs : List X) (n : ℕ) (x y : X) → length xs ≡ suc n → x ≡ slice_index_or xs n x → IsLast xs n x y
last_of [] n x y h e = absurd (omega arith)
last_of (a ∷ []) zero x y h e = record { front = []; before = ap (λ z. z ∷ []) (sym e); after = refl }
last_of (a ∷ []) (suc n) x y h e = absurd (omega arith)
last_of (a ∷ b ∷ bs) zero x y h e = absurd (omega arith)
last_of (a ∷ b ∷ bs) (suc n) x y h e = further a (last_of (b ∷ bs) n x y (omega arith) e)

pub reverse-last : {X : Type 0} (front : List X) (x : X) → reverse (front ++ x ∷ []) ≡ x ∷ reverse front
reverse-last front x = reverse-append front (x ∷ [])

-- x is the innermost of the records, and y stands there after a write
pub record IsInnermost {X : Type 0} (xs : List X) (n : ℕ) (x y : X) : Type 0 where
  pub rest : List X
  pub before : reverse xs ≡ x ∷ rest
  pub after : reverse (slice_set xs n y) ≡ y ∷ rest

pub innermost_of : {X : Type 0} (xs : List X) (len : ℕ) (x y : X) → len ≡ length xs → 0 < len → x ≡ slice_index_or xs (len - 1) x → IsInnermost xs (len - 1) x y
innermost_of xs len x y e h value =
    let l = last_of xs (len - 1) x y (omega arith) value in
    record {
      rest = reverse l.front;
      before = ap reverse l.before ∙ reverse-last l.front x;
      after = ap reverse l.after ∙ reverse-last l.front y;
    }
