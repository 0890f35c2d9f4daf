-- A list of which one after another becomes something else.
use Rattle.std.proofs.Common.{◌≡◌, ℕ, zero, suc, ◌+◌, ◌<◌, ◌≤◌, List, [], ◌∷◌, length, get_or, set, refl, ap, ◌∙◌, subst, arith, add-one, Result, Ok, Err, OnErr}
use Rattle.std.specs.List.{AllByRecursion, AllZip}
use Rattle.record_walk.specs.Visitor.{StopsAt}

-- the first n became what R says, and the others are as they were
abbrev pub FirstBecame : {X : Type 0} → (X → X → Type 0) → ℕ → List X → List X → Type 0
FirstBecame R zero xs ys = ys ≡ xs
FirstBecame R (suc n) (x ∷ xs) (y ∷ ys) = R x y × FirstBecame R n xs ys
FirstBecame R (suc n) [] ys = ⊥
FirstBecame R (suc n) (x ∷ xs) [] = ⊥

module _ {X : Type 0} (R : X → X → Type 0) where
  one-more : (n : ℕ) (xs ys : List X) (b c : X) → FirstBecame R n xs ys → n < length ys → b ≡ get_or ys n b → R b c → FirstBecame R (suc n) xs (set ys n c)
  one-more zero xs [] b c same within is r = absurd (omega arith)
  one-more zero [] (y ∷ ys) b c same within is r = cc
  one-more zero (x ∷ xs) (y ∷ ys) b c same within is r = let e : b ≡ x = cc in (subst (λ z. R z c) e r, cc)
  one-more (suc n) [] ys b c done within is r = absurd done
  one-more (suc n) (x ∷ xs) [] b c done within is r = absurd done
  one-more (suc n) (x ∷ xs) (y ∷ ys) b c done within is r = (done.0, one-more n xs ys b c done.1 (omega arith) is r)

  pub became-more : (n : ℕ) (xs ys : List X) (b c : X) → FirstBecame R n xs ys → n < length ys → b ≡ get_or ys n b → R b c → FirstBecame R (n + 1) xs (set ys n c)
  became-more n xs ys b c done within is r = rw add-one (one-more n xs ys b c done within is r)

  pub became-all : (n : ℕ) (xs ys : List X) → FirstBecame R n xs ys → length ys ≤ n → AllZip R xs ys
  became-all zero [] [] same all = tt
  became-all zero [] (y ∷ ys) same all = absurd (omega arith)
  became-all zero (x ∷ xs) [] same all = cc
  became-all zero (x ∷ xs) (y ∷ ys) same all = absurd (omega arith)
  became-all (suc n) [] ys done all = absurd done
  became-all (suc n) (x ∷ xs) [] done all = absurd done
  became-all (suc n) (x ∷ xs) (y ∷ ys) done all = (done.0, became-all n xs ys done.1 (omega arith))

  pub stops-here : (n : ℕ) (xs ys : List X) (c : X) → FirstBecame R n xs ys → n < length ys → StopsAt R n xs (set ys n c)
  stops-here zero xs [] c same within = absurd (omega arith)
  stops-here zero [] (y ∷ ys) c same within = cc
  stops-here zero (x ∷ xs) (y ∷ ys) c same within = cc
  stops-here (suc n) [] ys c done within = absurd done
  stops-here (suc n) (x ∷ xs) [] c done within = absurd done
  stops-here (suc n) (x ∷ xs) (y ∷ ys) c done within = (done.0, stops-here n xs ys c done.1 (omega arith))

  -- what holds of each of the first list holds of the one at the position
  pub holds-here : (P : X → Type 0) (n : ℕ) (xs ys : List X) (b : X) → FirstBecame R n xs ys → n < length ys → b ≡ get_or ys n b → AllByRecursion P xs → P b
  holds-here P zero xs [] b same within is all = absurd (omega arith)
  holds-here P zero [] (y ∷ ys) b same within is all = cc
  holds-here P zero (x ∷ xs) (y ∷ ys) b same within is all = let e : x ≡ b = cc in subst P e all.0
  holds-here P (suc n) [] ys b done within is all = absurd done
  holds-here P (suc n) (x ∷ xs) [] b done within is all = absurd done
  holds-here P (suc n) (x ∷ xs) (y ∷ ys) b done within is all = holds-here P n xs ys b done.1 (omega arith) is all.1

module _ {X Y : Type 0} (f : X → Y) where
  pub same-all : (xs : List X) → AllZip (λ b c. f c ≡ f b) xs xs
  same-all [] = tt
  same-all (x ∷ xs) = (refl, same-all xs)

  pub same-more : (n : ℕ) (xs ys : List X) (b c : X) → AllZip (λ b c. f c ≡ f b) xs ys → n < length ys → b ≡ get_or ys n b → f c ≡ f b → AllZip (λ b c. f c ≡ f b) xs (set ys n c)
  same-more n [] [] b c same within is e = absurd (omega arith)
  same-more n [] (y ∷ ys) b c same within is e = absurd same
  same-more n (x ∷ xs) [] b c same within is e = absurd same
  same-more zero (x ∷ xs) (y ∷ ys) b c same within is e = (e ∙ ap f is ∙ same.0, same.1)
  same-more (suc n) (x ∷ xs) (y ∷ ys) b c same within is e = (same.0, same-more n xs ys b c same.1 (omega arith) is e)

-- what holds anyhow holds at an error
pub on-err : {A E P : Type 0} (r : Result A E) → P → OnErr r P
on-err (Ok x) p = tt
on-err (Err e) p = p
