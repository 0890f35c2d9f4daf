-- The first position of each of some keys, with one key more.
use Rattle.std.proofs.Common.{◌≡◌, ◌+◌, ◌<◌, ℕ, Bool, true, false, cond, Option, None, Some, List, [], ◌∷◌, ◌++◌, length, take, get_or, refl, ap, sym, subst, ◌∙◌, arith}
use Rattle.std.proofs.lemmas.Iterator.Adapters.{position_from-zero}
use Rattle.std.proofs.lemmas.List.{length-take-le, take_more}
use Rattle.std.specs.List.{position}
use Rattle.std.specs.Option.{option_or}
use Rattle.plain_data.proofs.Positions.{position-append}

position-push : {X : Type 0} (p : X → Bool) (xs : List X) (x : X) → position p (xs ++ x ∷ []) ≡ option_or (position p xs) (cond (p x) (Some (length xs)) None)
position-push p xs x =
    let last : 0 + length xs ≡ length xs = omega arith in
    position_from-zero p (xs ++ x ∷ []) ∙ position-append p 0 xs (x ∷ [])
    ∙ (λ j. option_or (sym (position_from-zero p xs) j) (cond (p x) (Some (last j)) None))

or-none : (o : Option ℕ) → o ≡ option_or o None
or-none None = refl
or-none (Some k) = refl

or-some : (o other : Option ℕ) (k : ℕ) → o ≡ Some k → o ≡ option_or o other
or-some (Some n) other k is = refl
or-some None other k is = absurd (let e = is in cc)

module _ {K : Type 0} (eq : K → K → Bool) (same : (x y : K) → eq x y ≡ true → x ≡ y) (flips : (x y : K) → eq x y ≡ eq y x)
    (keys : List K) (key : K) (table : K → Option ℕ) (has : (x : K) → table x ≡ position (eq x) keys) where
  -- a key that is there already
  pub firsts-kept : (k : ℕ) → table key ≡ Some k → (x : K) → table x ≡ position (eq x) (keys ++ key ∷ [])
  firsts-kept k there x = has x ∙ go (eq x key) refl ∙ sym (position-push (eq x) keys key)
    where
      go : (b : Bool) → eq x key ≡ b → position (eq x) keys ≡ option_or (position (eq x) keys) (cond b (Some (length keys)) None)
      go true is = or-some (position (eq x) keys) (Some (length keys)) k (sym (has x) ∙ ap table (same x key is) ∙ there)
      go false is = or-none (position (eq x) keys)

  -- a key that is new, and is given the next position
  pub firsts-put : (n : ℕ) (new : K → Option ℕ) → table key ≡ None → length keys ≡ n → ((x : K) → new x ≡ cond (eq key x) (Some n) (table x))
      → (x : K) → new x ≡ position (eq x) (keys ++ key ∷ [])
  firsts-put n new absent many after x =
      after x ∙ ap (λ b. cond b (Some n) (table x)) (flips key x) ∙ go (eq x key) refl ∙ sym (position-push (eq x) keys key)
    where
      go : (b : Bool) → eq x key ≡ b → cond b (Some n) (table x) ≡ option_or (position (eq x) keys) (cond b (Some (length keys)) None)
      go true is =
          let none : position (eq x) keys ≡ None = sym (has x) ∙ ap table (same x key is) ∙ absent in
          ap Some (sym many) ∙ ap (λ o. option_or o (Some (length keys))) (sym none)
      go false is = has x ∙ or-none (position (eq x) keys)

-- how many entries are taken so far, and the next one with them
taken-more : {X : Type 0} (xs : List X) (i : ℕ) (x : X) → i < length xs → x ≡ get_or xs i x
    → (length (take i xs) ≡ i) × (take (i + 1) xs ≡ take i xs ++ x ∷ [])
taken-more xs i x below is =
    (omega (arith, length-take-le i xs (omega (arith, below))), take_more xs i x below ∙ ap (λ y. take i xs ++ y ∷ []) (sym is))

-- what a table has after the next of some keys, where it had the same of those before
pub entered-next : {X : Type 0} (Before After : List X → Type 0) (xs : List X) (i : ℕ) (x key : X) → i < length xs → x ≡ get_or xs i x → key ≡ x
    → ((ys : List X) → Before ys → length ys ≡ i → After (ys ++ key ∷ [])) → Before (take i xs) → After (take (i + 1) xs)
entered-next Before After xs i x key below is same enters before =
    let more = taken-more xs i x below is in
    subst After (sym more.1) (subst (λ y. After (take i xs ++ y ∷ [])) same (enters (take i xs) before more.0))
