-- Faults and where they stand, one more at a time.
use Rattle.std.proofs.Common.{◌≡◌, ℕ, zero, suc, ◌+◌, ◌<◌, Bool, true, false, ◌||◌, List, [], ◌∷◌, ◌++◌, length, take, drop, get_or, refl, ap, sym, ◌∙◌, arith, append-nil, append_assoc}
use Rattle.std.proofs.Math.Seq.{drop-nil}
use Rattle.std.proofs.lemmas.List.{length-append, take_more}
use Rattle.std.proofs.lemmas.List.Elements.{filter-append}
use Rattle.std.specs.List.{filter, list_any}
use Rattle.plain_data.specs.Lists.{after_each}
use Rattle.verdict_texts.specs.Places.{one_if}

after-append : {X Y : Type 0} (f : List X → X → List Y) (before xs : List X) (x : X) → after_each f before (xs ++ x ∷ []) ≡ after_each f before xs ++ f (before ++ xs) x
after-append f before [] x = append-nil (f before x) ∙ ap (λ ys. f ys x) (sym (append-nil before))
after-append f before (y ∷ ys) x =
    ap (λ zs. f before y ++ zs) (after-append f (before ++ y ∷ []) ys x ∙ ap (λ zs. after_each f (before ++ y ∷ []) ys ++ f zs x) (append_assoc before (y ∷ []) ys))
    ∙ sym (append_assoc (f before y) (after_each f (before ++ y ∷ []) ys) (f (before ++ y ∷ ys) x))

-- what the elements up to a position give, each by those before it, and the one there
pub after-next : {X Y : Type 0} (f : List X → X → List Y) (xs : List X) (i : ℕ) (x : X) → i < length xs → x ≡ get_or xs i x
    → after_each f [] (take (i + 1) xs) ≡ after_each f [] (take i xs) ++ f (take i xs) x
after-next f xs i x below is =
    ap (after_each f []) (take_more xs i x below ∙ ap (λ y. take i xs ++ y ∷ []) (sym is)) ∙ after-append f [] (take i xs) x

drop-both : {Y : Type 0} (n k : ℕ) (ys : List Y) → drop k (drop n ys) ≡ drop (n + k) ys
drop-both zero k ys = let here : k ≡ 0 + k = omega arith in ap (λ m. drop m ys) here
drop-both (suc n) k [] = drop-nil k ∙ sym (drop-nil (suc n + k))
drop-both (suc n) k (y ∷ ys) = let there : suc (n + k) ≡ suc n + k = omega arith in drop-both n k ys ∙ ap (λ m. drop m (y ∷ ys)) there

one-more : {X : Type 0} (kind : X → Bool) (xs : List X) (x : X) → length (filter kind (xs ++ x ∷ [])) ≡ length (filter kind xs) + one_if (kind x)
one-more kind xs x = ap length (filter-append kind xs (x ∷ [])) ∙ length-append (filter kind xs) (filter kind (x ∷ [])) ∙ ap (λ n. length (filter kind xs) + n) (alone (kind x) refl)
  where
    alone : (b : Bool) → kind x ≡ b → length (filter kind (x ∷ [])) ≡ one_if (kind x)
    alone true is = rw is refl
    alone false is = rw is refl

-- what is left behind the elements of a kind up to a position, and behind the one there
pub left-next : {X Y : Type 0} (kind : X → Bool) (ys : List Y) (xs : List X) (i : ℕ) (x : X) → i < length xs → x ≡ get_or xs i x
    → drop (one_if (kind x)) (drop (length (filter kind (take i xs))) ys) ≡ drop (length (filter kind (take (i + 1) xs))) ys
left-next kind ys xs i x below is =
    drop-both (length (filter kind (take i xs))) (one_if (kind x)) ys
    ∙ ap (λ n. drop n ys) (sym (one-more kind (take i xs) x) ∙ ap (λ zs. length (filter kind zs)) (sym (take_more xs i x below ∙ ap (λ y. take i xs ++ y ∷ []) (sym is))))

-- one of a list passes a test
pub any-at : {X : Type 0} (p : X → Bool) (xs : List X) (i : ℕ) (x : X) → i < length xs → x ≡ get_or xs i x → p x ≡ true → list_any p xs ≡ true
any-at p [] i x below is passes = absurd (omega arith)
any-at p (y ∷ ys) zero x below is passes = ap (λ b. b || list_any p ys) (ap p (sym is) ∙ passes)
any-at p (y ∷ ys) (suc i) x below is passes =
    elim (p y) as (λ b. (b || list_any p ys) ≡ true) [ true ↦ refl | false ↦ any-at p ys i x (omega arith) is passes ]
