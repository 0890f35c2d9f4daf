-- The entries of a list that were looked at, one more at a time, or all.
use Rattle.std.proofs.Common.{◌≡◌, ℕ, ◌+◌, ◌<◌, Bool, ◌||◌, refl, List, [], ◌∷◌, ◌++◌, length, map, take, get_or, ap, sym, ◌∙◌, append-nil, append_assoc}
use Rattle.std.proofs.lemmas.Grind.{flat_map-append}
use Rattle.std.proofs.lemmas.List.{map-append, take_more}
use Rattle.std.specs.List.{enumerate_from, flat_map, list_any}
use Rattle.plain_data.proofs.Enumerated.{entries-next}

-- what the entries up to a position give, and what the one there gives
pub looked-next : {X Y : Type 0} (f : (ℕ × X) → List Y) (start labels : List Y) (xs : List X) (i : ℕ) (x : X) → i < length xs → x ≡ get_or xs i x
    → labels ≡ start ++ flat_map f (enumerate_from 0 (take i xs)) → labels ++ f (i, x) ≡ start ++ flat_map f (enumerate_from 0 (take (i + 1) xs))
looked-next f start labels xs i x below is so_far =
    ap (λ ys. ys ++ f (i, x)) so_far ∙ append_assoc start (flat_map f (enumerate_from 0 (take i xs))) (f (i, x))
    ∙ ap (λ ys. start ++ (flat_map f (enumerate_from 0 (take i xs)) ++ ys)) (sym (append-nil (f (i, x))))
    ∙ ap (λ ys. start ++ ys) (sym (flat_map-append f (enumerate_from 0 (take i xs)) ((i, x) ∷ [])) ∙ ap (flat_map f) (sym (entries-next xs i x below is)))

-- what is made of each up to a position, and of the one there
pub mapped-next : {X Y : Type 0} (f : X → Y) (start made : List Y) (xs : List X) (i : ℕ) (x : X) (y : Y) → i < length xs → x ≡ get_or xs i x → y ≡ f x
    → made ≡ start ++ map f (take i xs) → made ++ y ∷ [] ≡ start ++ map f (take (i + 1) xs)
mapped-next f start made xs i x y below is own so_far =
    (λ j. so_far j ++ own j ∷ []) ∙ append_assoc start (map f (take i xs)) (f x ∷ [])
    ∙ ap (λ ys. start ++ ys) (sym (map-append f (take i xs) (x ∷ [])) ∙ ap (map f) (sym (take_more xs i x below ∙ ap (λ y. take i xs ++ y ∷ []) (sym is))))

-- whether one of what is made of a list passes a test
pub any_mapped : {X Y : Type 0} (p : Y → Bool) (f : X → Y) (xs : List X) → list_any (λ x. p (f x)) xs ≡ list_any p (map f xs)
any_mapped p f [] = refl
any_mapped p f (x ∷ xs) = ap (λ b. p (f x) || b) (any_mapped p f xs)
