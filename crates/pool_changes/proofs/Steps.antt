-- What is told of the elements of a list, one more at a time.
use Rattle.std.proofs.Common.{◌≡◌, ℕ, ◌+◌, ◌<◌, List, [], ◌∷◌, ◌++◌, length, take, get_or, ap, sym, subst, ◌∙◌, append_assoc, append-nil}
use Rattle.std.proofs.lemmas.Grind.{flat_map-append}
use Rattle.std.proofs.lemmas.List.{take_more}
use Rattle.std.specs.List.{flat_map}

next-of : {X Y : Type 0} (f : X → List Y) (xs : List X) (i : ℕ) (d x : X) → i < length xs → x ≡ get_or xs i d → flat_map f (take (i + 1) xs) ≡ flat_map f (take i xs) ++ f x
next-of f xs i d x below is =
    ap (flat_map f) (take_more xs i d below ∙ ap (λ y. take i xs ++ y ∷ []) (sym is))
    ∙ flat_map-append f (take i xs) (x ∷ [])
    ∙ ap (λ ys. flat_map f (take i xs) ++ ys) (append-nil (f x))

-- of a list that is equal to the one that is gone through
pub told-next : {X Y : Type 0} (f : X → List Y) (zs xs : List X) (i : ℕ) (d x : X) (first before after : List Y) → zs ≡ xs → i < length zs → x ≡ get_or zs i d
    → before ≡ first ++ flat_map f (take i xs) → after ≡ before ++ f x → after ≡ first ++ flat_map f (take (i + 1) xs)
told-next f zs xs i d x first before after same below is h h' =
    let next : flat_map f (take (i + 1) xs) ≡ flat_map f (take i xs) ++ f x =
    subst (λ ys. flat_map f (take (i + 1) ys) ≡ flat_map f (take i ys) ++ f x) same (next-of f zs i d x below is) in
    h' ∙ ap (λ s. s ++ f x) h ∙ append_assoc first (flat_map f (take i xs)) (f x) ∙ ap (λ s. first ++ s) (sym next)
