-- The entries of a list with their positions, one more at a time.
use Rattle.std.proofs.Common.{◌≡◌, ◌+◌, ◌<◌, ℕ, suc, List, [], ◌∷◌, ◌++◌, length, take, get_or, ap, sym, ◌∙◌, arith}
use Rattle.std.proofs.lemmas.List.{length-take-le, take_more}
use Rattle.std.specs.List.{enumerate_from}

enumerate-append : {X : Type 0} (n : ℕ) (xs : List X) (x : X) → enumerate_from n (xs ++ x ∷ []) ≡ enumerate_from n xs ++ (n + length xs, x) ∷ []
enumerate-append n [] x = let here : n ≡ n + 0 = omega arith in ap (λ k. (k, x) ∷ []) here
enumerate-append n (y ∷ ys) x =
    let there : n + 1 + length ys ≡ n + suc (length ys) = omega arith in
    ap (λ zs. (n, y) ∷ zs) (enumerate-append (n + 1) ys x ∙ ap (λ k. enumerate_from (n + 1) ys ++ (k, x) ∷ []) there)

-- the entries up to a position, and the one there
pub entries-next : {X : Type 0} (xs : List X) (i : ℕ) (x : X) → i < length xs → x ≡ get_or xs i x
    → enumerate_from 0 (take (i + 1) xs) ≡ enumerate_from 0 (take i xs) ++ (i, x) ∷ []
entries-next xs i x below is =
    let so_far : 0 + length (take i xs) ≡ i = omega (arith, length-take-le i xs (omega arith)) in
    ap (enumerate_from 0) (take_more xs i x below) ∙ enumerate-append 0 (take i xs) (get_or xs i x)
    ∙ (λ j. enumerate_from 0 (take i xs) ++ (so_far j, sym is j) ∷ [])
