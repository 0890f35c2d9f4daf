-- What the entries of a list become, one more at a time.
use Rattle.std.proofs.Common.{◌≡◌, ℕ, zero, suc, ◌+◌, ◌<◌, ◌≤◌, ◌^◌, true, List, [], ◌∷◌, ◌++◌, length, map, take, get_or, refl, ap, sym, ◌∙◌, arith, add-one, append-nil}
use Rattle.std.proofs.Math.Seq.{take-suc}
use Rattle.std.proofs.lemmas.Bool.Decides.{nat_tests}
use Rattle.std.proofs.lemmas.Grind.{flat_map-append}
use Rattle.std.proofs.lemmas.List.{map-append}
use Rattle.std.specs.List.{flat_map}
use Rattle.record_walk.specs.Counts.{fits_list}
use Rattle.plain_data.specs.Each.{map_enumerated}

each-append : {X Y : Type 0} (make : ℕ → X → Y) (position : ℕ) (xs : List X) (x : X)
    → map_enumerated make position (xs ++ x ∷ []) ≡ map_enumerated make position xs ++ make (position + length xs) x ∷ []
each-append make position [] x = let here : position ≡ position + 0 = omega arith in ap (λ n. make n x ∷ []) here
each-append make position (y ∷ ys) x =
    let there : suc position + length ys ≡ position + suc (length ys) = omega arith in
    ap (λ zs. make position y ∷ zs) (each-append make (suc position) ys x ∙ ap (λ n. map_enumerated make (suc position) ys ++ make n x ∷ []) there)

length-front : {X : Type 0} (xs : List X) (i : ℕ) → i ≤ length xs → length (take i xs) ≡ i
length-front xs zero below = refl
length-front [] (suc i) below = absurd (omega (arith, below))
length-front (x ∷ xs) (suc i) below = ap suc (length-front xs i (omega (arith, below)))

-- the entries up to a position, and the one there
pub each-next : {X Y : Type 0} (make : ℕ → X → Y) (xs : List X) (i : ℕ) (x : X) → i < length xs → x ≡ get_or xs i x
    → map_enumerated make 0 (take (i + 1) xs) ≡ map_enumerated make 0 (take i xs) ++ make i x ∷ []
each-next make xs i x below is =
    let so_far : 0 + length (take i xs) ≡ i = omega (arith, length-front xs i (omega (arith, below))) in
    ap (map_enumerated make 0) (rw add-one (take-suc xs i x below))
    ∙ ap (λ y. map_enumerated make 0 (take i xs ++ y ∷ [])) (sym is)
    ∙ each-append make 0 (take i xs) x
    ∙ ap (λ n. map_enumerated make 0 (take i xs) ++ make n x ∷ []) so_far

-- the same of lists in a row
pub all-next : {X Y : Type 0} (make : ℕ → X → List Y) (xs : List X) (i : ℕ) (x : X) → i < length xs → x ≡ get_or xs i x
    → flat_map (λ ys. ys) (map_enumerated make 0 (take (i + 1) xs)) ≡ flat_map (λ ys. ys) (map_enumerated make 0 (take i xs)) ++ make i x
all-next make xs i x below is =
    ap (flat_map (λ ys. ys)) (each-next make xs i x below is) ∙ flat_map-append (λ ys. ys) (map_enumerated make 0 (take i xs)) (make i x ∷ [])
    ∙ ap (λ ys. flat_map (λ ys. ys) (map_enumerated make 0 (take i xs)) ++ ys) (append-nil (make i x))

-- positions in a list that is short enough
pub short-list : {X : Type 0} (xs : List X) (i : ℕ) → fits_list xs ≡ true → i < length xs → i < 2 ^ 31
short-list xs i short below = grind (arith, nat_tests)

-- the entries of a mapped list up to a position, and the one there
pub map-next : {X Y : Type 0} (f : X → Y) (xs : List X) (i : ℕ) (x : X) → i < length xs → x ≡ get_or xs i x
    → map f (take (i + 1) xs) ≡ map f (take i xs) ++ f x ∷ []
map-next f xs i x below is =
    ap (map f) (rw add-one (take-suc xs i x below)) ∙ map-append f (take i xs) (get_or xs i x ∷ []) ∙ ap (λ y. map f (take i xs) ++ f y ∷ []) (sym is)
