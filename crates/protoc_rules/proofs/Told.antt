-- What is told of the entries of a list, one more at a time.
use Rattle.std.proofs.Common.{◌≡◌, ℕ, zero, suc, ◌+◌, ◌<◌, List, [], ◌∷◌, ◌++◌, Some, length, take, get_or, slice_get, refl, ap, sym, ◌∙◌, arith, append-nil}
use Rattle.std.proofs.lemmas.Grind.{flat_map-append}
use Rattle.std.specs.List.{enumerate_from, flat_map}
use Rattle.std.specs.Option.{option_map_or}
use Rattle.plain_data.proofs.Enumerated.{entries-next}
use Rattle.protoc_rules.specs.Faults.{each_told, told_at}

-- what is told up to a position, and of the entry there
pub told_next : {X Y : Type 0} (tell : ℕ → X → List Y) (xs : List X) (i : ℕ) (x : X) → i < length xs → x ≡ get_or xs i x
    → each_told tell (take (i + 1) xs) ≡ each_told tell (take i xs) ++ tell i x
told_next tell xs i x below is =
    ap (flat_map (λ e. tell e.0 e.1)) (entries-next xs i x below is)
    ∙ flat_map-append (λ e. tell e.0 e.1) (enumerate_from 0 (take i xs)) ((i, x) ∷ [])
    ∙ ap (λ ys. each_told tell (take i xs) ++ ys) (append-nil (tell i x))

-- the entry at a position within a list
pub within : {X : Type 0} (xs : List X) (i : ℕ) → i < length xs → (x : X) × ((slice_get xs i ≡ Some x) × (x ≡ get_or xs i x))
within [] i below = absurd (omega (arith, below))
within (y ∷ ys) zero below = (y, (refl, refl))
within (y ∷ ys) (suc i) below = within ys i (omega (arith, below))

-- the same of an entry that is looked up
pub told_further : {X Y : Type 0} (tell : ℕ → X → List Y) (xs : List X) (i : ℕ) → i < length xs
    → each_told tell (take (i + 1) xs) ≡ each_told tell (take i xs) ++ told_at tell xs i
told_further tell xs i below =
    let found = within xs i below in
    told_next tell xs i found.0 below found.1.1
    ∙ ap (λ o. each_told tell (take i xs) ++ option_map_or (tell i) o []) (sym found.1.0)
