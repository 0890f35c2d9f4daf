-- Entries of a list with their positions, one more at a time.
use Rattle.std.proofs.Common.{◌≡◌, ℕ, ◌+◌, ◌<◌, List, [], ◌∷◌, ◌++◌, length, map as each_of, take, get_or, Ordering, ap, ◌∙◌}
use Rattle.std.proofs.lemmas.List.{map-append}
use Rattle.std.proofs.lemmas.List.Sums.{fold-append}
use Rattle.std.specs.FinMap as map
use Rattle.std.specs.List.{enumerate_from}
use Rattle.plain_data.specs.Maps.{inserted}
use Rattle.plain_data.proofs.Enumerated.{entries-next}

-- what the entries up to a position become, and the one there
pub mapped-next : {X Y : Type 0} (f : ℕ × X → Y) (xs : List X) (i : ℕ) (x : X) → i < length xs → x ≡ get_or xs i x
    → each_of f (enumerate_from 0 (take (i + 1) xs)) ≡ each_of f (enumerate_from 0 (take i xs)) ++ f (i, x) ∷ []
mapped-next f xs i x below is = ap (each_of f) (entries-next xs i x below is) ∙ map-append f (enumerate_from 0 (take i xs)) ((i, x) ∷ [])

-- one more entry put into a map
pub inserted-next : {K X : Type 0} {R : K → K → Ordering} (es : List (K × X)) (k : K) (x : X)
    → inserted {R = R} (es ++ (k, x) ∷ []) ≡ map.insert (inserted {R = R} es) k x
inserted-next es k x = fold-append (λ m e. map.insert m e.0 e.1) map.empty es ((k, x) ∷ [])
