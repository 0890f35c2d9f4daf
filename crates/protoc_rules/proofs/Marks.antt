-- Marks of the entries of a list.
use Rattle.std.proofs.Common.{◌≡◌, ℕ, zero, suc, Bool, false, List, [], ◌∷◌, map, get_or, slice_get, refl}
use Rattle.std.specs.Option.{option_map_or}

-- the mark of the entry with a position, if there is one
pub mark-of : {X : Type 0} (p : X → Bool) (xs : List X) (n : ℕ) → get_or (map p xs) n false ≡ option_map_or p (slice_get xs n) false
mark-of p [] n = refl
mark-of p (x ∷ xs) zero = refl
mark-of p (x ∷ xs) (suc n) = mark-of p xs n
