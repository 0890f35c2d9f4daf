-- Entries of lists, by their positions.
use Rattle.std.proofs.Common.{◌≡◌, ℕ, zero, suc, ◌+◌, ◌<◌, Option, Some, None, Bor, List, [], ◌∷◌, ◌++◌, length, get_or, refl, ap, sym, ◌∙◌, arith, append_assoc}
use Rattle.std.proofs.lemmas.Option.{slice_get_past, slice_get_read}
use Rattle.std.specs.Option.{option_copied}
use Rattle.std.specs.Prelude.{slice_get}
use Rattle.std.specs.Slice.{IsItemAt}
use Rattle.plain_data.specs.Each.{map_enumerated}

-- an entry is itself, whatever stands in for one that isn't there
pub found-again : {X : Type 0} (xs : List X) (i : ℕ) (d : X) → get_or xs i d ≡ get_or xs i (get_or xs i d)
found-again [] i d = refl
found-again (x ∷ xs) zero d = refl
found-again (x ∷ xs) (suc i) d = found-again xs i d

-- what is made of positions alone
each-found : {X Y : Type 0} (make : ℕ → Y) (position : ℕ) (xs : List X) (i : ℕ) (d : Y) → i < length xs
    → get_or (map_enumerated (λ n _. make n) position xs) i d ≡ make (position + i)
each-found make position [] i d below = absurd (omega (arith, below))
each-found make position (x ∷ xs) zero d below = let here : position ≡ position + 0 = omega arith in ap make here
each-found make position (x ∷ xs) (suc i) d below =
    let there : suc position + i ≡ position + suc i = omega arith in
    each-found make (suc position) xs i d (omega (arith, below)) ∙ ap make there

-- an entry made of its position alone
pub made-at : {X Y : Type 0} (make : ℕ → Y) (xs : List X) (i : ℕ) (d : Y) → i < length xs → get_or (map_enumerated (λ n _. make n) 0 xs) i d ≡ make i
made-at make xs i d below = let here : 0 + i ≡ i = omega arith in each-found make 0 xs i d below ∙ ap make here

pub regroup : {X : Type 0} (a b c d : List X) → ((a ++ b) ++ c) ++ d ≡ a ++ (b ++ (c ++ d))
regroup a b c d = append_assoc (a ++ b) c d ∙ append_assoc a b (c ++ d)

-- two lists come behind a list that came behind an old one
pub behind : {X : Type 0} (old a b c : List X) → (old ++ a) ++ (b ++ c) ≡ old ++ (a ++ b ++ c)
behind old a b c = append_assoc old a (b ++ c) ∙ ap (λ xs. old ++ xs) (sym (append_assoc a b c))

-- what is lent at a position of a list
pub got-at : {X : Type 0} (xs : List X) (i : ℕ) (r : Option (Bor X)) → IsItemAt xs i r → option_copied r ≡ slice_get xs i
got-at xs i None at = sym (slice_get_past xs i at.3)
got-at xs i (Some x) at = sym (slice_get_read xs (length xs) i x.now refl at.3.0 at.1)
