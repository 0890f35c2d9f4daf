-- A list whose last is changed.
use Rattle.std.proofs.Common.{◌≡◌, List, [], ◌∷◌, ◌++◌, refl, ap}
use Rattle.link_script.specs.Building.{change_last}

-- the last of a list is changed where it stands
pub change_last_end : {X : Type 0} (h : X → X) (front : List X) (x : X) → change_last h (front ++ x ∷ []) ≡ front ++ h x ∷ []
change_last_end h [] x = refl
change_last_end h (y ∷ []) x = refl
change_last_end h (y ∷ z ∷ front) x = ap (λ xs. y ∷ xs) (change_last_end h (z ∷ front) x)
