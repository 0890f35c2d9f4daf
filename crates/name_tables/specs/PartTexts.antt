-- Texts that stand one behind another in one buffer.
use Rattle.std.specs.Prelude.{◌≤◌, ◌-◌, ℕ, List, [], ◌∷◌, take, drop}

-- the texts with these ends, of which the first begins at start
abbrev pub cut_from : ℕ → List ℕ → List ℕ → List (List ℕ)
cut_from start bytes [] = []
cut_from start bytes (end ∷ ends) = take (end - start) (drop start bytes) ∷ cut_from end bytes ends

-- ends rise from a start, and none is past a limit
abbrev pub RiseFrom : ℕ → List ℕ → ℕ → Type 0
RiseFrom start [] limit = start ≤ limit
RiseFrom start (end ∷ ends) limit = (start ≤ end) × RiseFrom end ends limit
