-- How full names end, and which declarations can be read.
use Rattle.std.specs.Prelude.{◌≡◌, ℕ, true, List, [], ◌∷◌, ◌++◌}
use Rattle.std.specs.List.{AllByRecursion}
use Rattle.record_walk.specs.Counts.{lists_fit}
use Rattle.record_walk.specs.Protos.{name_of}
use Rattle.record_walk.specs.Shown.{Shown}

-- a text ends with another
abbrev pub EndsWith : List ℕ → List ℕ → Type 0
EndsWith text ending = (front : List ℕ) × (text ≡ front ++ ending)

-- the full name of a declaration ends with the name in its record
abbrev pub EndsWithName : Shown → Type 0
EndsWithName d = EndsWith d.full_name (name_of d.proto)

-- the full name of each of some declarations ends with its name, and no list of these is too long;
-- the second pass is shown such lists
abbrev pub CanBeRead : List Shown → Type 0
CanBeRead ds = AllByRecursion (λ d. EndsWithName d × (lists_fit d.proto ≡ true)) ds

-- law: the front of a list of declarations that can be read is such a list too
pub front-read : (ds es : List Shown) → CanBeRead (ds ++ es) → CanBeRead ds
front-read [] es all = tt
front-read (d ∷ ds) es all = (all.0, front-read ds es all.1)
