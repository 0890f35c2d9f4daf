-- Which numbers a range holds, and the first range of a list that holds a number.
use Rattle.std.specs.Prelude.{ℕ, zero, suc, ℤ, Bool, ◌&&◌, int_le, int_lt, List, [], ◌∷◌, Option}
use Rattle.std.specs.Prelude.{Some, None, if◌then◌else◌}
use Rattle.std.specs.Option.{option_map}

-- a range, given as its start and its end, holds the numbers from its start on and below its end
abbrev pub holds : ℤ → ℤ × ℤ → Bool
holds n range = int_le range.0 n && int_lt n range.1

-- the position of the first element of a list, from a position on, that passes a test
abbrev pub first_from : {X : Type 0} → (X → Bool) → ℕ → List X → Option ℕ
first_from test from [] = None
first_from test zero (x ∷ xs) = if test x then Some 0 else option_map suc (first_from test 0 xs)
first_from test (suc from) (x ∷ xs) = option_map suc (first_from test from xs)
