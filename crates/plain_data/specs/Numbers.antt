-- Numbers that stand in an array of seven, or in a list of their own.
use Rattle.std.specs.Prelude.{ℤ, List, ◌≤◌, take, ⊤}
use Rattle.plain_data.specs.declared.numbers.Held.{Held}
use Rattle.plain_data.specs.declared.numbers.Held.TheVariants.{Few, Many}

-- the numbers, wherever they stand
abbrev pub items_of : Held → List ℤ
items_of (Few len few) = take len few
items_of (Many many) = many.items

-- no more than seven
abbrev pub IsWithin : Held → Type 0
IsWithin (Few len few) = len ≤ 7
IsWithin (Many many) = ⊤
