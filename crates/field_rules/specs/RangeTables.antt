-- Numbers in order: those of a list, and level by level those of its halves.
use Rattle.std.specs.Prelude.{◌≡◌, ◌+◌, ◌*◌, ◌/◌, ℕ, zero, suc, ℤ, List, ◌++◌, length, map, take}
use Rattle.std.specs.Prelude.{drop}
use Rattle.std.specs.Int.{int_max}
use Rattle.std.specs.List.Sorted.{IsPermutation, IsSorted}
use Rattle.std.specs.Ordering.{int_cmp}

-- a list has the numbers of another, in order
pub record IsInOrder (sorted numbers : List ℤ) : Type 0 where
  pub order : IsSorted int_cmp sorted
  pub same : IsPermutation numbers sorted

-- a table of numbers: the numbers in order, and behind them the tables of the two halves of their
-- list, with one level less
abbrev pub IsTable : ℕ → List ℤ → List ℤ → Type 0
IsTable zero table numbers = Unit {0}
IsTable (suc below) table numbers =
    let count = length numbers in
    let half = count / 2 in
    let rest = drop count table in
    (length table ≡ count + count * below)
    × IsInOrder (take count table) numbers
    × IsTable below (take (half * below) rest) (take half numbers)
    × IsTable below (drop (half * below) rest) (drop half numbers)

-- the end of a range, where one that ends before it starts counts as one that ends where it starts
abbrev pub end_of : ℤ × ℤ → ℤ
end_of range = int_max range.0 range.1

-- two tables are those of the starts and of the ends of ranges
pub record AreTables (levels : ℕ) (starts ends : List ℤ) (ranges : List (ℤ × ℤ)) : Type 0 where
  pub of_starts : IsTable levels starts (map (λ r. r.0) ranges)
  pub of_ends : IsTable levels ends (map end_of ranges)

-- a list has a table of numbers behind what it held before
abbrev pub IsTableBehind : ℕ → List ℤ → List ℤ → List ℤ → Type 0
IsTableBehind levels numbers before after =
    (table : List ℤ) × (after ≡ before ++ table) × (length table ≡ length numbers * levels)
    × IsTable levels table numbers
