-- Rows that say where a text stands in a list of bytes, each with a number.
use Rattle.std.specs.Prelude.{◌≡◌, ◌≢◌, ℕ, ◌+◌, ◌<◌}
use Rattle.std.specs.Prelude.{◌≤◌, List, ◌∷◌, map as each, length}
use Rattle.std.specs.Prelude.{slice_range, slice_index_or}
use Rattle.std.specs.Cmp.Lexicographic.{slice_cmp}
use Rattle.std.specs.FinMap as map
use Rattle.std.specs.List.{IsDistinct}
use Rattle.std.specs.Map.{keys_of}
use Rattle.std.specs.Ordering.{nat_cmp, ordering_then}
use Rattle.std.specs.Str.{bytes_eq}
use Rattle.std.specs.declared.cmp.Ordering.{Ordering}
use Rattle.std.specs.declared.cmp.Ordering.TheVariants.{Less}
use Rattle.std.specs.declared.option.Option.TheVariants.{Some}
use Rattle.plain_data.specs.Digests.{digest_of}
use Rattle.plain_data.specs.Maps.{ByText}
use Rattle.plain_data.specs.declared.text_rows.Row.{Row}

-- the text of a row
abbrev pub text_of : List ℕ → Row → List ℕ
text_of bytes row = slice_range bytes row.start row.end

-- each text, with its number
abbrev pub entries_of : List ℕ → List Row → List (List ℕ × ℕ)
entries_of bytes rows = each (λ row. (text_of bytes row, row.number)) rows

-- as a finite map
abbrev pub made_of : List ℕ → List Row → ByText ℕ
made_of bytes rows = map.from_entries (entries_of bytes rows)

-- what stands for the row at a position past the end
abbrev pub no_row : Row
no_row = record { start = 0; end = 0; number = 0; hash = 0 }

-- the text of the row at a position
abbrev pub text_at : List ℕ → List Row → ℕ → List ℕ
text_at bytes rows at = text_of bytes (slice_index_or rows at no_row)

-- texts by that number, and those of one number by their bytes
abbrev pub text_order : List ℕ → List ℕ → Ordering
text_order a b = ordering_then (nat_cmp (digest_of a) (digest_of b)) (slice_cmp nat_cmp a b)

-- a row stands in the bytes
abbrev pub IsRow : List ℕ → Row → Type 0
IsRow bytes row = (row.start ≤ row.end) × (row.end ≤ length bytes)

-- and so does each of these
abbrev pub AreWithin : List ℕ → List Row → Type 0
AreWithin bytes rows = (at : ℕ) → at < length rows → IsRow bytes (slice_index_or rows at no_row)

-- a row has the digest of its text
abbrev pub IsDigested : List ℕ → Row → Type 0
IsDigested bytes row = row.hash ≡ digest_of (text_of bytes row)

-- and so has each of these up to a position
abbrev pub AreDigested : List ℕ → List Row → ℕ → Type 0
AreDigested bytes rows to = (at : ℕ) → at < to → IsDigested bytes (slice_index_or rows at no_row)

-- the row at a position has a text
abbrev pub Holds : List ℕ → List Row → List ℕ → ℕ → Type 0
Holds bytes rows key at = (at < length rows) × (text_at bytes rows at ≡ key)

-- no row from a position up to another has a text
abbrev pub LacksFrom : List ℕ → List Row → List ℕ → ℕ → ℕ → Type 0
LacksFrom bytes rows key from to = (at : ℕ) → from ≤ at → at < to → text_at bytes rows at ≢ key

-- no row has it
abbrev pub Lacks : List ℕ → List Row → List ℕ → Type 0
Lacks bytes rows key = LacksFrom bytes rows key 0 (length rows)

-- the texts of the rows from a position up to another rise
abbrev pub IsRun : List ℕ → List Row → ℕ → ℕ → Type 0
IsRun bytes rows from to =
    (i j : ℕ) → from ≤ i → i < j → j < to
    → text_order (text_at bytes rows i) (text_at bytes rows j) ≡ Less

-- where the run with an index begins, from 0, and the one before it ends
abbrev pub bound : List ℕ → ℕ → ℕ
bound runs index = slice_index_or (0 ∷ runs) index 0

-- the first rows are runs, which end at these
pub record AreRuns (bytes : List ℕ) (rows : List Row) (runs : List ℕ) : Type 0 where
  pub rising : (j k : ℕ) → j ≤ k → k ≤ length runs → bound runs j ≤ bound runs k
  pub inside : bound runs (length runs) ≤ length rows
  pub each : (k : ℕ) → k < length runs → IsRun bytes rows (bound runs k) (bound runs (k + 1))
  pub digested : AreDigested bytes rows (bound runs (length runs))

-- the rows stand in the bytes, in runs, and no two have one text
pub record IsSound (bytes : List ℕ) (rows : List Row) (runs : List ℕ) : Type 0 where
  pub within : AreWithin bytes rows
  pub distinct : IsDistinct bytes_eq (keys_of (entries_of bytes rows))
  pub sorted : AreRuns bytes rows runs

-- a finite map has the text of each row up to a position, with its number
abbrev pub Covers : List ℕ → List Row → ℕ → ByText ℕ → Type 0
Covers bytes rows to m =
    (at : ℕ) → at < to
    → map.get m (text_at bytes rows at) ≡ Some (slice_index_or rows at no_row).number
