-- Entries of numbers in the order of their keys, and further ones in a map of the library.
use Rattle.std.specs.Prelude.{◌≡◌, ℕ, ◌<◌, ◌≤◌, List, ◌++◌, length, slice_index_or}
use Rattle.std.specs.BTreeMap.{BTreeMap, get}
use Rattle.std.specs.FinMap as map
use Rattle.std.specs.Ordering.{nat_cmp}
use Rattle.std.specs.declared.option.Option.TheVariants.{None}
use Rattle.plain_data.specs.Maps.{ByNumber}

-- the key of the entry at a position
abbrev pub key_at : List (ℕ × ℕ) → ℕ → ℕ
key_at entries at = (slice_index_or entries at (0, 0)).0

-- each key is less than those behind it
abbrev pub Rise : List (ℕ × ℕ) → Type 0
Rise entries = (i j : ℕ) → i < j → j < length entries → key_at entries i < key_at entries j

-- the entry at a position has a key
abbrev pub HasKey : List (ℕ × ℕ) → ℕ → ℕ → Type 0
HasKey entries key at = (at < length entries) × (key_at entries at ≡ key)

-- no entry has a key, which is greater than those before a position and less than those from there
abbrev pub FitsAt : List (ℕ × ℕ) → ℕ → ℕ → Type 0
FitsAt entries key at =
    (at ≤ length entries) × ((i : ℕ) → i < at → key_at entries i < key)
    × ((i : ℕ) → at ≤ i → i < length entries → key < key_at entries i)

-- all entries, as a finite map
abbrev pub joined : List (ℕ × ℕ) → BTreeMap ℕ ℕ → ByNumber ℕ
joined entries others = map.from_entries (entries ++ others.entries)

-- the first keys rise, and none of them stands among the others
pub record AreApart (entries : List (ℕ × ℕ)) (others : BTreeMap ℕ ℕ) : Type 0 where
  pub rising : Rise entries
  pub apart : (at : ℕ) → at < length entries → get nat_cmp others (key_at entries at) ≡ None
