-- Texts with numbers, which are looked through one after another.
use Rattle.std.specs.Prelude.{◌≡◌, ◌≢◌, ℕ, ◌+◌, ◌<◌, ◌≤◌, List, [], length, slice_index_or}

-- the text of the entry at a position
abbrev pub text_at : List (List ℕ × ℕ) → ℕ → List ℕ
text_at entries at = (slice_index_or entries at ([], 0)).0

-- the entry at a position has a text
abbrev pub Holds : List (List ℕ × ℕ) → List ℕ → ℕ → Type 0
Holds entries key at = (at < length entries) × (text_at entries at ≡ key)

-- no entry from a position up to another has a text
abbrev pub LacksFrom : List (List ℕ × ℕ) → List ℕ → ℕ → ℕ → Type 0
LacksFrom entries key from to = (at : ℕ) → from ≤ at → at < to → text_at entries at ≢ key

-- no entry has it
abbrev pub Lacks : List (List ℕ × ℕ) → List ℕ → Type 0
Lacks entries key = LacksFrom entries key 0 (length entries)

-- no entry up to a position has the text of a later one
abbrev pub AreApart : List (List ℕ × ℕ) → ℕ → Type 0
AreApart entries to =
    (at : ℕ) → at < to → LacksFrom entries (text_at entries at) (at + 1) (length entries)
