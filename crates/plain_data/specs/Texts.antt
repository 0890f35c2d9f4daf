-- Texts that stand in an array of thirty bytes, in a string, or in a part of a shared one.
use Rattle.std.specs.Prelude.{ℕ, List, ◌≤◌, length, slice_range, take, ⊤, IsUtf8, string_bytes}
use Rattle.std.specs.Arc.{arc_str_bytes}
use Rattle.plain_data.specs.declared.text.Held.{Held}
use Rattle.plain_data.specs.declared.text.Held.TheVariants.{Short, Long, Piece}

-- the bytes, wherever they stand
abbrev pub bytes_of : Held → List ℕ
bytes_of (Short len bytes) = take len bytes
bytes_of (Long text) = string_bytes text
bytes_of (Piece text start end) = slice_range (arc_str_bytes text) start end

-- no more than thirty, or those between two positions of a string, which are a text
abbrev pub IsText : Held → Type 0
IsText (Short len bytes) = (len ≤ 30) × ∥ IsUtf8 (take len bytes) ∥₁
IsText (Long text) = ⊤
IsText (Piece text start end) =
    (start ≤ end) × (end ≤ length (arc_str_bytes text))
    × ∥ IsUtf8 (slice_range (arc_str_bytes text) start end) ∥₁
