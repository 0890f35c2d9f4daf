-- The canonical encoding of fields: the shortest varints, and no groups.
use Rattle.std.specs.Prelude.{ℕ, zero, suc, ◌+◌, ◌*◌, ◌/◌, ◌%◌, ◌<◌, ◌^◌, List, [], ◌∷◌, ◌++◌}
use Rattle.std.specs.Prelude.{length, nat_lt, if◌then◌else◌}
use Rattle.wire_format.specs.Faults.{offset}
use Rattle.wire_format.specs.Tokens.{Value, Varint, Len}
use Rattle.wire_format.specs.Fields.{Fields, End, Then}

-- a number in base 128, least digit first, of at most k digits more than one
unfoldable pub digits : ℕ → ℕ → List ℕ
digits zero n = n ∷ []
digits (suc k) n = if nat_lt n 128 then n ∷ [] else (128 + n % 128) ∷ digits k (n / 128)

-- the shortest varint of a number below 2 ^ 64
unfoldable pub varint_of : ℕ → List ℕ
varint_of n = digits 9 n

-- a value without the offset of its end
pub data Part : Type 0 where
  Number : ℕ → Part
  Bytes : List ℕ → Part

-- a field without the offset of its end
pub record Numbered : Type 0 where
  pub number : ℕ
  pub part : Part

-- the bytes of a field: its tag and its value
abbrev pub part_of : ℕ → Part → List ℕ
part_of n (Number v) = varint_of (8 * n) ++ varint_of v
part_of n (Bytes bytes) = varint_of (8 * n + 2) ++ (varint_of (length bytes) ++ bytes)

-- the bytes of fields, one behind another
abbrev pub encoding : List Numbered → List ℕ
encoding [] = []
encoding (f ∷ fs) = part_of f.number f.part ++ encoding fs

-- a value whose bytes end at an offset of the input
abbrev pub placed_part : ℕ → Part → Value
placed_part ends (Number v) = Varint v
placed_part ends (Bytes bytes) = Len bytes ends

-- fields whose encoding ends at an offset of the input
abbrev pub placed : ℕ → List Numbered → Fields
placed ends [] = End
placed ends (f ∷ fs) =
    Then f.number (placed_part (offset ends (encoding fs)) f.part) (placed ends fs)

-- what has an encoding
abbrev pub IsWide : Part → Type 0
IsWide (Number v) = v < 2 ^ 64
IsWide (Bytes bytes) = length bytes < 2 ^ 64

-- a field that has an encoding: its number is one of protobuf, and its value fits
pub record Fits (f : Numbered) : Type 0 where
  pub some : 0 < f.number
  pub number : f.number < 2 ^ 29
  pub part : IsWide f.part
