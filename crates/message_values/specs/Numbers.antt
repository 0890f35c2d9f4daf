-- The numbers of kinds, and how they are encoded. A float or a double is told by its bits.
use Rattle.std.specs.Prelude.{ℕ, zero, suc, ◌+◌, ◌-◌, ◌*◌, ◌/◌, ◌%◌, ◌^◌, ℤ, pos, negsuc, Bool}
use Rattle.std.specs.Prelude.{false, ◌&&◌, List, [], ◌∷◌, length, Option, None, Some, Result, Ok}
use Rattle.std.specs.Prelude.{Err, nat_lt, ◌==◌, if◌then◌else◌}
use Rattle.std.specs.Int.{Width, w32, w64, cast_signed}
use Rattle.wire_format.specs.declared.fault.WireFault.{WireFault}
use Rattle.wire_format.specs.Reading.{◌>>=◌}
use Rattle.wire_format.specs.Packed.{numbers}
use Rattle.wire_format.specs.Tokens.{fixed}
use Rattle.message_values.specs.Values.{Value, Varint, Fixed64, Fixed32}
use Rattle.message_values.specs.Schema.{Schema, Kind}
use Rattle.message_values.specs.Schema as kind

-- how numbers are encoded: as varints, in two's complement or by turns 0, -1, 1, -2 and so on; as
-- four or eight bytes, be they a number or the bits of a float or a double
pub data Coding : Type 0 where
  Plain : Coding
  ZigZag : Coding
  Four : Coding
  Eight : Coding
  FloatBits : Coding
  DoubleBits : Coding

-- what a field's values are: numbers, texts or bytes, messages or groups
pub data Form : Type 0 where
  Number : Coding → Form
  Text : Form
  Message : ℕ → Form
  Group : ℕ → Form

-- how values of a kind are written: as numbers of a coding, as texts, as messages, or as groups
abbrev pub form : Kind → Form
form kind.Double = Number DoubleBits
form kind.Float = Number FloatBits
form kind.Int32 = Number Plain
form kind.Int64 = Number Plain
form kind.Uint32 = Number Plain
form kind.Uint64 = Number Plain
form kind.Sint32 = Number ZigZag
form kind.Sint64 = Number ZigZag
form kind.Fixed32 = Number Four
form kind.Fixed64 = Number Eight
form kind.Sfixed32 = Number Four
form kind.Sfixed64 = Number Eight
form kind.Boolean = Number Plain
form (kind.Text _) = Text
form kind.Bytes = Text
form (kind.Enum _) = Number Plain
form (kind.Message m) = Message m
form (kind.Group m) = Group m

-- whether a number is in -2 ^ n .. 2 ^ n, or in 0 .. 2 ^ n
abbrev pub is_signed : ℕ → ℤ → Bool
is_signed n (pos x) = nat_lt x (2 ^ n)
is_signed n (negsuc x) = nat_lt x (2 ^ n)

-- whether a number fits into so many bits without a sign
abbrev pub is_unsigned : ℕ → ℤ → Bool
is_unsigned n (pos x) = nat_lt x (2 ^ n)
is_unsigned n (negsuc x) = false

-- whether a number is one of a kind
unfoldable pub has_number : Schema → Kind → ℤ → Bool
has_number s kind.Double x = is_unsigned 64 x
has_number s kind.Float x = is_unsigned 32 x
has_number s kind.Int32 x = is_signed 31 x
has_number s kind.Int64 x = is_signed 63 x
has_number s kind.Uint32 x = is_unsigned 32 x
has_number s kind.Uint64 x = is_unsigned 64 x
has_number s kind.Sint32 x = is_signed 31 x
has_number s kind.Sint64 x = is_signed 63 x
has_number s kind.Fixed32 x = is_unsigned 32 x
has_number s kind.Fixed64 x = is_unsigned 64 x
has_number s kind.Sfixed32 x = is_signed 31 x
has_number s kind.Sfixed64 x = is_signed 63 x
has_number s kind.Boolean x = is_unsigned 1 x
has_number s (kind.Enum e) x = is_signed 31 x && s.has_value e x
has_number s _ x = false

-- the two's complement of a number in so many bits
abbrev pub complement : ℕ → ℤ → ℕ
complement n (pos x) = x
complement n (negsuc x) = 2 ^ n - suc x

-- 0, 1, 2, 3 and so on for 0, -1, 1, -2 and so on
abbrev pub zigzag : ℤ → ℕ
zigzag (pos x) = 2 * x
zigzag (negsuc x) = 2 * x + 1

-- the number that a zigzag encoding stands for
abbrev pub from_zigzag : ℕ → ℤ
from_zigzag n = if n % 2 == 0 then pos (n / 2) else negsuc (n / 2)

-- what a number is encoded as
unfoldable pub encoded : Coding → ℤ → ℕ
encoded Plain x = complement 64 x
encoded ZigZag x = zigzag x
encoded Four x = complement 32 x
encoded Eight x = complement 64 x
encoded FloatBits x = complement 32 x
encoded DoubleBits x = complement 64 x

-- an enum's number; none where it isn't one of the enum
abbrev pub enum_number : Schema → ℕ → ℤ → Option ℤ
enum_number s e x = if s.has_value e x then Some x else None

-- The number that a kind reads: of a varint a kind of 32 bits reads the low ones, and a truth value
-- is true unless all are 0. An enum reads no number but its own.
unfoldable pub number_read : Schema → Kind → ℕ → Option ℤ
number_read s kind.Int32 n = Some (cast_signed w32 (n % 2 ^ 32))
number_read s kind.Int64 n = Some (cast_signed w64 n)
number_read s kind.Uint32 n = Some (pos (n % 2 ^ 32))
number_read s kind.Sint32 n = Some (from_zigzag (n % 2 ^ 32))
number_read s kind.Sint64 n = Some (from_zigzag n)
number_read s kind.Sfixed32 n = Some (cast_signed w32 n)
number_read s kind.Sfixed64 n = Some (cast_signed w64 n)
number_read s kind.Boolean n = Some (if n == 0 then pos 0 else pos 1)
number_read s (kind.Enum e) n = enum_number s e (cast_signed w32 (n % 2 ^ 32))
number_read s _ n = Some (pos n)

-- the number in a value of a coding
abbrev pub raw : Coding → Value → Option ℕ
raw Plain (Varint n) = Some n
raw ZigZag (Varint n) = Some n
raw Four (Fixed32 n) = Some n
raw Eight (Fixed64 n) = Some n
raw FloatBits (Fixed32 n) = Some n
raw DoubleBits (Fixed64 n) = Some n
raw _ _ = None

-- at most so many numbers of a width, one behind the other
unfoldable pub first_fixed : ℕ → Width → List ℕ → Result (List ℕ) WireFault
first_fixed n w [] = Ok []
first_fixed zero w (b ∷ bytes) = Ok []
first_fixed (suc n) w (b ∷ bytes) =
    fixed w (suc (length bytes)) (b ∷ bytes) >>= λ x. first_fixed n w x.1 >>= λ ns. Ok (x.0 ∷ ns)

-- the packed numbers of a coding that bytes are
abbrev pub packed_result : Coding → List ℕ → Result (List ℕ) WireFault
packed_result Plain bytes = numbers (length bytes) bytes
packed_result ZigZag bytes = numbers (length bytes) bytes
packed_result Four bytes = first_fixed (length bytes) w32 bytes
packed_result Eight bytes = first_fixed (length bytes) w64 bytes
packed_result FloatBits bytes = first_fixed (length bytes) w32 bytes
packed_result DoubleBits bytes = first_fixed (length bytes) w64 bytes

-- what a step over bytes gave, unless they break off
abbrev pub if_ok : {X : Type 0} → Result X WireFault → Option X
if_ok (Ok x) = Some x
if_ok (Err f) = None

-- the packed numbers that bytes are; none where they break off
unfoldable pub packed : Coding → List ℕ → Option (List ℕ)
packed c bytes = if_ok (packed_result c bytes)
