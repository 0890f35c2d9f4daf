-- Tokens: numbered values, and the beginnings and ends of groups.
use Rattle.std.specs.Prelude.{ℕ, ◌/◌, ◌%◌, List, length, take, drop, Result, Ok, Err, nat_lt, ◌==◌}
use Rattle.std.specs.Prelude.{if◌then◌else◌}
use Rattle.std.specs.Int.{Width, w32, w64, byte_len, from_le_bytes}
use Rattle.wire_format.specs.declared.fault.WireFault.{WireFault}
use Rattle.wire_format.specs.declared.fault.WireFaultKind.TheVariants.{Truncated, UnknownWireType}
use Rattle.wire_format.specs.declared.tokens.Field as code
use Rattle.wire_format.specs.declared.tokens.Value as code_value
use Rattle.wire_format.specs.declared.tokens.Value.TheVariants as variant
use Rattle.wire_format.specs.Faults.{offset, fault}
use Rattle.wire_format.specs.Reading.{◌>>=◌}
use Rattle.wire_format.specs.Varints.{varint, tag}

-- a value; the bytes of Len end at an offset of the input, and the tag of Group and of EndGroup
-- begins at one
pub data Value : Type 0 where
  Varint : ℕ → Value
  I64 : ℕ → Value
  Len : List ℕ → ℕ → Value
  Group : ℕ → Value
  EndGroup : ℕ → Value
  I32 : ℕ → Value

-- a number and a value
pub record Field : Type 0 where
  pub number : ℕ
  pub value : Value

-- a value as the code has it, without where its bytes lie in memory
abbrev pub value_seen : code_value.Value → Value
value_seen (variant.Varint n) = Varint n
value_seen (variant.I64 n) = I64 n
value_seen (variant.Len bytes ends) = Len bytes.now ends
value_seen (variant.Group at) = Group at
value_seen (variant.EndGroup at) = EndGroup at
value_seen (variant.I32 n) = I32 n

-- a field as the code has it, without where its bytes lie in memory
abbrev pub seen : code.Field → Field
seen t = record { number = t.number; value = value_seen t.value }

-- a number of so many bytes, least byte first, and what follows it
unfoldable pub fixed : Width → ℕ → List ℕ → Result (ℕ × List ℕ) WireFault
fixed w ends bytes =
    if nat_lt (length bytes) (byte_len w) then Err (fault Truncated ends bytes)
    else Ok (from_le_bytes w (take (byte_len w) bytes), drop (byte_len w) bytes)

-- so many bytes, and what follows them
unfoldable pub delimited : ℕ → List ℕ → Result (List ℕ × List ℕ) WireFault
delimited ends bytes = do
  n ← varint ends bytes
  if nat_lt (length n.1) n.0 then Err (fault Truncated ends n.1)
      else Ok (take n.0 n.1, drop n.0 n.1)

-- the value of a wire type behind its tag, and what follows it; the tag begins at an offset
unfoldable pub value : ℕ → ℕ → ℕ → List ℕ → Result (Value × List ℕ) WireFault
value wire_type at ends bytes =
    if wire_type == 0 then (varint ends bytes >>= λ n. Ok (Varint n.0, n.1))
    else (if wire_type == 1 then (fixed w64 ends bytes >>= λ n. Ok (I64 n.0, n.1))
    else (if wire_type == 2 then (delimited ends bytes >>= λ p. Ok (Len p.0 (offset ends p.1), p.1))
    else (if wire_type == 3 then Ok (Group at, bytes)
    else (if wire_type == 4 then Ok (EndGroup at, bytes)
    else (if wire_type == 5 then (fixed w32 ends bytes >>= λ n. Ok (I32 n.0, n.1))
    else Err (record { kind = UnknownWireType; at = at }))))))

-- a tag, its value, and what follows them
unfoldable pub token : ℕ → List ℕ → Result (Field × List ℕ) WireFault
token ends bytes = do
  n ← tag ends bytes
  v ← value (n.0 % 8) (offset ends bytes) ends n.1
  Ok (record { number = n.0 / 8; value = v.0 }, v.1)
