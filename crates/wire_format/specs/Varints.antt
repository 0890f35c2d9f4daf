-- Varints: numbers in base 128, least digit first, in which each byte but the last is 128 or more.
use Rattle.std.specs.Prelude.{ℕ, suc, ◌+◌, ◌*◌, ◌-◌, ◌%◌, ◌^◌, List, [], ◌∷◌, length, take, drop}
use Rattle.std.specs.Prelude.{Result, Ok, Err, nat_lt, if◌then◌else◌}
use Rattle.wire_format.specs.declared.fault.WireFault.{WireFault}
use Rattle.wire_format.specs.declared.fault.WireFaultKind.TheVariants.{Truncated, LongVarint}
use Rattle.wire_format.specs.declared.fault.WireFaultKind.TheVariants.{LargeTag, FieldNumberZero}
use Rattle.wire_format.specs.Faults.{fault}
use Rattle.wire_format.specs.Reading.{◌>>=◌}

-- how many bytes from 128 on there are before the first other one
abbrev pub continued : List ℕ → ℕ
continued [] = 0
continued (b ∷ bytes) = if nat_lt b 128 then 0 else suc (continued bytes)

-- the number whose digits are the low seven bits of the bytes
abbrev pub base128 : List ℕ → ℕ
base128 [] = 0
base128 (b ∷ bytes) = b % 128 + 128 * base128 bytes

-- The number at the front, of which 64 bits are kept, and what follows it: it ends with the first
-- byte below 128, which is one of the first ten.
unfoldable pub varint : ℕ → List ℕ → Result (ℕ × List ℕ) WireFault
varint ends bytes =
    let n = continued bytes in
    if nat_lt 9 n then Err (fault LongVarint ends bytes)
    else (if nat_lt n (length bytes)
    then Ok (base128 (take (suc n) bytes) % 2 ^ 64, drop (suc n) bytes)
    else Err (fault Truncated ends bytes))

-- The tag at the front, a number of at most five bytes and 32 bits, and what follows it. It is a
-- field's number times 8 and the wire type, and no field has the number 0.
unfoldable pub tag : ℕ → List ℕ → Result (ℕ × List ℕ) WireFault
tag ends bytes = do
  n ← varint ends bytes
  if nat_lt n.0 (2 ^ 32) then
      (if nat_lt 5 (length bytes - length n.1) then Err (fault LargeTag ends bytes)
      else (if nat_lt n.0 8 then Err (fault FieldNumberZero ends bytes) else Ok n))
      else Err (fault LargeTag ends bytes)
