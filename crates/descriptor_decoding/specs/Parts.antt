-- What a field makes of a part of a message. A value of another wire type than the part's is
-- unknown, and leaves the part as it is.
use Rattle.std.specs.Prelude.{ℕ, ◌%◌, ◌^◌, ℤ, Bool, not, List, [], ◌∷◌, ◌++◌, map, Option, None}
use Rattle.std.specs.Prelude.{Some, Result, Ok, Err, unwrap_or, ◌==◌, if◌then◌else◌}
use Rattle.std.specs.Int.{w32, cast_signed}
use Rattle.std.specs.Str.{is_utf8}
use Rattle.wire_format.specs.declared.fault.WireFault.{WireFault}
use Rattle.wire_format.specs.declared.fault.WireFaultKind.TheVariants.{NotUtf8, TooDeep}
use Rattle.wire_format.specs.Faults.{fault}
use Rattle.wire_format.specs.Reading.{◌>>=◌}
use Rattle.wire_format.specs.Packed.{numbers}
use Rattle.wire_format.specs.Tokens.{Value, Varint, Len}
use Rattle.descriptor_decoding.specs.Merging.{Reader}

-- the number whose two's complement is the low 32 bits
abbrev pub int32 : ℕ → ℤ
int32 n = cast_signed w32 (n % 2 ^ 32)

-- of a number, an enum or a truth value the last one counts
abbrev pub int32_merged : Value → Option ℤ → Option ℤ
int32_merged (Varint n) part = Some (int32 n)
int32_merged other part = part

-- a truth value is false where its number is 0; the last one counts
abbrev pub bool_merged : Value → Option Bool → Option Bool
bool_merged (Varint n) part = Some (not (n == 0))
bool_merged other part = part

-- a text is UTF-8
abbrev pub text_of : ℕ → List ℕ → Result (List ℕ) WireFault
text_of ends bytes = if is_utf8 bytes then Ok bytes else Err (fault NotUtf8 ends bytes)

-- of a text that may be missing the last one counts
unfoldable pub text_merged : Value → Option (List ℕ) → Result (Option (List ℕ)) WireFault
text_merged (Len bytes ends) part = text_of ends bytes >>= λ t. Ok (Some t)
text_merged other part = Ok part

-- repeated texts
unfoldable pub texts_merged : Value → List (List ℕ) → Result (List (List ℕ)) WireFault
texts_merged (Len bytes ends) items = text_of ends bytes >>= λ t. Ok (items ++ t ∷ [])
texts_merged other items = Ok items

-- packed numbers behind others
abbrev pub packed_merged : ℕ → List ℕ → List ℤ → Result (List ℤ) WireFault
packed_merged ends bytes items = numbers ends bytes >>= λ ns. Ok (items ++ map int32 ns)

-- repeated numbers, packed or not
unfoldable pub int32s_merged : Value → List ℤ → Result (List ℤ) WireFault
int32s_merged (Varint n) items = Ok (items ++ int32 n ∷ [])
int32s_merged (Len bytes ends) items = packed_merged ends bytes items
int32s_merged other items = Ok items

-- what bytes make of a message one level further in
abbrev pub inner_merged : {M : Type 0} → Option (Reader M) → Reader M
inner_merged None ends bytes m = Err (fault TooDeep ends bytes)
inner_merged (Some read) ends bytes m = read ends bytes m

-- a message that may be missing: all fields of its parts count, in order
unfoldable pub message_merged : {M : Type 0} → M → Option (Reader M) → Value → Option M
    → Result (Option M) WireFault
message_merged empty inner (Len bytes ends) part =
    inner_merged inner ends bytes (unwrap_or part empty) >>= λ m. Ok (Some m)
message_merged empty inner other part = Ok part

-- repeated messages
unfoldable pub messages_merged : {M : Type 0} → M → Option (Reader M) → Value → List M
    → Result (List M) WireFault
messages_merged empty inner (Len bytes ends) items =
    inner_merged inner ends bytes empty >>= λ m. Ok (items ++ m ∷ [])
messages_merged empty inner other items = Ok items
