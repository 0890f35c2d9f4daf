-- What texts stand for, computed.
use Rattle.std.specs.Prelude.{◌≡◌, ℕ, pos, neg_ℤ, true, List, [], ◌∷◌, ◌++◌, refl, codes}
use Rattle.std.specs.declared.result.Result.TheVariants.{Ok, Err}
use Rattle.pool_types.specs.declared.kinds.KindIndex.TheVariants as index
use Rattle.pool_types.specs.declared.default_value.DefaultValue.TheVariants as value
use Rattle.field_rules.specs.declared.escape_faults.EscapeFault.TheVariants.{MissingEscape, HexTooShort, InvalidHex, OctalTooLarge, InvalidEscape}
use Rattle.field_rules.specs.declared.escape_faults.ValueFault.TheVariants as fault
use Rattle.field_rules.specs.Escapes.{unescaped}
use Rattle.field_rules.specs.Simple.{simple_value}

-- the two bytes of é
abbrev accented : List ℕ
accented = 0xc3 ∷ 0xa9 ∷ []

pub empty : unescaped [] ≡ Ok []
empty = refl

pub plain : unescaped (codes "hello world") ≡ Ok (codes "hello world")
plain = refl

pub each_form : unescaped (codes "a\\101\\x41\\n") ≡ Ok (0x61 ∷ 0x41 ∷ 0x41 ∷ 0x0a ∷ [])
each_form = refl

pub each_escape : unescaped (codes "\\0\\001\\a\\b\\f\\n\\r\\t\\v\\\\\\'\\\"\\xfe\\?")
    ≡ Ok (0x00 ∷ 0x01 ∷ 0x07 ∷ 0x08 ∷ 0x0c ∷ 0x0a ∷ 0x0d ∷ 0x09 ∷ 0x0b ∷ 0x5c ∷ 0x27 ∷ 0x22 ∷ 0xfe ∷ 0x3f ∷ [])
each_escape = refl

pub octal_zero : unescaped (codes "\\0") ≡ Ok (0x00 ∷ [])
octal_zero = refl

pub octal_of_three : unescaped (codes "\\012\\156") ≡ Ok (0x0a ∷ 0x6e ∷ [])
octal_of_three = refl

pub octal_greatest : unescaped (codes "\\377") ≡ Ok (0xff ∷ [])
octal_greatest = refl

pub octal_ends_at_8 : unescaped (codes "\\18") ≡ Ok (0x01 ∷ 0x38 ∷ [])
octal_ends_at_8 = refl

pub octal_too_large : unescaped (codes "\\400") ≡ Err OctalTooLarge
octal_too_large = refl

pub octal_of_sevens : unescaped (codes "\\777") ≡ Err OctalTooLarge
octal_of_sevens = refl

pub hexadecimal : unescaped (codes "\\x01\\x02") ≡ Ok (0x01 ∷ 0x02 ∷ [])
hexadecimal = refl

pub hexadecimal_of_two : unescaped (codes "\\x11") ≡ Ok (0x11 ∷ [])
hexadecimal_of_two = refl

pub hexadecimal_ends_after_two : unescaped (codes "\\x111") ≡ Ok (0x11 ∷ 0x31 ∷ [])
hexadecimal_ends_after_two = refl

pub hexadecimal_of_none : unescaped (codes "\\x") ≡ Err HexTooShort
hexadecimal_of_none = refl

pub hexadecimal_of_one : unescaped (codes "\\x1") ≡ Err HexTooShort
hexadecimal_of_one = refl

pub hexadecimal_with_a_plus : unescaped (codes "\\x+1") ≡ Err InvalidHex
hexadecimal_with_a_plus = refl

pub hexadecimal_of_underscores : unescaped (codes "\\x__") ≡ Err InvalidHex
hexadecimal_of_underscores = refl

pub hexadecimal_of_an_accent : unescaped (codes "\\x" ++ accented) ≡ Err InvalidHex
hexadecimal_of_an_accent = refl

pub hexadecimal_of_half_an_accent : unescaped (codes "\\x1" ++ accented) ≡ Err InvalidHex
hexadecimal_of_half_an_accent = refl

pub unknown_escape : unescaped (codes "\\w") ≡ Err InvalidEscape
unknown_escape = refl

pub escaped_accent : unescaped (codes "\\" ++ accented) ≡ Err InvalidEscape
escaped_accent = refl

pub lone_backslash : unescaped (codes "\\") ≡ Err MissingEscape
lone_backslash = refl

pub plus : simple_value index.Int32 (codes "+7") ≡ Ok (value.I32 (pos 7))
plus = refl

pub least_of_32_bits : simple_value index.Int32 (codes "-2147483648") ≡ Ok (value.I32 (neg_ℤ (pos 2147483648)))
least_of_32_bits = refl

pub past_32_bits : simple_value index.Int32 (codes "2147483648") ≡ Err fault.Number
past_32_bits = refl

pub minus_zero_without_a_sign : simple_value index.Uint32 (codes "-0") ≡ Err fault.Number
minus_zero_without_a_sign = refl

pub minus_zero_with_a_sign : simple_value index.Sint32 (codes "-0") ≡ Ok (value.I32 (pos 0))
minus_zero_with_a_sign = refl

pub lone_plus : simple_value index.Uint32 (codes "+") ≡ Err fault.Number
lone_plus = refl

pub leading_zeros : simple_value index.Fixed64 (codes "0000000000000000000000018446744073709551615") ≡ Ok (value.U64 18446744073709551615)
leading_zeros = refl

pub truth_in_another_case : simple_value index.Bool (codes "True") ≡ Err fault.Bool
truth_in_another_case = refl

pub truth : simple_value index.Bool (codes "true") ≡ Ok (value.Bool true)
truth = refl

pub bytes_refused : simple_value index.Bytes (codes "a\\w") ≡ Err (fault.Escape InvalidEscape)
bytes_refused = refl

pub number_with_a_fraction_unread : simple_value index.Double (codes "nan?") ≡ Ok (value.FloatText (codes "nan?"))
number_with_a_fraction_unread = refl
