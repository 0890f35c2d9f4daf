-- Whole numbers as texts.
use Rattle.std.specs.Prelude.{ℕ, ℤ, pos, neg_ℤ, ◌-◌, ◌^◌, Bool, ◌&&◌, ◌==◌, not, List, [], ◌∷◌}
use Rattle.std.specs.Prelude.{int_le, if◌then◌else◌}
use Rattle.std.specs.List.{list_all}
use Rattle.std.specs.Option.{option_and_then, option_map}
use Rattle.std.specs.Char.{is_digit}
use Rattle.std.specs.Str.Parse.{digits_value}
use Rattle.std.specs.declared.option.Option.{Option}
use Rattle.std.specs.declared.option.Option.TheVariants.{None, Some}

-- the number of one or more decimal digits; leading zeros are allowed
abbrev pub digits : List ℕ → Option ℕ
digits [] = None
digits (c ∷ cs) = if list_all (λ d. is_digit d 10) (c ∷ cs) then Some (digits_value 10 (c ∷ cs))
    else None

-- the number of digits behind an optional plus, or behind a minus where a sign is allowed
abbrev pub signed_digits : Bool → List ℕ → Option ℤ
signed_digits signed [] = None
signed_digits signed (c ∷ cs) =
    if c == 43 then option_map pos (digits cs)
    else (if signed && c == 45 then option_map (λ n. neg_ℤ (pos n)) (digits cs)
    else option_map pos (digits (c ∷ cs)))

-- a number, if it is one from a least to a greatest
abbrev pub if_between : ℤ → ℤ → ℤ → Option ℤ
if_between low high n = if int_le low n && int_le n high then Some n else None

-- the number that a text writes, if it is one from a least to a greatest; a minus is allowed where
-- the least is negative
abbrev pub whole_between : ℤ → ℤ → List ℕ → Option ℤ
whole_between low high text =
    option_and_then (λ n. if_between low high n) (signed_digits (not (int_le (pos 0) low)) text)

-- the number that a text writes, if it is one of so many bits with a sign; `-0` is 0
abbrev pub whole_signed : ℕ → List ℕ → Option ℤ
whole_signed bits text =
    whole_between (neg_ℤ (pos (2 ^ (bits - 1)))) (pos (2 ^ (bits - 1) - 1)) text

-- the number that a text writes, if it is one of so many bits without a sign
abbrev pub whole_unsigned : ℕ → List ℕ → Option ℤ
whole_unsigned bits text = whole_between (pos 0) (pos (2 ^ bits - 1)) text
