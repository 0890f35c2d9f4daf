-- Lines for people: a text without characters that a terminal would obey or hide.
use Rattle.std.specs.Prelude.{◌≡◌, ℕ, ◌/◌, ◌%◌, Bool, true, false, not, ◌==◌, ◌&&◌, nat_lt, List}
use Rattle.std.specs.Prelude.{[], ◌∷◌, ◌++◌, codes, if◌then◌else◌}
use Rattle.std.specs.Char.{digit_char, encode_utf8}
use Rattle.std.specs.List.{flat_map}
use Rattle.std.specs.Str.{chars}
use Rattle.verdict_texts.specs.Hidden.{is_hidden}

-- the last four hexadecimal digits of a number
abbrev pub four_digits : ℕ → List ℕ
four_digits n = digit_char (n / 4096 % 16) ∷ digit_char (n / 256 % 16) ∷ digit_char (n / 16 % 16)
    ∷ digit_char (n % 16) ∷ []

-- `\uXXXX`, and past U+FFFF `\UXXXXXXXX`
abbrev pub escape_of : ℕ → List ℕ
escape_of c = if nat_lt c 65536 then codes "\\u" ++ four_digits c
    else codes "\\U" ++ (four_digits (c / 65536) ++ four_digits c)

-- what is printed for a character
abbrev pub plain_char : ℕ → List ℕ
plain_char c = if is_hidden c then escape_of c else encode_utf8 c

-- a text in which an escape stands for each character that a terminal would obey or hide
unfoldable pub plain_text : List ℕ → List ℕ
plain_text text = flat_map plain_char (chars text)

-- a text as a line, with its end
unfoldable pub line : List ℕ → List ℕ
line text = plain_text text ++ 10 ∷ []

-- whether a text's last byte is a line feed, and no other is one
abbrev pub ends_once : List ℕ → Bool
ends_once [] = false
ends_once (c ∷ []) = c == 10
ends_once (c ∷ d ∷ bs) = not (c == 10) && ends_once (d ∷ bs)

-- law: a line has one line feed, its last byte
abbrev pub LinesEndOnce : Type 0
LinesEndOnce = (text : List ℕ) → ends_once (line text) ≡ true
