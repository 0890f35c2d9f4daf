-- Texts in which characters stand as a percent sign and two hexadecimal digits: those of GitHub's
-- workflow commands, and URIs.
use Rattle.std.specs.Prelude.{◌≡◌, ℕ, true, ◌+◌, ◌-◌, ◌*◌, ◌/◌, ◌%◌, Bool, ◌==◌, ◌&&◌, ◌||◌, nat_lt}
use Rattle.std.specs.Prelude.{nat_le, List, [], ◌∷◌, ◌++◌, codes, if◌then◌else◌}
use Rattle.std.specs.Char.{encode_utf8, is_ascii_alphanumeric}
use Rattle.std.specs.List.{flat_map, list_all}
use Rattle.std.specs.Option.{option_map, option_and_then}
use Rattle.std.specs.Str.{chars, IsUtf8}
use Rattle.std.specs.declared.option.Option.{Option}
use Rattle.std.specs.declared.option.Option.TheVariants.{None, Some}

-- a character of the message of a workflow command: 37 is a percent sign
abbrev pub message_char : ℕ → List ℕ
message_char c =
    if c == 37 then codes "%25"
    else (if c == 13 then codes "%0D"
    else (if c == 10 then codes "%0A"
    else encode_utf8 c))

-- a character of a property of a workflow command: 58 is a colon, 44 a comma
abbrev pub property_char : ℕ → List ℕ
property_char c =
    if c == 58 then codes "%3A"
    else (if c == 44 then codes "%2C"
    else message_char c)

-- the message of a workflow command
unfoldable pub message : List ℕ → List ℕ
message text = flat_map message_char (chars text)

-- a property of a workflow command
unfoldable pub property : List ℕ → List ℕ
property text = flat_map property_char (chars text)

-- a hexadecimal digit, in capitals
abbrev pub capital_digit : ℕ → ℕ
capital_digit d = if nat_lt d 10 then 48 + d else 55 + d

-- whether a byte stands for itself in the path of a URI (RFC 3986, section 2.3): a letter, a digit,
-- a dash, a dot, a slash, a low line, a tilde
abbrev pub is_plain_byte : ℕ → Bool
is_plain_byte b =
    is_ascii_alphanumeric b || (b == 45 || (b == 46 || (b == 47 || (b == 95 || b == 126))))

-- a byte of the path of a URI
abbrev pub uri_byte : ℕ → List ℕ
uri_byte b = if is_plain_byte b then b ∷ []
    else 37 ∷ capital_digit (b / 16) ∷ capital_digit (b % 16) ∷ []

-- the name of a file as the path of a URI
unfoldable pub uri : List ℕ → List ℕ
uri name = flat_map uri_byte name

-- the number of a hexadecimal digit in capitals
abbrev pub capital_value : ℕ → Option ℕ
capital_value c =
    if nat_le 48 c && nat_lt c 58 then Some (c - 48)
    else (if nat_le 65 c && nat_lt c 71 then Some (c - 55) else None)

-- the byte of two hexadecimal digits
abbrev pub byte_value : ℕ → ℕ → Option ℕ
byte_value a b = option_and_then
    (λ high. option_map (λ low. high * 16 + low) (capital_value b)) (capital_value a)

-- where a reader stands: between two characters, or behind a percent sign
pub data Within : Type 0 where
  plain : Within
  escaped : Within

-- bytes in front of those of the rest
abbrev pub before : List ℕ → Option (List ℕ) → Option (List ℕ)
before bytes rest = option_map (λ s. bytes ++ s) rest

-- the bytes for which a text stands: of a percent sign and two digits the byte of the two
unfoldable pub read : Within → List ℕ → Option (List ℕ)
read plain [] = Some []
read plain (c ∷ t) = if c == 37 then read escaped t else before (c ∷ []) (read plain t)
read escaped [] = None
read escaped (a ∷ []) = None
read escaped (a ∷ b ∷ t) = option_and_then (λ v. before (v ∷ []) (read plain t)) (byte_value a b)

-- law: the message of a command, a property of one, and a name as a URI are read as what they were
-- made of
pub record EscapesReadBack : Type 0 where
  pub text : (text : List ℕ) → IsUtf8 text → read plain (message text) ≡ Some text
  pub value : (text : List ℕ) → IsUtf8 text → read plain (property text) ≡ Some text
  pub path : (name : List ℕ) → list_all (λ b. nat_lt b 256) name ≡ true
      → read plain (uri name) ≡ Some name
