-- Texts with C escapes, and the bytes that they stand for.
use Rattle.std.specs.Prelude.{◌≡◌, ◌≢◌, ◌↔◌, ℕ, zero, suc, ◌+◌, ◌*◌, ◌≤◌, Bool, false, ◌==◌, ◌||◌}
use Rattle.std.specs.Prelude.{◌&&◌, IsTrue, IsFalse, List, [], ◌∷◌, ◌++◌, length, nat_le}
use Rattle.std.specs.Prelude.{if◌then◌else◌}
use Rattle.std.specs.Char.{is_digit, digit_value}
use Rattle.std.specs.declared.option.Option.{Option}
use Rattle.std.specs.declared.option.Option.TheVariants.{None, Some}
use Rattle.std.specs.declared.result.Result.{Result}
use Rattle.std.specs.declared.result.Result.TheVariants.{Ok, Err}
use Rattle.field_rules.specs.declared.escape_faults.EscapeFault.{EscapeFault}
use Rattle.field_rules.specs.declared.escape_faults.EscapeFault.TheVariants.{MissingEscape}
use Rattle.field_rules.specs.declared.escape_faults.EscapeFault.TheVariants.{HexTooShort}
use Rattle.field_rules.specs.declared.escape_faults.EscapeFault.TheVariants.{InvalidHex}
use Rattle.field_rules.specs.declared.escape_faults.EscapeFault.TheVariants.{OctalTooLarge}
use Rattle.field_rules.specs.declared.escape_faults.EscapeFault.TheVariants.{InvalidEscape}
use Rattle.field_rules.specs.declared.escape_faults.EscapeFault.TheVariants.{OutOfMemory}

-- whether a byte is a backslash
abbrev pub is_backslash : ℕ → Bool
is_backslash c = c == 92

-- whether a byte begins a hexadecimal escape behind a backslash: `x` and `X` do
abbrev pub is_hex_mark : ℕ → Bool
is_hex_mark c = c == 120 || c == 88

-- whether a byte is an octal digit
abbrev pub is_octal : ℕ → Bool
is_octal c = is_digit c 8

-- whether a byte is a hexadecimal digit
abbrev pub is_hex : ℕ → Bool
is_hex c = is_digit c 16

-- the letters `a b f n r t v` of C, for 07 08 0c 0a 0d 09 0b, and a backslash, `?`, `'` and `"` for
-- themselves, each with its byte
abbrev pub letters : List (ℕ × ℕ)
letters = (97, 7) ∷ (98, 8) ∷ (102, 12) ∷ (110, 10) ∷ (114, 13) ∷ (116, 9) ∷ (118, 11) ∷ (92, 92)
    ∷ (63, 63) ∷ (39, 39) ∷ (34, 34) ∷ []

-- the byte that the first entry of a letter gives
abbrev pub value_in : List (ℕ × ℕ) → ℕ → Option ℕ
value_in [] c = None
value_in (e ∷ es) c = if e.0 == c then Some e.1 else value_in es c

-- the byte that a letter stands for behind a backslash
abbrev pub letter_value : ℕ → Option ℕ
letter_value c = value_in letters c

-- a number with one octal or hexadecimal digit more
abbrev pub onto : ℕ → ℕ → ℕ → ℕ
onto base n c = n * base + digit_value c

-- whether a text begins with an octal digit
abbrev pub starts_octal : List ℕ → Bool
starts_octal [] = false
starts_octal (c ∷ _) = is_octal c

-- a text stands for bytes: any byte but a backslash for itself, and behind a backslash a letter for
-- its byte, one to three octal digits, as many as there are, for their number up to 255, and `x` or
-- `X` and two hexadecimal digits for theirs
pub data Escaped : List ℕ → List ℕ → Type 0 where
  nothing : Escaped [] []
  itself : {c : ℕ} {t out : List ℕ} → IsFalse (is_backslash c) → Escaped t out
      → Escaped (c ∷ t) (c ∷ out)
  letter : {s c v : ℕ} {t out : List ℕ} → IsTrue (is_backslash s) → letter_value c ≡ Some v
      → Escaped t out → Escaped (s ∷ c ∷ t) (v ∷ out)
  octal_one : {s a v : ℕ} {t out : List ℕ} → IsTrue (is_backslash s) → IsTrue (is_octal a)
      → IsFalse (starts_octal t)
      → v ≡ digit_value a → Escaped t out → Escaped (s ∷ a ∷ t) (v ∷ out)
  octal_two : {s a b v : ℕ} {t out : List ℕ} → IsTrue (is_backslash s) → IsTrue (is_octal a)
      → IsTrue (is_octal b) → IsFalse (starts_octal t)
      → v ≡ onto 8 (digit_value a) b → Escaped t out → Escaped (s ∷ a ∷ b ∷ t) (v ∷ out)
  octal_three : {s a b c v : ℕ} {t out : List ℕ} → IsTrue (is_backslash s) → IsTrue (is_octal a)
      → IsTrue (is_octal b) → IsTrue (is_octal c)
      → v ≡ onto 8 (onto 8 (digit_value a) b) c → v ≤ 255 → Escaped t out
      → Escaped (s ∷ a ∷ b ∷ c ∷ t) (v ∷ out)
  hexadecimal : {s x a b v : ℕ} {t out : List ℕ} → IsTrue (is_backslash s) → IsTrue (is_hex_mark x)
      → IsTrue (is_hex a) → IsTrue (is_hex b)
      → v ≡ onto 16 (digit_value a) b → Escaped t out → Escaped (s ∷ x ∷ a ∷ b ∷ t) (v ∷ out)

-- the byte of an escape and what follows it, or its fault
abbrev pub One : Type 0
One = Result (ℕ × List ℕ) EscapeFault

-- the escape of what stands behind `x`: two hexadecimal digits, or the fault `HexTooShort` where
-- there are fewer bytes, or `InvalidHex` where these are others
abbrev pub hex_escape : List ℕ → One
hex_escape [] = Err HexTooShort
hex_escape (_ ∷ []) = Err HexTooShort
hex_escape (a ∷ b ∷ t) = if is_hex a && is_hex b then Ok (onto 16 (digit_value a) b, t)
    else Err InvalidHex

-- the escape of two octal digits with a number: one more is taken if there is one, and above 255
-- the fault is `OctalTooLarge`
abbrev pub octal_third : ℕ → List ℕ → One
octal_third n [] = Ok (n, [])
octal_third n (c ∷ t) = if is_octal c
    then (if nat_le (onto 8 n c) 255 then Ok (onto 8 n c, t) else Err OctalTooLarge)
    else Ok (n, c ∷ t)

-- the escape of one octal digit with a number: up to two more are taken
abbrev pub octal_second : ℕ → List ℕ → One
octal_second n [] = Ok (n, [])
octal_second n (c ∷ t) = if is_octal c then octal_third (onto 8 n c) t else Ok (n, c ∷ t)

-- the escape of a letter, or the fault `InvalidEscape` where the letter has no value
abbrev pub letter_escape : Option ℕ → List ℕ → One
letter_escape None t = Err InvalidEscape
letter_escape (Some v) t = Ok (v, t)

-- the escape that stands behind a backslash, with what follows it, or its fault: `MissingEscape`
-- where nothing stands there
abbrev pub one_escape : List ℕ → One
one_escape [] = Err MissingEscape
one_escape (c ∷ t) =
    if is_hex_mark c then hex_escape t
    else (if is_octal c then octal_second (digit_value c) t
    else letter_escape (letter_value c) t)

-- a text is refused with a fault: its front stands for bytes, and behind it a backslash begins no
-- escape, but this fault
abbrev pub EscapeRefused : List ℕ → EscapeFault → Type 0
EscapeRefused t f = (u v out : List ℕ) × (s : ℕ) × (t ≡ u ++ s ∷ v) × IsTrue (is_backslash s)
    × Escaped u out × (one_escape v ≡ Err f)

-- the bytes of a text, or its leftmost fault
abbrev pub Bytes : Type 0
Bytes = Result (List ℕ) EscapeFault

-- bytes with one more in front of them
abbrev pub byte_before : ℕ → Bytes → Bytes
byte_before v (Ok out) = Ok (v ∷ out)
byte_before v (Err f) = Err f

-- the byte of an escape, and then what the rest gives
abbrev pub escape_then : (List ℕ → Bytes) → One → Bytes
escape_then after (Err f) = Err f
escape_then after (Ok one) = byte_before one.0 (after one.1)

-- the bytes that a text of at most so many bytes stands for, or its fault
abbrev pub unescaped_within : ℕ → List ℕ → Bytes
unescaped_within zero t = Ok []
unescaped_within (suc n) [] = Ok []
unescaped_within (suc n) (c ∷ t) =
    if is_backslash c then escape_then (λ rest. unescaped_within n rest) (one_escape t)
    else byte_before c (unescaped_within n t)

-- the bytes that a text stands for, or its leftmost fault
abbrev pub unescaped : List ℕ → Bytes
unescaped t = unescaped_within (length t) t

-- law: `unescaped` gives bytes exactly where the text stands for them, and a fault exactly where
-- the text is refused so
abbrev pub UnescapedIsEscaped : Type 0
UnescapedIsEscaped = (t out : List ℕ) (f : EscapeFault)
    → ((unescaped t ≡ Ok out) ↔ Escaped t out) × ((unescaped t ≡ Err f) ↔ EscapeRefused t f)

-- law: a text that stands for bytes stands for no others, and is not refused
abbrev pub EscapedIsOne : Type 0
EscapedIsOne = (t out : List ℕ) → Escaped t out → ((other : List ℕ) → Escaped t other → other ≡ out)
    × ((f : EscapeFault) → EscapeRefused t f → ⊥)

-- law: a text that is refused is refused with one fault, and not for want of memory
abbrev pub RefusedIsOne : Type 0
RefusedIsOne = (t : List ℕ) (f : EscapeFault) → EscapeRefused t f
    → ((other : EscapeFault) → EscapeRefused t other → other ≡ f) × (f ≢ OutOfMemory)

-- a text is refused so, or memory was refused, which may be told of any text
abbrev pub IsRefusal : List ℕ → EscapeFault → Type 0
IsRefusal t OutOfMemory = Unit {0}
IsRefusal t f = EscapeRefused t f
