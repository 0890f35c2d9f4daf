-- What was encoded is read again.
use Rattle.std.proofs.Common.{◌≡◌, ℕ, zero, suc, ◌+◌, ◌-◌, ◌*◌, ◌/◌, ◌%◌, ◌^◌, ◌<◌, ◌≤◌, inl, inr, true, false, ltb, List, [], ◌∷◌, ◌++◌, length, Ok, refl, sym, ap, ◌∙◌, arith, append_assoc}
use Rattle.std.proofs.Math.Nat.{pow-suc}
use Rattle.std.proofs.lemmas.Bool.{cases_lt, lt-ltb, le-ltb}
use Rattle.std.proofs.lemmas.List.{take_at, drop_at, length-append}
use Rattle.std.specs.List.{AllByRecursion}
use Rattle.wire_format.specs.Faults.{offset}
use Rattle.wire_format.specs.Varints.{continued, base128, varint, tag}
use Rattle.wire_format.specs.Tokens.{Value, Varint, Len, delimited, value, token}
use Rattle.wire_format.specs.Fields.{Fields, End, Then, first_tokens, tokens, fields_within, fields}
use Rattle.wire_format.specs.Encoding.{digits, varint_of, Part, Number, Bytes, Numbered, part_of, encoding, placed_part, placed, IsWide, Fits}
use Rattle.wire_format.proofs.Digits.{continued-more, continued-last}
use Rattle.wire_format.proofs.Steps.{tokens-more}

lower : (k n : ℕ) → n < 128 ^ suc (suc k) → n / 128 < 128 ^ suc k
lower k n h = omega (arith, pow-suc 128 (suc k))

one_digit : (n : ℕ) → n < 128 ^ suc zero → n < 128
one_digit n h = omega (arith, pow-suc 128 zero)

continued-again : (k n : ℕ) (rest : List ℕ) → n < 128 ^ suc k → suc (continued (digits k n ++ rest)) ≡ length (digits k n)
unfolding digits
continued-again zero n rest h = ap suc (continued-last n rest (one_digit n h))
continued-again (suc k) n rest h =
    elim (cases_lt n 128) [
      | inl lt ↦ rw (lt-ltb n 128 lt) (ap suc (continued-last n rest lt))
      | inr le ↦ rw (le-ltb n 128 le) (ap suc (continued-more (128 + n % 128) (digits k (n / 128) ++ rest) (omega arith) ∙ continued-again k (n / 128) rest (lower k n h)))
    ]

base-again : (k n : ℕ) → n < 128 ^ suc k → base128 (digits k n) ≡ n
unfolding digits
base-again zero n h = omega (arith, one_digit n h)
base-again (suc k) n h =
    elim (cases_lt n 128) [
      | inl lt ↦ rw (lt-ltb n 128 lt) (omega arith)
      | inr le ↦ rw (le-ltb n 128 le) (omega (arith, base-again k (n / 128) (lower k n h)))
    ]

few : (k n : ℕ) → length (digits k n) ≤ suc k
unfolding digits
few zero n = omega arith
few (suc k) n =
    elim (cases_lt n 128) [
      | inl lt ↦ rw (lt-ltb n 128 lt) (omega arith)
      | inr le ↦ rw (le-ltb n 128 le) (omega (arith, few k (n / 128)))
    ]

pub varint-again : (ends n : ℕ) (rest : List ℕ) → n < 2 ^ 64 → varint ends (varint_of n ++ rest) ≡ Ok (n, rest)
unfolding varint varint_of
varint-again ends n rest h =
    let ds = digits 9 n in
    let wide : n < 128 ^ 10 = omega arith in
    let all : suc (continued (ds ++ rest)) ≡ length ds = continued-again 9 n rest wide in
    let no_more : ltb 9 (continued (ds ++ rest)) ≡ false = le-ltb _ _ (omega (arith, few 9 n, all)) in
    let inside : ltb (continued (ds ++ rest)) (length (ds ++ rest)) ≡ true = lt-ltb _ _ (omega (arith, all, length-append ds rest)) in
    let same : base128 ds % 2 ^ 64 ≡ n = rw (base-again 9 n wide) (omega arith) in
    rw (no_more, inside, take_at ds rest (suc (continued (ds ++ rest))) (sym all), drop_at ds rest (suc (continued (ds ++ rest))) (sym all), same) refl

delimited-again : (ends : ℕ) (bytes rest : List ℕ) → length bytes < 2 ^ 64 → delimited ends (varint_of (length bytes) ++ (bytes ++ rest)) ≡ Ok (bytes, rest)
unfolding delimited
delimited-again ends bytes rest h =
    let long : ltb (length (bytes ++ rest)) (length bytes) ≡ false = le-ltb _ _ (omega (arith, length-append bytes rest)) in
    rw (varint-again ends (length bytes) (bytes ++ rest) h, long, take_at bytes rest (length bytes) refl, drop_at bytes rest (length bytes) refl) refl

-- the digits of a number below 2 ^ 32 are five at most
few-digits : (j k n : ℕ) → n < 128 ^ suc j → length (digits k n) ≤ suc j
unfolding digits
few-digits j zero n h = omega arith
few-digits zero (suc k) n h = rw (lt-ltb n 128 (one_digit n h)) (omega arith)
few-digits (suc j) (suc k) n h =
    elim (cases_lt n 128) [
      | inl lt ↦ rw (lt-ltb n 128 lt) (omega arith)
      | inr le ↦ rw (le-ltb n 128 le) (omega (arith, few-digits j k (n / 128) (lower j n h)))
    ]

tag-read : (ends n : ℕ) (more : List ℕ) → 8 ≤ n → n < 2 ^ 32 → tag ends (varint_of n ++ more) ≡ Ok (n, more)
unfolding tag varint_of
tag-read ends n more least most =
    let narrow : ltb n (2 ^ 32) ≡ true = lt-ltb _ _ most in
    let few : ltb 5 (length (digits 9 n ++ more) - length more) ≡ false = le-ltb _ _ (omega (arith, few-digits 4 9 n (omega arith), length-append (digits 9 n) more)) in
    let some : ltb n 8 ≡ false = le-ltb _ _ least in
    rw (varint-again ends n more (omega arith), narrow, few, some) refl

-- a tag, and then the value of its wire type
tag-again : (ends n wire_type at : ℕ) (v : Value) (more rest : List ℕ) → 0 < n → n < 2 ^ 29 → wire_type < 8 → ((at : ℕ) → value wire_type at ends more ≡ Ok (v, rest))
    → token ends (varint_of (8 * n + wire_type) ++ more) ≡ Ok (record { number = n; value = v }, rest)
unfolding token
tag-again ends n wire_type at v more rest some narrow low read =
    let t = 8 * n + wire_type in
    let wire : t % 8 ≡ wire_type = omega arith in
    let number : t / 8 ≡ n = omega arith in
    rw (tag-read ends t more (omega arith) (omega arith), wire, read (offset ends (varint_of t ++ more)), number) refl

number-value : (at ends v : ℕ) (rest : List ℕ) → v < 2 ^ 64 → value 0 at ends (varint_of v ++ rest) ≡ Ok (Varint v, rest)
unfolding value
number-value at ends v rest h = rw (varint-again ends v rest h) refl

bytes-value : (at ends : ℕ) (bytes rest : List ℕ) → length bytes < 2 ^ 64 → value 2 at ends (varint_of (length bytes) ++ (bytes ++ rest)) ≡ Ok (Len bytes (offset ends rest), rest)
unfolding value
bytes-value at ends bytes rest h = rw (delimited-again ends bytes rest h) refl

part-again : (ends n : ℕ) (p : Part) (rest : List ℕ) → 0 < n → n < 2 ^ 29 → IsWide p → token ends (part_of n p ++ rest) ≡ Ok (record { number = n; value = placed_part (offset ends rest) p }, rest)
part-again ends n (Number v) rest some narrow wide =
    let zero_more : 8 * n ≡ 8 * n + 0 = omega arith in
    let regrouped : part_of n (Number v) ++ rest ≡ varint_of (8 * n + 0) ++ (varint_of v ++ rest) = append_assoc (varint_of (8 * n)) (varint_of v) rest ∙ ap (λ (t : ℕ). varint_of t ++ (varint_of v ++ rest)) zero_more in
    ap (token ends) regrouped ∙ tag-again ends n 0 0 (Varint v) (varint_of v ++ rest) rest some narrow (omega arith) (λ at. number-value at ends v rest wide)
part-again ends n (Bytes bytes) rest some narrow wide =
    let len = varint_of (length bytes) in
    let regrouped : part_of n (Bytes bytes) ++ rest ≡ varint_of (8 * n + 2) ++ (len ++ (bytes ++ rest)) = append_assoc (varint_of (8 * n + 2)) (len ++ bytes) rest ∙ ap (λ (x : List ℕ). varint_of (8 * n + 2) ++ x) (append_assoc len bytes rest) in
    ap (token ends) regrouped ∙ tag-again ends n 2 0 (Len bytes (offset ends rest)) (len ++ (bytes ++ rest)) rest some narrow (omega arith) (λ at. bytes-value at ends bytes rest wide)

tokens-none : (ends : ℕ) → tokens ends [] ≡ End
unfolding first_tokens
tokens-none ends = refl

tokens-again : (ends : ℕ) (fs : List Numbered) → AllByRecursion Fits fs → tokens ends (encoding fs) ≡ placed ends fs
tokens-again ends [] h = tokens-none ends
tokens-again ends (f ∷ fs) h =
    let v = placed_part (offset ends (encoding fs)) f.part in
    tokens-more ends (part_of f.number f.part ++ encoding fs) (record { number = f.number; value = v }) (encoding fs) (part-again ends f.number f.part (encoding fs) h.0.some h.0.number h.0.part)
    ∙ ap (Then f.number v) (tokens-again ends fs h.1)

plain : (levels ends at n : ℕ) (p : Part) (fs : Fields) → fields_within levels ends [] (Then n (placed_part at p) fs) ≡ Then n (placed_part at p) (fields_within levels ends [] fs)
unfolding fields_within
plain levels ends at n (Number v) fs = refl
plain levels ends at n (Bytes bytes) fs = refl

none : (levels ends : ℕ) → fields_within levels ends [] End ≡ End
unfolding fields_within
none levels ends = refl

all_plain : (levels ends : ℕ) (fs : List Numbered) → fields_within levels ends [] (placed ends fs) ≡ placed ends fs
all_plain levels ends [] = none levels ends
all_plain levels ends (f ∷ fs) =
    let at = offset ends (encoding fs) in
    plain levels ends at f.number f.part (placed ends fs) ∙ ap (Then f.number (placed_part at f.part)) (all_plain levels ends fs)

-- the first of encoded fields, and those of the other bytes
pub fields-more : (levels ends n : ℕ) (p : Part) (rest : List ℕ) → 0 < n → n < 2 ^ 29 → IsWide p → fields levels ends (part_of n p ++ rest) ≡ Then n (placed_part (offset ends rest) p) (fields levels ends rest)
fields-more levels ends n p rest some narrow wide =
    ap (fields_within levels ends []) (tokens-more ends (part_of n p ++ rest) (record { number = n; value = placed_part (offset ends rest) p }) rest (part-again ends n p rest some narrow wide))
    ∙ plain levels ends (offset ends rest) n p (tokens ends rest)

pub fields-again : (levels ends : ℕ) (fs : List Numbered) → AllByRecursion Fits fs → fields levels ends (encoding fs) ≡ placed ends fs
fields-again levels ends fs h = ap (fields_within levels ends []) (tokens-again ends fs h) ∙ all_plain levels ends fs
