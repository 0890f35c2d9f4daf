-- Fields whose tag has one byte, and whose number or length has one.
use Rattle.std.proofs.Common.{◌≡◌, ℕ, ◌+◌, ◌-◌, ◌*◌, ◌%◌, ◌/◌, ◌^◌, ◌<◌, ◌≤◌, List, [], ◌∷◌, length, get_or, take, drop, ltb, true, false, Ok, refl, ap, arith}
use Rattle.std.proofs.lemmas.Bool.{lt-ltb, le-ltb}
use Rattle.std.proofs.lemmas.List.{take_all}
use Rattle.wire_format.specs.Faults.{offset}
use Rattle.wire_format.specs.Varints.{varint, tag}
use Rattle.wire_format.specs.Tokens.{Varint, Len, delimited, value, token}
use Rattle.wire_format.specs.Fields.{Then, fields_within, fields}
use Rattle.wire_format.proofs.Digits.{continued-last}
use Rattle.wire_format.proofs.Steps.{tokens-more}

varint_short : (ends b : ℕ) (rest : List ℕ) → b < 128 → varint ends (b ∷ rest) ≡ Ok (b, rest)
unfolding varint
varint_short ends b rest h =
    let same : (b % 128 + 128 * 0) % 2 ^ 64 ≡ b = omega arith in
    let inside : ltb 0 (length (b ∷ rest)) ≡ true = lt-ltb _ _ (omega arith) in
    rw (continued-last b rest h, same, inside) refl

tag_short : (ends t : ℕ) (rest : List ℕ) → 8 ≤ t → t < 128 → tag ends (t ∷ rest) ≡ Ok (t, rest)
unfolding tag
tag_short ends t rest some h =
    let narrow : ltb t (2 ^ 32) ≡ true = lt-ltb _ _ (omega arith) in
    let few : ltb 5 (length (t ∷ rest) - length rest) ≡ false = le-ltb _ _ (omega arith) in
    let no_zero : ltb t 8 ≡ false = le-ltb _ _ some in
    rw (varint_short ends t rest h, narrow, few, no_zero) refl

-- what is behind two bytes
all_behind : (t n : ℕ) (rest : List ℕ) → take (length (t ∷ n ∷ rest) - 2) rest ≡ rest
all_behind t n rest = take_all _ rest (omega arith)

-- a number of one byte
token_of_number : (ends : ℕ) (bytes : List ℕ) → 2 ≤ length bytes → 8 ≤ get_or bytes 0 0 → get_or bytes 0 0 < 128 → get_or bytes 1 0 < 128 → get_or bytes 0 0 % 8 ≡ 0
    → token ends bytes ≡ Ok (record { number = get_or bytes 0 0 / 8; value = Varint (get_or bytes 1 0) }, take (length bytes - 2) (drop 2 bytes))
unfolding token value
token_of_number ends [] long some h k wire = absurd (omega arith)
token_of_number ends (t ∷ []) long some h k wire = absurd (omega arith)
token_of_number ends (t ∷ n ∷ rest) long some h k wire =
    rw (all_behind t n rest, tag_short ends t (n ∷ rest) some h, wire, varint_short ends n rest k) refl

-- bytes whose length has one byte
token_of_bytes : (ends : ℕ) (bytes : List ℕ) → 2 ≤ length bytes → 8 ≤ get_or bytes 0 0 → get_or bytes 0 0 < 128 → get_or bytes 1 0 < 128 → get_or bytes 0 0 % 8 ≡ 2
    → let n = get_or bytes 1 0 in let rest = take (length bytes - 2) (drop 2 bytes) in n ≤ length rest
    → token ends bytes ≡ Ok (record { number = get_or bytes 0 0 / 8; value = Len (take n rest) (offset ends (drop n rest)) }, drop n rest)
unfolding token value delimited
token_of_bytes ends [] long some h k wire le = absurd (omega arith)
token_of_bytes ends (t ∷ []) long some h k wire le = absurd (omega arith)
token_of_bytes ends (t ∷ n ∷ rest) long some h k wire le =
    let inside : n ≤ length rest = rw (all_behind t n rest) at le in
    rw (all_behind t n rest, tag_short ends t (n ∷ rest) some h, wire, varint_short ends n rest k, le-ltb (length rest) n inside) refl

-- the first field and those of the other bytes
pub field_of_number : (levels ends : ℕ) (bytes : List ℕ) → 2 ≤ length bytes → 8 ≤ get_or bytes 0 0 → get_or bytes 0 0 < 128 → get_or bytes 1 0 < 128 → get_or bytes 0 0 % 8 ≡ 0
    → fields levels ends bytes ≡ Then (get_or bytes 0 0 / 8) (Varint (get_or bytes 1 0)) (fields levels ends (take (length bytes - 2) (drop 2 bytes)))
unfolding fields_within
field_of_number levels ends bytes long some h k wire =
    ap (fields_within levels ends []) (tokens-more ends bytes _ _ (token_of_number ends bytes long some h k wire))

pub field_of_bytes : (levels ends : ℕ) (bytes : List ℕ) → 2 ≤ length bytes → 8 ≤ get_or bytes 0 0 → get_or bytes 0 0 < 128 → get_or bytes 1 0 < 128 → get_or bytes 0 0 % 8 ≡ 2
    → let n = get_or bytes 1 0 in let rest = take (length bytes - 2) (drop 2 bytes) in n ≤ length rest
    → fields levels ends bytes ≡ Then (get_or bytes 0 0 / 8) (Len (take n rest) (offset ends (drop n rest))) (fields levels ends (drop n rest))
unfolding fields_within
field_of_bytes levels ends bytes long some h k wire le =
    ap (fields_within levels ends []) (tokens-more ends bytes _ _ (token_of_bytes ends bytes long some h k wire le))
