-- A number by which texts are told apart at first sight.
use Rattle.std.specs.Prelude.{ℕ, zero, suc, ◌+◌, ◌-◌, ◌*◌, ◌/◌, ◌%◌, ◌^◌, bit_xor}
use Rattle.std.specs.Prelude.{List, [], ◌∷◌, length, take, drop, nat_lt, if◌then◌else◌}
use Rattle.std.specs.Int.{w32, w64, from_le_bytes}

-- a digest with one number more
abbrev pub taken_in : ℕ → ℕ → ℕ
taken_in digest number =
    let product = bit_xor digest number * 11400714819323198485 % 2 ^ 64 in
    bit_xor product (product / 2 ^ 32)

-- a digest with further bytes, one at a time
abbrev pub digest_from : ℕ → List ℕ → ℕ
digest_from digest [] = digest
digest_from digest (byte ∷ bytes) = digest_from (taken_in digest byte) bytes

-- a digest with the first words of a text, each of eight bytes
abbrev pub with_words : ℕ → ℕ → List ℕ → ℕ
with_words zero digest text = digest
with_words (suc words) digest text =
    with_words words (taken_in digest (from_le_bytes w64 (take 8 text))) (drop 8 text)

-- the first four bytes of a text, and its last four above them, as one number
abbrev pub both_ends : List ℕ → ℕ
both_ends text =
    from_le_bytes w32 (drop (length text - 4) text) * 2 ^ 32 + from_le_bytes w32 (take 4 text)

-- a digest with the last eight bytes of a text; of a text that has fewer, with its first and its
-- last four, or with each byte where there are three at most
abbrev pub with_ending : ℕ → List ℕ → ℕ
with_ending digest text =
    if nat_lt (length text) 4 then digest_from digest text else
    if nat_lt (length text) 8 then taken_in digest (both_ends text) else
    taken_in digest (from_le_bytes w64 (drop (length text - 8) text))

-- the digest of a text behind others with a digest: its length, its words and its ending
abbrev pub digest_after : ℕ → List ℕ → ℕ
digest_after front text =
    with_ending (with_words (length text / 8) (bit_xor front (length text)) text) text

-- the high half of the digest of a text behind no other
abbrev pub digest_of : List ℕ → ℕ
digest_of text = digest_after 0 text / 2 ^ 32
