-- A name has the digest of its key.
use Rattle.std.proofs.Common.{◌≡◌, ℕ, ◌+◌, ◌*◌, ◌%◌, ◌^◌, ◌==◌, Bool, true, false, not, cond, nat_lt, bit_xor, List, [], ◌∷◌, filter, map, refl, ap, sym, ◌∙◌, arith}
use Rattle.std.proofs.lemmas.Bool.Decides.{nat_tests}
use Rattle.std.specs.Char.{to_ascii_lowercase}
use Rattle.name_pass.specs.CamelCase.{camel_case_key}
use Rattle.name_pass.specs.KeyDigests.{digest_from, taken_in}

-- both cases of a letter have the last five bits of a byte
lowered : (byte : ℕ) → to_ascii_lowercase byte % 32 ≡ byte % 32
lowered byte = by (nat_lt byte 65) (nat_lt byte 91) refl refl
  where
    by : (small upper : Bool) → nat_lt byte 65 ≡ small → nat_lt byte 91 ≡ upper → cond small byte (cond upper (byte + 32) byte) % 32 ≡ byte % 32
    by true upper is also = refl
    by false true is also = omega arith
    by false false is also = refl

-- so it is taken in alike
taken-lowered : (digest byte : ℕ) → taken_in digest (to_ascii_lowercase byte) ≡ taken_in digest byte
taken-lowered digest byte = ap (λ digit. cond (digit == 31) digest (bit_xor digest digit * 1099511628211 % 2 ^ 64)) (lowered byte)

-- an underscore changes nothing
taken-underscore : (digest byte : ℕ) → byte == 95 ≡ true → taken_in digest byte ≡ digest
taken-underscore digest byte is = let same : byte ≡ 95 = grind (arith, nat_tests) in ap (taken_in digest) same

-- one byte more
key-next : (byte digest : ℕ) (name : List ℕ) (b : Bool) → byte == 95 ≡ b → ((d : ℕ) → digest_from d (camel_case_key name) ≡ digest_from d name)
    → digest_from digest (map to_ascii_lowercase (cond (not b) (byte ∷ filter (λ c. not (c == 95)) name) (filter (λ c. not (c == 95)) name))) ≡ digest_from (taken_in digest byte) name
key-next byte digest name true is rest = rest digest ∙ ap (λ d. digest_from d name) (sym (taken-underscore digest byte is))
key-next byte digest name false is rest = ap (λ d. digest_from d (camel_case_key name)) (taken-lowered digest byte) ∙ rest (taken_in digest byte)

-- a name has the digest of its key
pub digest-key : (name : List ℕ) (digest : ℕ) → digest_from digest (camel_case_key name) ≡ digest_from digest name
digest-key [] digest = refl
digest-key (byte ∷ name) digest = key-next byte digest name (byte == 95) refl (digest-key name)
