-- Words of bytes none of which has its high bit.
use Rattle.std.proofs.Common.{◌≡◌, ℕ, zero, suc, ◌+◌, ◌-◌, ◌*◌, ◌/◌, ◌%◌, ◌^◌, ◌<◌, ◌≤◌, List, get_or, eqb, IsTrue, min, Fits, w8, refl, sym, ap, ◌∙◌, subst, arith}
use Rattle.std.specs.Int.{bit_at}
use Rattle.std.specs.Int.Bits.{bit_and}
use Rattle.std.proofs.Math.Facts.{Fits-lt-pow}
use Rattle.std.proofs.lemmas.Bool.{eqb-true}
use Rattle.std.proofs.lemmas.Nat.Bits.{bit_at_and, bit_at-zero}

lesser : (m n : ℕ) → min m n ≡ 0 → n ≡ 1 → m ≡ 0
lesser m n none one = grind (arith, none, one)

-- a bit that a mask keeps, where all that it keeps are 0
clear : (w m i : ℕ) → bit_and w m ≡ 0 → bit_at m i ≡ 1 → bit_at w i ≡ 0
clear w m i none kept = lesser _ _ (sym (bit_at_and w m i) ∙ ap (λ n. bit_at n i) none ∙ bit_at-zero i) kept

-- what bytes of a list are, each one of eight bits
abbrev pub AreBytes : List ℕ → Type 0
AreBytes xs = (i : ℕ) → Fits w8 (get_or xs i 0)

byte : (xs : List ℕ) → AreBytes xs → (i : ℕ) → get_or xs i 0 < 256
byte xs small i = Fits-lt-pow (small i)

-- a property of the positions from one on
from : (P : ℕ → Type 0) (at i : ℕ) → at ≤ i → P (at + (i - at)) → P i
from P at i lo h = let same : at + (i - at) ≡ i = omega (arith, lo) in subst P same h

below4 : (P : ℕ → Type 0) → P 0 → P 1 → P 2 → P 3 → (d : ℕ) → d < 4 → P d
below4 P a b c d zero h = a
below4 P a b c d (suc zero) h = b
below4 P a b c d (suc (suc zero)) h = c
below4 P a b c d (suc (suc (suc zero))) h = d
below4 P a b c d (suc (suc (suc (suc n)))) h = absurd (omega (arith, h))

pub four-low : (xs : List ℕ) (at w : ℕ) → AreBytes xs
    → w ≡ get_or xs at 0 + get_or xs (at + 1) 0 * 256 + get_or xs (at + 2) 0 * 65536 + get_or xs (at + 3) 0 * 16777216
    → IsTrue (eqb (bit_and w 0x8080_8080) 0) → (i : ℕ) → at ≤ i → i < at + 4 → get_or xs i 0 < 128
four-low xs at w small made t i lo hi =
    let none : bit_and w 0x8080_8080 ≡ 0 = eqb-true _ _ t in
    let a = byte xs small at in
    let b = byte xs small (at + 1) in
    let c = byte xs small (at + 2) in
    let d = byte xs small (at + 3) in
    let bit7 : w / 2 ^ 7 % 2 ≡ 0 = clear w 0x8080_8080 7 none refl in
    let bit15 : w / 2 ^ 15 % 2 ≡ 0 = clear w 0x8080_8080 15 none refl in
    let bit23 : w / 2 ^ 23 % 2 ≡ 0 = clear w 0x8080_8080 23 none refl in
    let bit31 : w / 2 ^ 31 % 2 ≡ 0 = clear w 0x8080_8080 31 none refl in
    let first : get_or xs at 0 < 128 = omega (arith, made, a, bit7) in
    let same : at ≡ at + 0 = omega arith in
    from (λ k. get_or xs k 0 < 128) at i lo
    (below4 (λ k. get_or xs (at + k) 0 < 128) (subst (λ k. get_or xs k 0 < 128) same first) (omega (arith, made, a, b, bit15)) (omega (arith, made, a, b, c, bit23)) (omega (arith, made, a, b, c, d, bit31)) (i - at) (omega (arith, lo, hi)))

below8 : (P : ℕ → Type 0) → P 0 → P 1 → P 2 → P 3 → P 4 → P 5 → P 6 → P 7 → (d : ℕ) → d < 8 → P d
below8 P a b c d e f g k zero h = a
below8 P a b c d e f g k (suc zero) h = b
below8 P a b c d e f g k (suc (suc zero)) h = c
below8 P a b c d e f g k (suc (suc (suc zero))) h = d
below8 P a b c d e f g k (suc (suc (suc (suc zero)))) h = e
below8 P a b c d e f g k (suc (suc (suc (suc (suc zero))))) h = f
below8 P a b c d e f g k (suc (suc (suc (suc (suc (suc zero)))))) h = g
below8 P a b c d e f g k (suc (suc (suc (suc (suc (suc (suc zero))))))) h = k
below8 P a b c d e f g k (suc (suc (suc (suc (suc (suc (suc (suc n)))))))) h = absurd (omega (arith, h))

pub eight-low : (xs : List ℕ) (at w : ℕ) → AreBytes xs
    → w ≡ get_or xs at 0 + get_or xs (at + 1) 0 * 256 + get_or xs (at + 2) 0 * 65536 + get_or xs (at + 3) 0 * 16777216
    + get_or xs (at + 4) 0 * 4294967296 + get_or xs (at + 5) 0 * 1099511627776 + get_or xs (at + 6) 0 * 281474976710656 + get_or xs (at + 7) 0 * 72057594037927936
    → IsTrue (eqb (bit_and w 0x8080_8080_8080_8080) 0) → (i : ℕ) → at ≤ i → i < at + 8 → get_or xs i 0 < 128
eight-low xs at w small made t i lo hi =
    let m : ℕ = 0x8080_8080_8080_8080 in
    let none : bit_and w m ≡ 0 = eqb-true _ _ t in
    let a = byte xs small at in
    let b = byte xs small (at + 1) in
    let c = byte xs small (at + 2) in
    let d = byte xs small (at + 3) in
    let e = byte xs small (at + 4) in
    let f = byte xs small (at + 5) in
    let g = byte xs small (at + 6) in
    let h = byte xs small (at + 7) in
    let bit7 : w / 2 ^ 7 % 2 ≡ 0 = clear w m 7 none refl in
    let bit15 : w / 2 ^ 15 % 2 ≡ 0 = clear w m 15 none refl in
    let bit23 : w / 2 ^ 23 % 2 ≡ 0 = clear w m 23 none refl in
    let bit31 : w / 2 ^ 31 % 2 ≡ 0 = clear w m 31 none refl in
    let bit39 : w / 2 ^ 39 % 2 ≡ 0 = clear w m 39 none refl in
    let bit47 : w / 2 ^ 47 % 2 ≡ 0 = clear w m 47 none refl in
    let bit55 : w / 2 ^ 55 % 2 ≡ 0 = clear w m 55 none refl in
    let bit63 : w / 2 ^ 63 % 2 ≡ 0 = clear w m 63 none refl in
    let first : get_or xs at 0 < 128 = omega (arith, made, a, bit7) in
    let same : at ≡ at + 0 = omega arith in
    from (λ k. get_or xs k 0 < 128) at i lo
    (below8 (λ k. get_or xs (at + k) 0 < 128) (subst (λ k. get_or xs k 0 < 128) same first) (omega (arith, made, a, b, bit15)) (omega (arith, made, a, b, c, bit23)) (omega (arith, made, a, b, c, d, bit31))
    (omega (arith, made, a, b, c, d, e, bit39)) (omega (arith, made, a, b, c, d, e, f, bit47)) (omega (arith, made, a, b, c, d, e, f, g, bit55)) (omega (arith, made, a, b, c, d, e, f, g, h, bit63)) (i - at) (omega (arith, lo, hi)))
