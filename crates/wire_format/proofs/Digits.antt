-- Varints, digit by digit.
use Rattle.std.proofs.Common.{◌≡◌, ℕ, suc, ◌+◌, ◌*◌, ◌%◌, ◌/◌, ◌^◌, ◌<◌, ◌≤◌, List, ◌∷◌, length, get_or, take, drop, ltb, true, false, Ok, Err, refl, sym, ap, ◌∙◌, arith, add-one, drop-cons}
use Rattle.std.proofs.Math.Nat.{div-add-mod}
use Rattle.std.proofs.lemmas.Bool.{lt-ltb, le-ltb}
use Rattle.std.proofs.lemmas.List.{drop_all}
use Rattle.wire_format.specs.declared.fault.WireFaultKind.TheVariants.{Truncated, LongVarint}
use Rattle.wire_format.specs.Faults.{fault}
use Rattle.wire_format.specs.Varints.{continued, base128, varint}

-- the digits of the number at the front, and its value
abbrev pub digits : List ℕ → List ℕ
digits bytes = take (suc (continued bytes)) bytes

abbrev pub value : List ℕ → ℕ
value bytes = base128 (digits bytes)

-- after i digits that have this value, of which the next counts as much as scale
pub record Partial (bytes : List ℕ) (i sum scale : ℕ) : Type 0 where
  pub count : continued bytes ≡ i + continued (drop i bytes)
  pub same : (sum + scale * value (drop i bytes)) % 2 ^ 64 ≡ value bytes % 2 ^ 64

pub continued-more : (b : ℕ) (bytes : List ℕ) → 128 ≤ b → continued (b ∷ bytes) ≡ suc (continued bytes)
continued-more b bytes h = rw (le-ltb b 128 h) refl

pub continued-last : (b : ℕ) (bytes : List ℕ) → b < 128 → continued (b ∷ bytes) ≡ 0
continued-last b bytes h = rw (lt-ltb b 128 h) refl

value-more : (b : ℕ) (bytes : List ℕ) → 128 ≤ b → value (b ∷ bytes) ≡ b % 128 + 128 * value bytes
value-more b bytes h = rw (continued-more b bytes h) refl

value-last : (b : ℕ) (bytes : List ℕ) → b < 128 → value (b ∷ bytes) ≡ b % 128
value-last b bytes h = rw (continued-last b bytes h) (omega arith)

step : (sum scale c x : ℕ) → ((sum + c * scale % 2 ^ 64) % 2 ^ 64 + (scale * 128 % 2 ^ 64) * x) % 2 ^ 64 ≡ (sum + scale * (c + 128 * x)) % 2 ^ 64
step sum scale c x =
    let q = scale * 128 / 2 ^ 64 in
    let r = scale * 128 % 2 ^ 64 in
    let e : 2 ^ 64 * q + r ≡ scale * 128 = div-add-mod (scale * 128) (2 ^ 64) in
    let f : (2 ^ 64 * q + r) * x ≡ scale * 128 * x = ap (λ n. n * x) e in
    omega arith

pub goes_on : (bytes : List ℕ) (i sum scale : ℕ) → i < length bytes → 128 ≤ get_or bytes i 0 → Partial bytes i sum scale
    → Partial bytes (i + 1) ((sum + get_or bytes i 0 % 128 * scale % 2 ^ 64) % 2 ^ 64) (scale * 128 % 2 ^ 64)
goes_on bytes i sum scale lt h p =
    let b = get_or bytes i 0 in
    let rest = drop (i + 1) bytes in
    let e : drop i bytes ≡ b ∷ rest = rw add-one (drop-cons bytes i 0 lt) in
    let n : continued (drop i bytes) ≡ suc (continued rest) = ap continued e ∙ continued-more b rest h in
    let v : value (drop i bytes) ≡ b % 128 + 128 * value rest = ap value e ∙ value-more b rest h in
    record {
      count = omega (arith, p.count, n);
      same = step sum scale (b % 128) (value rest) ∙ ap (λ w. (sum + scale * w) % 2 ^ 64) (sym v) ∙ p.same;
    }

pub found : (ends : ℕ) (bytes : List ℕ) (i sum scale : ℕ) → i < length bytes → i < 10 → get_or bytes i 0 < 128 → Partial bytes i sum scale
    → varint ends bytes ≡ Ok ((sum + get_or bytes i 0 % 128 * scale % 2 ^ 64) % 2 ^ 64, drop (i + 1) bytes)
unfolding varint
found ends bytes i sum scale lt ten h p =
    let b = get_or bytes i 0 in
    let rest = drop (i + 1) bytes in
    let e : drop i bytes ≡ b ∷ rest = rw add-one (drop-cons bytes i 0 lt) in
    let n : continued (drop i bytes) ≡ 0 = ap continued e ∙ continued-last b rest h in
    let v : value (drop i bytes) ≡ b % 128 = ap value e ∙ value-last b rest h in
    let k : continued bytes ≡ i = omega (arith, p.count, n) in
    let few : ltb 9 (continued bytes) ≡ false = le-ltb _ _ (omega (arith, k)) in
    let inside : ltb (continued bytes) (length bytes) ≡ true = lt-ltb _ _ (omega (arith, k)) in
    let last : (sum + scale * (b % 128)) % 2 ^ 64 ≡ (sum + b % 128 * scale % 2 ^ 64) % 2 ^ 64 = omega arith in
    let same : value bytes % 2 ^ 64 ≡ (sum + b % 128 * scale % 2 ^ 64) % 2 ^ 64 = sym p.same ∙ ap (λ w. (sum + scale * w) % 2 ^ 64) v ∙ last in
    let after : drop (suc (continued bytes)) bytes ≡ drop (i + 1) bytes = rw (k, add-one) refl in
    rw (few, inside, same, after) refl

pub begins : (bytes : List ℕ) → Partial bytes 0 0 1
begins bytes =
    let one : 0 + 1 * value bytes ≡ value bytes = omega arith in
    record { count = omega arith; same = ap (λ n. n % 2 ^ 64) one }

pub too_long : (ends : ℕ) (bytes : List ℕ) (i sum scale : ℕ) → 10 ≤ i → Partial bytes i sum scale → varint ends bytes ≡ Err (fault LongVarint ends bytes)
unfolding varint
too_long ends bytes i sum scale h p =
    let many : ltb 9 (continued bytes) ≡ true = lt-ltb _ _ (omega (arith, p.count)) in
    rw many refl

-- without a last digit
none-past : (bytes : List ℕ) (i : ℕ) → length bytes ≤ i → continued (drop i bytes) ≡ 0
none-past bytes i h = rw (drop_all i bytes h) refl

pub ended : (ends : ℕ) (bytes : List ℕ) (i sum scale : ℕ) → i < 10 → length bytes ≤ i → Partial bytes i sum scale → varint ends bytes ≡ Err (fault Truncated ends bytes)
unfolding varint
ended ends bytes i sum scale ten h p =
    let none = none-past bytes i h in
    let few : ltb 9 (continued bytes) ≡ false = le-ltb _ _ (omega (arith, p.count, none)) in
    let outside : ltb (continued bytes) (length bytes) ≡ false = le-ltb _ _ (omega (arith, p.count, none)) in
    rw (few, outside) refl
