-- Packed numbers one after the other.
use Rattle.std.proofs.Common.{◌≡◌, ℕ, zero, suc, ◌<◌, ◌≤◌, List, [], ◌∷◌, length, true, false, eqb, Result, Ok, Err, refl, ap, ◌∙◌, arith}
use Rattle.std.proofs.lemmas.Bool.{eqb-true}
use Rattle.wire_format.specs.declared.fault.WireFault.{WireFault}
use Rattle.wire_format.specs.Reading.{◌>>=◌}
use Rattle.wire_format.specs.Varints.{varint}
use Rattle.wire_format.specs.Packed.{with_number, first_numbers, numbers}
use Rattle.wire_format.proofs.Shorter.{if_read, varint-shorter}

both : (r : Result (ℕ × List ℕ) WireFault) (f g : List ℕ → Result (List ℕ) WireFault) → ((x : ℕ × List ℕ) → r ≡ Ok x → f x.1 ≡ g x.1) → with_number r f ≡ with_number r g
both (Ok x) f g h = ap (λ r. r >>= λ ns. Ok (x.0 ∷ ns)) (h x refl)
both (Err e) f g h = refl

enough : (n m ends : ℕ) (bytes : List ℕ) → length bytes ≤ n → length bytes ≤ m → first_numbers n ends bytes ≡ first_numbers m ends bytes
unfolding first_numbers
enough n m ends [] h k = refl
enough zero m ends (b ∷ bytes) h k = absurd (omega arith)
enough (suc n) zero ends (b ∷ bytes) h k = absurd (omega arith)
enough (suc n) (suc m) ends (b ∷ bytes) h k =
    both (varint ends (b ∷ bytes)) (first_numbers n ends) (first_numbers m ends)
    (λ x e. let lt = if_read (varint ends (b ∷ bytes)) (λ (y : ℕ × List ℕ). length y.1 < suc (length bytes)) x e (varint-shorter ends (b ∷ bytes)) in enough n m ends x.1 (omega (arith, lt)) (omega (arith, lt)))

pub shorter : (ends : ℕ) (bytes : List ℕ) (n : ℕ) (rest : List ℕ) → varint ends bytes ≡ Ok (n, rest) → length rest < length bytes
shorter ends bytes n rest e = if_read (varint ends bytes) (λ (y : ℕ × List ℕ). length y.1 < length bytes) (n, rest) e (varint-shorter ends bytes)

pub numbers-more : (ends : ℕ) (bytes : List ℕ) (n : ℕ) (rest : List ℕ) → varint ends bytes ≡ Ok (n, rest) → numbers ends bytes ≡ (numbers ends rest >>= λ ns. Ok (n ∷ ns))
unfolding first_numbers
numbers-more ends [] n rest e = absurd (omega (arith, shorter ends [] n rest e))
numbers-more ends (b ∷ bytes) n rest e =
    let lt = shorter ends (b ∷ bytes) n rest e in
    ap (λ r. with_number r (first_numbers (length bytes) ends)) e
    ∙ ap (λ (r : Result (List ℕ) WireFault). r >>= λ ns. Ok (n ∷ ns)) (enough (length bytes) (length rest) ends rest (omega (arith, lt)) (omega arith))

pub numbers-none : (ends : ℕ) (bytes : List ℕ) → eqb (length bytes) 0 ≡ true → numbers ends bytes ≡ Ok []
unfolding first_numbers
numbers-none ends [] e = refl
numbers-none ends (b ∷ bytes) e = absurd (omega (arith, eqb-true (suc (length bytes)) 0 e))

pub numbers-broken : (ends : ℕ) (bytes : List ℕ) (f : WireFault) → eqb (length bytes) 0 ≡ false → varint ends bytes ≡ Err f → numbers ends bytes ≡ Err f
unfolding first_numbers
numbers-broken ends [] f some e = absurd cc
numbers-broken ends (b ∷ bytes) f some e = ap (λ r. with_number r (first_numbers (length bytes) ends)) e
