-- Packed numbers: varints, one behind the other.
use Rattle.std.specs.Prelude.{◌≡◌, ℕ, zero, suc, List, [], ◌∷◌, length, Option, None, Some, Result}
use Rattle.std.specs.Prelude.{Ok, Err}
use Rattle.wire_format.specs.declared.fault.WireFault.{WireFault}
use Rattle.wire_format.specs.Reading.{◌>>=◌}
use Rattle.wire_format.specs.Varints.{varint}

-- a number in front of others
abbrev pub with_number : Result (ℕ × List ℕ) WireFault → (List ℕ → Result (List ℕ) WireFault)
    → Result (List ℕ) WireFault
with_number read others = read >>= λ x. others x.1 >>= λ ns. Ok (x.0 ∷ ns)

-- at most so many numbers
unfoldable pub first_numbers : ℕ → ℕ → List ℕ → Result (List ℕ) WireFault
first_numbers n ends [] = Ok []
first_numbers zero ends (b ∷ bytes) = Ok []
first_numbers (suc n) ends (b ∷ bytes) =
    with_number (varint ends (b ∷ bytes)) (first_numbers n ends)

-- all numbers of bytes that end at an offset of the input: each has a byte or more
abbrev pub numbers : ℕ → List ℕ → Result (List ℕ) WireFault
numbers ends bytes = first_numbers (length bytes) ends bytes

-- What a function returned, seen by view, is the first number and those of the other bytes.
abbrev pub IsFirstNumber : {X : Type 0} → (X → ℕ × List ℕ) → (List ℕ → Result (List ℕ) WireFault)
    → Result (Option X) WireFault → Result (List ℕ) WireFault → Type 0
IsFirstNumber view others (Ok None) all = all ≡ Ok []
IsFirstNumber view others (Ok (Some x)) all =
    all ≡ (others (view x).1 >>= λ ns. Ok ((view x).0 ∷ ns))
IsFirstNumber view others (Err f) all = all ≡ Err f
