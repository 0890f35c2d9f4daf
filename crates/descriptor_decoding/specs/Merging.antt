-- A message is what its fields make of an empty one, one after the other.
use Rattle.std.specs.Prelude.{◌≡◌, ℕ, zero, suc, List, [], ◌∷◌, Option, None, Some, Result, Ok, Err}
use Rattle.std.specs.Prelude.{◌==◌, if◌then◌else◌}
use Rattle.wire_format.specs.declared.fault.WireFault.{WireFault}
use Rattle.descriptor_decoding.specs.declared.error.DecodeError.{DecodeError}
use Rattle.descriptor_decoding.specs.declared.error.DecodeError.TheVariants as error
use Rattle.wire_format.specs.Reading.{◌>>=◌}
use Rattle.wire_format.specs.Tokens.{Value}
use Rattle.wire_format.specs.Fields.{Fields, End, Broken, Then, fields}

-- what a field, by its number and value, makes of a message, or the first fault
abbrev pub Merge : Type 0 → Type 0
Merge M = ℕ → Value → M → Result M WireFault

-- what fields make of a message, or the first fault
abbrev pub merged_all : {M : Type 0} → Merge M → Fields → M → Result M WireFault
merged_all merge End m = Ok m
merged_all merge (Broken f) m = Err f
merged_all merge (Then n v fs) m = merge n v m >>= merged_all merge fs

-- what bytes make of a message, by their end's offset in the input
abbrev pub Reader : Type 0 → Type 0
Reader M = ℕ → List ℕ → M → Result M WireFault

-- what the fields that bytes say make of a message in which so many levels may lie
abbrev pub merged_from : {M : Type 0} → ℕ → Merge M → Reader M
merged_from levels merge ends bytes m = merged_all merge (fields levels ends bytes) m

-- what the row of a field's number says; a number with no row is unknown, and changes nothing
abbrev pub by_number : {M : Type 0} → ℕ → M → List (ℕ × Result M WireFault) → Result M WireFault
by_number n m [] = Ok m
by_number n m (row ∷ rows) = if n == row.0 then row.1 else by_number n m rows

-- a part that was read, put into its message
abbrev pub put : {A M : Type 0} → Result A WireFault → (A → M) → Result M WireFault
put read into = read >>= λ x. Ok (into x)

-- a field's number, and what its value makes of the message
abbrev pub row : {A M : Type 0} → ℕ → Result A WireFault → (A → M) → ℕ × Result M WireFault
row n read into = (n, put read into)

-- an error is the fault of a result, or memory ran out
abbrev pub Fails : {M : Type 0} → DecodeError → Result M WireFault → Type 0
Fails error.OutOfMemory r = Unit {0}
Fails (error.Fault f) r = r ≡ Err f

-- What a function returned and left is a result, unless memory ran out.
abbrev pub Leaves : {X M : Type 0} → Result X DecodeError → M → Result M WireFault → Type 0
Leaves (Ok x) m r = r ≡ Ok m
Leaves (Err e) m r = Fails e r

-- What a function returned is a result, unless memory ran out.
abbrev pub Gives : {M : Type 0} → Result M DecodeError → Result M WireFault → Type 0
Gives (Ok m) r = r ≡ Ok m
Gives (Err e) r = Fails e r

-- what is read one level further in, where a level is left
abbrev pub within : {M : Type 0} → ℕ → (ℕ → Merge M) → Option (Reader M)
within zero merged = None
within (suc levels) merged = Some (merged_from levels (merged levels))
