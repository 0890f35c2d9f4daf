-- Fields, as they are put in front of bytes.
use Rattle.std.specs.Prelude.{◌≡◌, ℕ, List, Result, OnOk}
use Rattle.wire_format.specs.Encoding.{Numbered, Number, Bytes, encoding}
use Rattle.descriptor_encoding.specs.Fronts.{Front, in_front}

-- a field whose value is a number
abbrev pub number_field : ℕ → ℕ → Numbered
number_field n x = record { number = n; part = Number x }

-- a field whose value is bytes with their length
abbrev pub bytes_field : ℕ → List ℕ → Numbered
bytes_field n bytes = record { number = n; part = Bytes bytes }

-- these fields were put in front of the bytes, unless memory was refused
abbrev pub Puts : {A E : Type 0} → Result A E → Front → Front → List Numbered → Type 0
Puts result before after fs = OnOk result (after ≡ in_front (encoding fs) before)
