-- The fields that a part of a message is encoded as.
use Rattle.std.specs.Prelude.{ℕ, ℤ, Bool, List, [], ◌∷◌, ◌++◌, Option, None, Some, if◌then◌else◌}
use Rattle.std.specs.Int.{w64, cast_unsigned}
use Rattle.wire_format.specs.Encoding.{Numbered, varint_of, encoding}
use Rattle.descriptor_encoding.specs.Wire.{number_field, bytes_field}
use Rattle.proto_types.specs.declared.records.options.Options.{Options}

-- a number as 64 bits, in two's complement
abbrev pub bits : ℤ → ℕ
bits x = cast_unsigned w64 x

-- the fields of a number that may be missing
abbrev pub int32_listed : ℕ → Option ℤ → List Numbered
int32_listed n None = []
int32_listed n (Some x) = number_field n (bits x) ∷ []

-- the fields of a truth value that may be missing
abbrev pub bool_listed : ℕ → Option Bool → List Numbered
bool_listed n None = []
bool_listed n (Some b) = number_field n (if b then 1 else 0) ∷ []

-- the fields of a text that may be missing
abbrev pub text_listed : ℕ → Option (List ℕ) → List Numbered
text_listed n None = []
text_listed n (Some bytes) = bytes_field n bytes ∷ []

-- the fields of options that may be missing: the bytes that they were read from
abbrev pub options_listed : {T : Type 0} → ℕ → Option (Options T) → List Numbered
options_listed n None = []
options_listed n (Some o) = bytes_field n o.encoded ∷ []

-- the fields of repeated texts
abbrev pub texts_listed : ℕ → List (List ℕ) → List Numbered
texts_listed n [] = []
texts_listed n (t ∷ ts) = bytes_field n t ∷ texts_listed n ts

-- the fields of repeated numbers that are not packed
abbrev pub int32s_listed : ℕ → List ℤ → List Numbered
int32s_listed n [] = []
int32s_listed n (x ∷ xs) = number_field n (bits x) ∷ int32s_listed n xs

-- numbers one behind the other
abbrev pub packed : List ℤ → List ℕ
packed [] = []
packed (x ∷ xs) = varint_of (bits x) ++ packed xs

-- the fields of repeated numbers that are packed
abbrev pub packed_listed : ℕ → List ℤ → List Numbered
packed_listed n [] = []
packed_listed n (x ∷ xs) = bytes_field n (packed (x ∷ xs)) ∷ []

-- a message, by the fields that it is encoded as
abbrev pub message_listed : {M : Type 0} → (M → List Numbered) → ℕ → Option M → List Numbered
message_listed listed n None = []
message_listed listed n (Some m) = bytes_field n (encoding (listed m)) ∷ []

-- the fields of repeated messages, each by the fields that it is encoded as
abbrev pub messages_listed : ℕ → List (List Numbered) → List Numbered
messages_listed n [] = []
messages_listed n (fs ∷ fss) = bytes_field n (encoding fs) ∷ messages_listed n fss
