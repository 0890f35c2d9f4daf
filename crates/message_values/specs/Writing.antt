-- What a writer of a schema writes of a message: values of its fields, with the numbers that their
-- kinds have. It may pass on unknown values, with the numbers that it is allowed besides.
use Rattle.std.specs.Prelude.{◌≡◌, ◌≢◌, ℕ, zero, suc, ℤ, Bool, true, List, [], Option, None, Some}
use Rattle.std.specs.Prelude.{⊤, ◌==◌}
use Rattle.std.specs.List.{AllByRecursion, list_any}
use Rattle.message_values.specs.Values.{Value, Bytes, Group, Numbered, values}
use Rattle.message_values.specs.Schema.{Schema, Kind, Field, Required}
use Rattle.message_values.specs.Numbers.{Coding, Form, form, has_number, encoded, raw, packed}
use Rattle.message_values.specs.Numbers as form
use Rattle.message_values.specs.Fields.{has_text, is_repeated, in_one, value}
use Rattle.message_values.specs.Reading.{Fact, TooDeep, OfMessages}

-- a number of a kind, as it is encoded
pub record IsNumber (s : Schema) (k : Kind) (c : Coding) (n : ℕ) : Type 0 where
  pub number : ℤ
  pub has : has_number s k number ≡ true
  pub encoding : n ≡ encoded c number

-- packed numbers of a kind
pub record ArePacked (s : Schema) (k : Kind) (c : Coding) (bytes : List ℕ) : Type 0 where
  pub numbers : List ℕ
  pub are : packed c bytes ≡ Some numbers
  pub each : AllByRecursion (IsNumber s k c) numbers

-- a value that is no number of a field is its packed numbers, where it is repeated
abbrev pub IsOther : Schema → Field → Coding → Value → Type 0
IsOther s f c (Bytes bytes) = (is_repeated f.cardinality ≡ true) × ArePacked s f.kind c bytes
IsOther s f c _ = ⊥

-- a value of a field of numbers, by the number that it is, if it is one
abbrev pub IsNumberValue : Schema → Field → Coding → Value → Option ℕ → Type 0
IsNumberValue s f c v (Some n) = IsNumber s f.kind c n
IsNumberValue s f c v None = IsOther s f c v

-- a value of a form
abbrev pub IsValueAs : Schema → Field → Form → Value → Type 0
IsValueAs s f (form.Number c) v = IsNumberValue s f c v (raw c v)
IsValueAs s f form.Text (Bytes bytes) = has_text f.kind bytes ≡ true
IsValueAs s f form.Text _ = ⊥
IsValueAs s f (form.Message m) (Bytes bytes) = (vs : List Numbered) × (values bytes ≡ Some vs)
IsValueAs s f (form.Message m) _ = ⊥
IsValueAs s f (form.Group m) (Group vs) = ⊤
IsValueAs s f (form.Group m) _ = ⊥

-- a value of a field
unfoldable pub IsValue : Schema → Field → Value → Type 0
IsValue s f v = IsValueAs s f (form f.kind) v

-- numbers that values of a message may have besides those of its fields
abbrev pub Besides : Type 0
Besides = ℕ → ℕ → Bool

-- a value of a field, or of a number besides
abbrev pub IsValueOf : Schema → Bool → Option Field → Value → Type 0
IsValueOf s besides None v = besides ≡ true
IsValueOf s besides (Some f) v = IsValue s f v

-- whether a number occurs
abbrev pub occurs : ℕ → List Numbered → Bool
occurs n vs = list_any (λ x. x.number == n) vs

-- The numbered values are a message of a schema as it is written: each is one of a field, or of a
-- number besides; of the fields of a oneof one occurs at most, and no required field is missing.
pub record IsWrittenOver (inner : Fact) (s : Schema) (besides : Besides) (m : ℕ)
    (vs : List Numbered) : Type 0 where
  pub known : AllByRecursion (λ x. IsValueOf s (besides m x.number) (s.field m x.number) x.value) vs
  pub oneofs : (n k : ℕ) (f g : Field) → s.field m n ≡ Some f → s.field m k ≡ Some g
      → in_one f.oneof g.oneof ≡ true → occurs n vs ≡ true → occurs k vs ≡ true → n ≡ k
  pub required : (n : ℕ) (f : Field) → s.field m n ≡ Some f → f.cardinality ≡ Required
      → value s m n f vs ≢ []
  pub within : (n : ℕ) (f : Field) → s.field m n ≡ Some f
      → OfMessages inner f.kind (value s m n f vs)

-- the numbered values are a message as a schema writes it, and so are the messages in it, down to
-- as many levels as are left
unfoldable pub IsWritten : Schema → Besides → ℕ → Fact
IsWritten s besides zero = IsWrittenOver TooDeep s besides
IsWritten s besides (suc levels) = IsWrittenOver (IsWritten s besides levels) s besides
