-- Changes of schemas by which something is lost, each by the least schemas that show it.
use Rattle.std.specs.Prelude.{◌≡◌, ℕ, ℤ, pos, Bool, true, false, List, [], ◌∷◌, ◌++◌, Option, None}
use Rattle.std.specs.Prelude.{Some, ◌==◌, if◌then◌else◌}
use Rattle.std.specs.List.{AllByRecursion}
use Rattle.std.specs.Ordering.{int_eq}
use Rattle.std.specs.Str.{is_utf8}
use Rattle.message_values.specs.Values.{Numbered}
use Rattle.message_values.specs.Schema.{Schema, Kind, Field, Optional, Required, Repeated}
use Rattle.message_values.specs.Schema as kind
use Rattle.message_values.specs.Reading.{IsRead}
use Rattle.message_values.specs.Writing.{IsWritten}
use Rattle.message_values.specs.Kept.{KeepsAll}
use Rattle.message_values.specs.Carried.{AreCarried}

-- an old schema writes a message, of some levels, that a new one does not read, or reads otherwise
pub record Loses (old new : Schema) : Type 0 where
  pub levels : ℕ
  pub values : List Numbered
  pub written : IsWritten old (λ _ _. false) levels 0 values
  pub lost : IsRead new levels 0 values → AreCarried old new levels 0 0 values → ⊥

-- two steps from an old schema to a newer one, of which each keeps the one before, and which lose
-- something together
pub record LosesTogether (old between new : Schema) : Type 0 where
  pub first : KeepsAll (λ _ _. true) (λ _ _. false) old between
  pub second : KeepsAll (λ _ _. true) (λ _ _. false) between new
  pub both : Loses old new

-- a schema whose messages have a field with the number 1, and maybe one with the number 2; its
-- enums have the numbers that pass a test
abbrev pub fields_one_and_two : Field → Option Field → (ℤ → Bool) → Schema
fields_one_and_two f g has = record {
  field = λ m n. if n == 1 then Some f else (if n == 2 then g else None);
  has_value = λ e x. has x;
}

-- a schema whose messages have one field, with number 1
abbrev pub field_one : Field → Schema
field_one f = fields_one_and_two f None (λ x. false)

-- an optional field of a kind
abbrev pub optional : Kind → Field
optional k = record { kind = k; cardinality = Optional; oneof = None }

-- a required field of a kind
abbrev pub required : Kind → Field
required k = record { kind = k; cardinality = Required; oneof = None }

-- a repeated field of a kind
abbrev pub repeated : Kind → Field
repeated k = record { kind = k; cardinality = Repeated; oneof = None }

-- a field of a kind that is in the first oneof of its message
abbrev pub in_oneof : Kind → Field
in_oneof k = record { kind = k; cardinality = Optional; oneof = Some 0 }

-- a schema with two such fields
abbrev pub two_fields : Field → Schema
two_fields f = fields_one_and_two f (Some f) (λ x. false)

-- a schema with a field of an enum that has one number
abbrev pub enum_of : ℤ → Schema
enum_of n = fields_one_and_two (optional (kind.Enum 0)) None (λ x. int_eq x n)

-- a schema with a field of an enum that has all numbers
abbrev pub open_enum : Schema
open_enum = fields_one_and_two (optional (kind.Enum 0)) None (λ x. true)

-- a schema whose messages have no field
abbrev pub no_field : Schema
no_field = record { field = λ m n. None; has_value = λ e x. false }

-- a schema whose first message has one field, with number 1, and whose other messages have another
abbrev pub field_within : Field → Option Field → Schema
field_within f g = record {
  field = λ m n. if n == 1 then (if m == 0 then Some f else g) else None;
  has_value = λ e x. false;
}

-- a field that holds a message, in which there is an optional field of a kind
abbrev pub message_of : Kind → Schema
message_of k = field_within (optional (kind.Message 1)) (Some (optional k))

-- a field of a kind, beside messages without fields
abbrev pub holding : Kind → Schema
holding k = field_within (optional k) None

-- a field that holds messages in which a number is required
abbrev pub needing : Field → Schema
needing f = field_within f (Some (required kind.Int32))

-- an optional field of one kind gets another
abbrev pub kinds : Kind → Kind → Schema × Schema
kinds k l = (field_one (optional k), field_one (optional l))

-- bytes, or texts that are not checked, become texts that are checked
abbrev pub LosesTexts : Type 0
LosesTexts = (bytes : List ℕ) → is_utf8 bytes ≡ false
    → Loses (field_one (optional kind.Bytes)) (field_one (optional (kind.Text true)))
    × Loses (field_one (optional (kind.Text false))) (field_one (optional (kind.Text true)))

-- the kinds of numbers that are varints
abbrev pub varints : List Kind
varints = kind.Int32 ∷ kind.Int64 ∷ kind.Uint32 ∷ kind.Uint64 ∷ kind.Sint32 ∷ kind.Sint64
    ∷ kind.Boolean ∷ []

-- those of four bytes
abbrev pub fours : List Kind
fours = kind.Fixed32 ∷ kind.Sfixed32 ∷ kind.Float ∷ []

-- those of eight bytes
abbrev pub eights : List Kind
eights = kind.Fixed64 ∷ kind.Sfixed64 ∷ kind.Double ∷ []

-- the kinds of texts and bytes
abbrev pub texts : List Kind
texts = kind.Bytes ∷ kind.Text false ∷ kind.Text true ∷ []

-- a field of a kind loses something where it becomes one of each of others
abbrev pub LosesToEach : List Kind → Kind → Type 0
LosesToEach ls k = AllByRecursion (λ l. Loses (field_one (optional k)) (field_one (optional l))) ls

-- a field of each of some kinds does
abbrev pub AllLose : List Kind → List Kind → Type 0
AllLose ks ls = AllByRecursion (LosesToEach ls) ks

-- kinds of one wire type lose something where they become kinds of another
pub record LosesWidths : Type 0 where
  pub of_varints : AllLose varints (fours ++ (eights ++ texts))
  pub of_fours : AllLose fours (varints ++ (eights ++ texts))
  pub of_eights : AllLose eights (varints ++ (fours ++ texts))
  pub of_texts : AllLose texts (varints ++ (fours ++ eights))

-- kinds of numbers, each with one of the same wire type that loses some number of it: all pairs but
-- those that keep each number
abbrev pub losing_numbers : List (Kind × Kind)
losing_numbers =
    (kind.Int32, kind.Uint32)
    ∷ (kind.Int32, kind.Uint64)
    ∷ (kind.Int32, kind.Sint32)
    ∷ (kind.Int32, kind.Sint64)
    ∷ (kind.Int32, kind.Boolean)
    ∷ (kind.Int64, kind.Int32)
    ∷ (kind.Int64, kind.Uint32)
    ∷ (kind.Int64, kind.Uint64)
    ∷ (kind.Int64, kind.Sint32)
    ∷ (kind.Int64, kind.Sint64)
    ∷ (kind.Int64, kind.Boolean)
    ∷ (kind.Uint32, kind.Int32)
    ∷ (kind.Uint32, kind.Sint32)
    ∷ (kind.Uint32, kind.Sint64)
    ∷ (kind.Uint32, kind.Boolean)
    ∷ (kind.Uint64, kind.Int32)
    ∷ (kind.Uint64, kind.Int64)
    ∷ (kind.Uint64, kind.Uint32)
    ∷ (kind.Uint64, kind.Sint32)
    ∷ (kind.Uint64, kind.Sint64)
    ∷ (kind.Uint64, kind.Boolean)
    ∷ (kind.Sint32, kind.Int32)
    ∷ (kind.Sint32, kind.Int64)
    ∷ (kind.Sint32, kind.Uint32)
    ∷ (kind.Sint32, kind.Uint64)
    ∷ (kind.Sint32, kind.Boolean)
    ∷ (kind.Sint64, kind.Int32)
    ∷ (kind.Sint64, kind.Int64)
    ∷ (kind.Sint64, kind.Uint32)
    ∷ (kind.Sint64, kind.Uint64)
    ∷ (kind.Sint64, kind.Sint32)
    ∷ (kind.Sint64, kind.Boolean)
    ∷ (kind.Boolean, kind.Sint32)
    ∷ (kind.Boolean, kind.Sint64)
    ∷ (kind.Fixed32, kind.Sfixed32)
    ∷ (kind.Fixed32, kind.Float)
    ∷ (kind.Sfixed32, kind.Fixed32)
    ∷ (kind.Sfixed32, kind.Float)
    ∷ (kind.Float, kind.Fixed32)
    ∷ (kind.Float, kind.Sfixed32)
    ∷ (kind.Fixed64, kind.Sfixed64)
    ∷ (kind.Fixed64, kind.Double)
    ∷ (kind.Sfixed64, kind.Fixed64)
    ∷ (kind.Sfixed64, kind.Double)
    ∷ (kind.Double, kind.Fixed64)
    ∷ (kind.Double, kind.Sfixed64)
    ∷ []

-- old schemas, each with a new one that loses something of it
abbrev pub losing : List (Schema × Schema)
losing =
    kinds kind.Int32 (kind.Enum 0)
    ∷ (open_enum, field_one (optional (kind.Enum 0)))
    ∷ (enum_of (pos 5), field_one (optional (kind.Enum 0)))
    ∷ (field_one (repeated kind.Int32), field_one (optional kind.Int32))
    ∷ (two_fields (optional kind.Int32), two_fields (in_oneof kind.Int32))
    ∷ (field_one (optional kind.Int32), field_one (required kind.Int32))
    ∷ (no_field, field_one (required kind.Int32))
    ∷ (message_of kind.Int32, message_of kind.Sint32)
    ∷ (holding (kind.Message 1), holding (kind.Group 1))
    ∷ (holding (kind.Group 1), holding (kind.Message 1))
    ∷ (holding (kind.Message 1), holding kind.Bytes)
    ∷ (holding kind.Bytes, holding (kind.Message 1))
    ∷ (needing (optional (kind.Message 1)), needing (repeated (kind.Message 1)))
    ∷ []
