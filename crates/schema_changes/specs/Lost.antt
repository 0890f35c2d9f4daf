-- What a new entry does not keep of an old one is lost, wherever the old schema writes the message at
-- all.
use Rattle.std.specs.Prelude.{◌≡◌, ◌≢◌, ℕ, ℤ, true, false, List, Some, ⊤}
use Rattle.pool_types.specs.declared.kinds.KindIndex.{KindIndex}
use Rattle.pool_types.specs.declared.kinds.KindIndex.TheVariants as index
use Rattle.message_values.specs.Values.{Numbered}
use Rattle.message_values.specs.Numbers.{is_signed}
use Rattle.message_values.specs.Fields.{in_one}
use Rattle.message_values.specs.Writing.{Besides, IsWritten}
use Rattle.message_values.specs.Unkept.{IsLost, OneofsAreOptional, is_scalar}
use Rattle.schema_changes.specs.declared.entries.Entry.{Entry}
use Rattle.schema_changes.specs.Changes.{was_required}
use Rattle.schema_changes.specs.Entries.{entry_at, field_seen, schema_of}
use Rattle.schema_changes.specs.Kinds.{is_required, keeps_cardinality}
use Rattle.schema_changes.specs.Pairs.{keeps_kind}
use Rattle.schema_changes.specs.Parts.{Parts, has_value, values_of}

-- an entry is of a scalar value type
abbrev pub IsScalar : Parts → Entry → Type 0
IsScalar p f = is_scalar (field_seen p f).kind ≡ true

-- a kind that is an enum has not each number of 32 bits among its values
abbrev pub LacksOne : Parts → KindIndex → Type 0
LacksOne p (index.Enum e) =
    (x : ℤ) × (is_signed 31 x ≡ true) × (has_value (values_of p e) x ≡ false)
LacksOne p _ = ⊤

-- whatever an old schema writes of a message, it writes something of it, of as many levels, that a
-- new one does not read, or reads otherwise
abbrev pub LosesOf : Parts → Parts → Besides → ℕ → ℕ → Type 0
LosesOf old new besides m n =
    (levels : ℕ) (vs : List Numbered) → IsWritten (schema_of old) besides levels m vs
    → IsLost (schema_of old) (schema_of new) besides levels m n

-- an old and a new entry of two messages, with one number
pub record AreEntries (old new : Parts) (m n i : ℕ) (f g : Entry) : Type 0 where
  pub old_entry : entry_at old m i ≡ Some f
  pub new_entry : entry_at new n i ≡ Some g

-- law: where the kind of a scalar entry is not kept, something is lost
abbrev pub KindIsLost : Type 0
KindIsLost = (old new : Parts) (besides : Besides) (m n i : ℕ) (f g : Entry)
    → AreEntries old new m n i f g → OneofsAreOptional (schema_of old) m → IsScalar old f
    → LacksOne new g.kind → keeps_kind old f new g ≡ false → LosesOf old new besides m n

-- law: where the cardinality of a scalar entry is not kept, something is lost
abbrev pub CardinalityIsLost : Type 0
CardinalityIsLost = (old new : Parts) (besides : Besides) (m n i : ℕ) (f g : Entry)
    → AreEntries old new m n i f g → OneofsAreOptional (schema_of old) m → IsScalar old f
    → keeps_cardinality f.kind f.cardinality g.cardinality ≡ false → LosesOf old new besides m n

-- law: where an entry is required that was not, or was not there, something is lost
abbrev pub RequiredIsLost : Type 0
RequiredIsLost = (old new : Parts) (besides : Besides) (m n i : ℕ) (g : Entry)
    → entry_at new n i ≡ Some g → is_required g.cardinality ≡ true
    → was_required (entry_at old m i) ≡ false → LosesOf old new besides m n

-- law: where two scalar entries are in one oneof that were not, something is lost
abbrev pub OneofIsLost : Type 0
OneofIsLost = (old new : Parts) (besides : Besides) (m n i j : ℕ) (f g f' g' : Entry)
    → AreEntries old new m n i f g → AreEntries old new m n j f' g'
    → OneofsAreOptional (schema_of old) m → IsScalar old f → IsScalar old f' → i ≢ j
    → in_one f.oneof f'.oneof ≡ false → in_one g.oneof g'.oneof ≡ true
    → LosesOf old new besides m n
