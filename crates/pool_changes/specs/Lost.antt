-- What a new pool changes of a message of an old one is lost, wherever the old one writes it at all.
use Rattle.std.specs.Prelude.{◌≡◌, ℕ, true, Some, slice_get, ⊤}
use Rattle.message_values.specs.Fields.{in_one}
use Rattle.message_values.specs.Writing.{Besides}
use Rattle.message_values.specs.Unkept.{OneofsAreOptional}
use Rattle.pool_types.specs.Contents.{Contents}
use Rattle.pool_types.specs.declared.contents.message.MessageDescriptorInner.{MessageDescriptorInner}
use Rattle.schema_changes.specs.Changes.{message_changes}
use Rattle.schema_changes.specs.Entries.{entry_at, schema_of}
use Rattle.schema_changes.specs.Lost.{IsScalar, LosesOf}
use Rattle.schema_changes.specs.Parts.{parts_of}
use Rattle.schema_changes.specs.declared.change.WireChange.{WireChange}
use Rattle.schema_changes.specs.declared.change.WireChangeKind.{WireChangeKind}
use Rattle.schema_changes.specs.declared.change.WireChangeKind.TheVariants as change
use Rattle.schema_changes.specs.declared.entries.Entry.{Entry}

-- the entry of a message with a number, if there is one, is of a scalar value type
abbrev pub IsScalarAt : Contents → ℕ → ℕ → Type 0
IsScalarAt p m i = (f : Entry) → entry_at (parts_of p) m i ≡ Some f → IsScalar (parts_of p) f

-- all old entries whose numbers come into one oneof with a number are of such types
abbrev pub AreScalarWith : Contents → Contents → ℕ → ℕ → ℕ → Type 0
AreScalarWith old new m n i =
    (j : ℕ) (g h : Entry) → entry_at (parts_of new) n i ≡ Some g
    → entry_at (parts_of new) n j ≡ Some h → in_one g.oneof h.oneof ≡ true → IsScalarAt old m j

-- no field of a oneof of a message is required
abbrev pub IsFree : Contents → ℕ → Type 0
IsFree p m = OneofsAreOptional (schema_of (parts_of p)) m

-- what a change of a number is to be, so that something is lost by it: one of scalar types, but for a
-- field that is required
abbrev pub MayLose : Contents → Contents → ℕ → ℕ → ℕ → WireChangeKind → Type 0
MayLose old new m n i change.Kind = IsFree old m × IsScalarAt old m i
MayLose old new m n i change.Cardinality = IsFree old m × IsScalarAt old m i
MayLose old new m n i change.Oneof = IsFree old m × AreScalarWith old new m n i
MayLose old new m n i change.Required = ⊤
MayLose old new m n i change.FreeNumber = ⊥
MayLose old new m n i change.Unreserved = ⊥

-- law: by each such change of a message something of it is lost, if the old pool writes it at all
abbrev pub ChangeIsLost : Contents → Contents → Type 0
ChangeIsLost old new =
    (besides : Besides) (m n at : ℕ) (x y : MessageDescriptorInner) (w : WireChange)
    → slice_get old.messages m ≡ Some x → slice_get new.messages n ≡ Some y
    → slice_get (message_changes (record { old = parts_of old; before = x; new = parts_of new; after = y }))
    at ≡ Some w
    → MayLose old new m n w.number w.kind
    → LosesOf (parts_of old) (parts_of new) besides m n
