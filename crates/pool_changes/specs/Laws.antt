-- What a new pool reads of what was written by an old one.
use Rattle.std.specs.Prelude.{◌≡◌, ℕ, suc, Bool, true, false, List, [], ◌∷◌, ◌++◌, length, Some, None}
use Rattle.std.specs.Prelude.{slice_get, ⊤}
use Rattle.std.specs.FinMap as finite
use Rattle.std.specs.List.{AllByRecursion, filter}
use Rattle.message_values.specs.Fields.{value}
use Rattle.message_values.specs.Maps.{AreMaps, map_read}
use Rattle.message_values.specs.Schema.{Field}
use Rattle.message_values.specs.Values.{Numbered}
use Rattle.message_values.specs.Reading.{IsRead}
use Rattle.message_values.specs.Writing.{Besides, IsWritten}
use Rattle.message_values.specs.Carried.{AreCarried}
use Rattle.pool_types.specs.Contents.{Contents}
use Rattle.pool_types.specs.declared.contents.field.FieldDescriptorInner.{FieldDescriptorInner}
use Rattle.pool_types.specs.declared.contents.message.MessageDescriptorInner.{MessageDescriptorInner}
use Rattle.descriptor_pool.specs.Invariant.{IsPool}
use Rattle.schema_changes.specs.Chains.{last_of, goes_on}
use Rattle.schema_changes.specs.Changes.{message_changes}
use Rattle.schema_changes.specs.Entries.{entry_numbered, schema_of}
use Rattle.schema_changes.specs.Kinds.{is_required}
use Rattle.schema_changes.specs.Pairs.{are_matched}
use Rattle.schema_changes.specs.Parts.{parts_of, one_name}
use Rattle.schema_changes.specs.MapEntries.{is_map_entry}
use Rattle.schema_changes.specs.Pools.{wire_changes, wire_losses}
use Rattle.schema_changes.specs.Records.{is_kept_free}
use Rattle.schema_changes.specs.Unchanged.{IsClosed, NothingIsLost, LeavesOut}
use Rattle.pool_changes.specs.Comparing.{changes, told_at}
use Rattle.pool_changes.specs.Removed.{is_told}
use Rattle.pool_changes.specs.Sides.{Versions, writer, reader}
use Rattle.pool_changes.specs.declared.direction.Direction.TheVariants.{Backward}
use Rattle.pool_changes.specs.declared.kinds.Level.{Level}
use Rattle.pool_changes.specs.declared.kinds.Level.TheVariants.{Wire}

-- what an old pool writes of a message is read by a new one as another message, with the same value
-- of each field that both have, down to any level
abbrev pub ReadsAlike : Contents → Contents → Besides → ℕ → ℕ → Type 0
ReadsAlike old new besides m n =
    (levels : ℕ) (vs : List Numbered) → IsWritten (schema_of (parts_of old)) besides levels m vs
    → IsRead (schema_of (parts_of new)) levels n vs
    × AreCarried (schema_of (parts_of old)) (schema_of (parts_of new)) levels m n vs

-- each map that an old pool writes in a message is read by a new one in another message, with the same
-- entry of each key
abbrev pub MapsAlike : Contents → Contents → Besides → ℕ → ℕ → Type 0
MapsAlike old new besides m n =
    (levels i : ℕ) (f g : Field) → (schema_of (parts_of old)).field m i ≡ Some f
    → (schema_of (parts_of new)).field n i ≡ Some g
    → (a b : ℕ) (k l : Field)
    → AreMaps (schema_of (parts_of old)) (schema_of (parts_of new)) f g a b k l
    → (vs : List Numbered) → IsWritten (schema_of (parts_of old)) besides (suc levels) m vs
    → map_read (schema_of (parts_of old)) a k (value (schema_of (parts_of old)) m i f vs)
    ≡ map_read (schema_of (parts_of new)) b l (value (schema_of (parts_of new)) n i g vs)

-- law: where no change loses anything, what is written of a message by the old pool is read by the
-- new one, if it has a message of that name
abbrev pub NoLossIsRead : Contents → Contents → Type 0
NoLossIsRead old new =
    (besides : Besides) → wire_losses old new ≡ []
    → LeavesOut (parts_of old) (parts_of new) (λ _. true) besides
    → (m n : ℕ) → one_name (parts_of old) m (parts_of new) n ≡ true
    → ReadsAlike old new besides m n

-- law: where nothing is told in a direction, at any level, what the version that writes writes of a
-- message is read by the one that reads, if that has a message of that name
abbrev pub UntoldIsRead : Versions → Type 0
UntoldIsRead v =
    (level : Level) (besides : Besides) → told_at v level ≡ []
    → LeavesOut (parts_of (writer v)) (parts_of (reader v)) (λ _. true) besides
    → (m n : ℕ) → one_name (parts_of (writer v)) m (parts_of (reader v)) n ≡ true
    → ReadsAlike (writer v) (reader v) besides m n

-- law: and each map in a message, or in one that a field holds, is read with the same entry of each
-- key
abbrev pub UntoldMapsAreRead : Versions → Type 0
UntoldMapsAreRead v =
    (level : Level) (besides : Besides) → told_at v level ≡ []
    → LeavesOut (parts_of (writer v)) (parts_of (reader v)) (λ _. true) besides
    → (m n : ℕ) → are_matched (parts_of (writer v)) m (parts_of (reader v)) n ≡ true
    → MapsAlike (writer v) (reader v) besides m n

-- law: where nothing is told backward, at any level, each message of the older pool, but the entries
-- of maps, has one with its name in the new pool, by which what the older one writes of it is read
abbrev pub UntoldIsKept : Contents → Contents → Type 0
UntoldIsKept old new =
    (level : Level) → told_at (record { direction = Backward; old = old; new = new }) level ≡ []
    → (m : ℕ) (x : MessageDescriptorInner) → slice_get old.messages m ≡ Some x
    → is_map_entry (parts_of old) x ≡ false
    → (n : ℕ) × (one_name (parts_of old) m (parts_of new) n ≡ true)
    × ReadsAlike old new (λ _ _. false) m n

-- law: where nothing is told in a direction, at any level, there is no change that is told in it
abbrev pub UntoldIsUnchanged : Versions → Type 0
UntoldIsUnchanged v = (level : Level) → told_at v level ≡ []
    → filter (λ c. is_told v.direction c.change.kind) (wire_changes (writer v) (reader v)) ≡ []

-- law: where nothing is lost of some messages, which hold each other alone, what is written of them
-- by the old pool is read by the new one, if it has messages of their names
abbrev pub UnchangedIsRead : Contents → Contents → Type 0
UnchangedIsRead old new =
    (reached : ℕ → Bool) (besides : Besides) → IsClosed (parts_of old) reached
    → NothingIsLost (parts_of old) (parts_of new) reached
    → LeavesOut (parts_of old) (parts_of new) reached besides
    → (m n : ℕ) → reached m ≡ true → one_name (parts_of old) m (parts_of new) n ≡ true
    → ReadsAlike old new besides m n

-- nothing is told of any pool and the one before, which writes
abbrev pub NoneIsTold : Contents → List Contents → Type 0
NoneIsTold p [] = ⊤
NoneIsTold p (q ∷ qs) = (changes Wire p q ≡ []) × NoneIsTold q qs

-- law: where nothing is told of each pool of a chain and the one before, what the first one writes of
-- a message is read by the last one, if each pool between has a message of that name
abbrev pub Chains : Contents → List Contents → Type 0
Chains first later =
    IsPool first → AllByRecursion IsPool later → NoneIsTold first later
    → (m n : ℕ) → goes_on first later m n ≡ true
    → ReadsAlike first (last_of first later) (λ _ _. false) m n

-- a message with one more field, behind those that it has
abbrev pub with_field : MessageDescriptorInner → FieldDescriptorInner → MessageDescriptorInner
with_field m f = record m {
  fields = m.fields ++ f ∷ [];
  field_numbers = finite.insert m.field_numbers f.number (length m.fields);
}

-- law: one more field changes nothing of a message, if no field and no extension of it has its
-- number, which is not reserved, and it is not required
abbrev pub FreshNumberIsKept : Contents → Type 0
FreshNumberIsKept p =
    (n : ℕ) (m : MessageDescriptorInner) (f : FieldDescriptorInner) → slice_get p.messages n
    ≡ Some m
    → entry_numbered (parts_of p) m f.number ≡ None
    → is_kept_free (parts_of p) m f.number ≡ false → is_required f.cardinality ≡ false
    → message_changes
    (record { old = parts_of p; before = m; new = parts_of p; after = with_field m f }) ≡ []
