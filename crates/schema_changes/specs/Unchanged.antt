-- Messages of which nothing is lost.
use Rattle.std.specs.Prelude.{◌≡◌, ℕ, Bool, true, [], Some, None, slice_get, option_map, ⊤}
use Rattle.std.specs.FinMap as finite
use Rattle.std.specs.List.{Contains}
use Rattle.pool_types.specs.declared.kinds.KindIndex.{KindIndex}
use Rattle.pool_types.specs.declared.kinds.KindIndex.TheVariants as index
use Rattle.pool_types.specs.declared.contents.field.FieldDescriptorInner.{FieldDescriptorInner}
use Rattle.pool_types.specs.declared.contents.message.MessageDescriptorInner.{MessageDescriptorInner}
use Rattle.pool_types.specs.declared.contents.oneof.OneofDescriptorInner.{OneofDescriptorInner}
use Rattle.message_values.specs.Writing.{Besides}
use Rattle.schema_changes.specs.declared.entries.Entry.{Entry}
use Rattle.schema_changes.specs.Parts.{Parts, one_name}
use Rattle.schema_changes.specs.Pairs.{are_matched}
use Rattle.schema_changes.specs.Entries.{entry_at}
use Rattle.schema_changes.specs.Changes.{message_changes, losses}

-- the maps of a message lead from a number to the field and to the extension that have it, and a
-- field that is in a oneof is listed there
pub record LooksUp (p : Parts) (m : MessageDescriptorInner) : Type 0 where
  pub fields : (n i : ℕ) → finite.get m.field_numbers n ≡ Some i
      → option_map (λ f. f.number) (slice_get m.fields i) ≡ Some n
  pub extensions : (n i : ℕ) → finite.get m.extension_numbers n ≡ Some i
      → Contains m.extensions i × (option_map (λ x. x.number) (slice_get p.extensions i) ≡ Some n)
  pub oneofs : (i o : ℕ) (f : FieldDescriptorInner) → slice_get m.fields i ≡ Some f
      → f.oneof ≡ Some o
      → (w : OneofDescriptorInner) × (slice_get m.oneofs o ≡ Some w) × Contains w.fields i

-- each message of a pool does
abbrev pub LookUp : Parts → Type 0
LookUp p = (n : ℕ) (m : MessageDescriptorInner) → slice_get p.messages n ≡ Some m → LooksUp p m

-- no change loses anything of each message of some old ones and the new one with its name
abbrev pub NothingIsLost : Parts → Parts → (ℕ → Bool) → Type 0
NothingIsLost old new reached =
    (m n : ℕ) (x y : MessageDescriptorInner) → reached m ≡ true → one_name old m new n ≡ true
    → slice_get old.messages m ≡ Some x → slice_get new.messages n ≡ Some y
    → losses (message_changes (record { old = old; before = x; new = new; after = y })) ≡ []

-- the message of a kind is one of some
abbrev pub IsReached : (ℕ → Bool) → KindIndex → Type 0
IsReached reached (index.Message m) = reached m ≡ true
IsReached reached (index.Group m) = reached m ≡ true
IsReached reached _ = ⊤

-- what the entries of these messages hold is one of them
abbrev pub IsClosed : Parts → (ℕ → Bool) → Type 0
IsClosed p reached = (m k : ℕ) (f : Entry) → reached m ≡ true → entry_at p m k ≡ Some f
    → IsReached reached f.kind

-- no new message of a pair has an entry of a number that its old one may have besides
abbrev pub LeavesOut : Parts → Parts → (ℕ → Bool) → Besides → Type 0
LeavesOut old new reached besides =
    (m n k : ℕ) → reached m ≡ true → are_matched old m new n ≡ true → besides m k ≡ true
    → entry_at new n k ≡ None
