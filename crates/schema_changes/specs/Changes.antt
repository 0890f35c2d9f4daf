-- What changes of a message, so that bytes are read otherwise.
use Rattle.std.specs.Prelude.{ℕ, Bool, true, false, not, ◌||◌, List, [], ◌∷◌, ◌++◌, Option, Some}
use Rattle.std.specs.Prelude.{None, option_and_then, slice_get, ◌==◌}
use Rattle.std.specs.List.{filter, flat_map}
use Rattle.std.specs.Option.{option_map_or, option_or}
use Rattle.pool_types.specs.declared.contents.message.MessageDescriptorInner.{MessageDescriptorInner}
use Rattle.pool_types.specs.declared.contents.oneof.OneofDescriptorInner.{OneofDescriptorInner}
use Rattle.field_rules.specs.Maps.{item_number}
use Rattle.message_values.specs.Fields.{in_one}
use Rattle.proto_types.specs.Readers.{number_of}
use Rattle.proto_types.specs.declared.message.ReservedRange.{ReservedRange}
use Rattle.schema_changes.specs.declared.change.WireChange.{WireChange}
use Rattle.schema_changes.specs.declared.change.WireChangeKind.{WireChangeKind}
use Rattle.schema_changes.specs.declared.change.WireChangeKind.TheVariants as change
use Rattle.schema_changes.specs.declared.compared.Compared as code
use Rattle.schema_changes.specs.declared.entries.Entry.{Entry}
use Rattle.schema_changes.specs.Parts.{Parts, parts}
use Rattle.schema_changes.specs.Entries.{field_entry, extension_in, entry_numbered}
use Rattle.schema_changes.specs.Kinds.{keeps_cardinality, is_required}
use Rattle.schema_changes.specs.Pairs.{keeps_kind, leaves_reserved}
use Rattle.schema_changes.specs.Records.{is_kept_free, keeps_range, reserved_of}

-- an old and a new message that are compared, each with the items of its pool
pub record Compared : Type 0 where
  pub old : Parts
  pub before : MessageDescriptorInner
  pub new : Parts
  pub after : MessageDescriptorInner

-- the messages that are lent to the code
abbrev pub compared : code.Compared → Compared
compared c = record {
  old = parts c.old;
  before = c.before.now;
  new = parts c.new;
  after = c.after.now;
}

-- the old entry with a number, and the new one
abbrev pub old_entry : Compared → ℕ → Option Entry
old_entry c n = entry_numbered c.old c.before n

-- the new entry with a number
abbrev pub new_entry : Compared → ℕ → Option Entry
new_entry c n = entry_numbered c.new c.after n

-- whether a kind of change loses what is written: each does, but that a number comes free or was
-- reserved, which loses only what still older versions have written
abbrev pub is_lossy : WireChangeKind → Bool
is_lossy change.FreeNumber = false
is_lossy change.Unreserved = false
is_lossy _ = true

-- the changes by which what is written is lost
abbrev pub losses : List WireChange → List WireChange
losses changes = filter (λ w. is_lossy w.kind) changes

-- a change, unless a test passes
abbrev pub unless : Bool → ℕ → WireChangeKind → List WireChange
unless true number what = []
unless false number what = record { number = number; kind = what } ∷ []

-- what a new entry changes of the old one with its number; where there is none, that the number is
-- free for another one
abbrev pub kept_changes : Compared → Entry → Option Entry → List WireChange
kept_changes c f None =
    unless (is_kept_free c.new c.after f.number) f.number change.FreeNumber
kept_changes c f (Some g) =
    unless (keeps_kind c.old f c.new g) f.number change.Kind
    ++ unless (keeps_cardinality f.kind f.cardinality g.cardinality) f.number change.Cardinality

-- what the new message changes of an old entry
abbrev pub entry_changes : Compared → Entry → List WireChange
entry_changes c f = kept_changes c f (new_entry c f.number)

-- the old entry with the number of the new field at a position
abbrev pub old_member : Compared → ℕ → Option Entry
old_member c i = option_and_then (λ g. old_entry c g.number) (slice_get c.after.fields i)

-- the first value that a function gives of the elements of a list
abbrev pub first_some : {X Y : Type 0} → (X → Option Y) → List X → Option Y
first_some f [] = None
first_some f (x ∷ xs) = option_or (f x) (first_some f xs)

-- two old entries are in one new oneof: it changes where they were not in one
abbrev pub joined_changes : Entry → Option Entry → List WireChange
joined_changes f None = []
joined_changes f (Some g) =
    unless (f.number == g.number || in_one f.oneof g.oneof) g.number change.Oneof

-- what changes of the old entries with the numbers of new fields that are in one oneof, of which
-- the first is known
abbrev pub members_changes : Compared → Option Entry → List ℕ → List WireChange
members_changes c None positions = []
members_changes c (Some f) positions = flat_map (λ i. joined_changes f (old_member c i)) positions

-- what a new oneof changes: of old entries that come into it, all must have been in one
abbrev pub oneof_changes : Compared → OneofDescriptorInner → List WireChange
oneof_changes c o = members_changes c (first_some (old_member c) o.fields) o.fields

-- whether an old entry was required
abbrev pub was_required : Option Entry → Bool
was_required None = false
was_required (Some f) = is_required f.cardinality

-- what a new entry changes that is required and was not
abbrev pub required_changes : Compared → Entry → List WireChange
required_changes c g =
    unless (not (is_required g.cardinality) || was_required (old_entry c g.number)) g.number
    change.Required

-- that a new entry takes a number that was reserved
abbrev pub taken_changes : Compared → Entry → List WireChange
taken_changes c g = unless (leaves_reserved c.old c.before g) g.number change.Unreserved

-- what a new entry changes besides what it keeps of the old one with its number
abbrev pub added_changes : Compared → Entry → List WireChange
added_changes c g = required_changes c g ++ taken_changes c g

-- what the new entry with its number changes of the old extension with an index
abbrev pub extension_changes : Compared → Option Entry → List WireChange
extension_changes c None = []
extension_changes c (Some f) = entry_changes c f

-- what the new extension with an index changes besides
abbrev pub added_extension_changes : Compared → Option Entry → List WireChange
added_extension_changes c None = []
added_extension_changes c (Some g) = added_changes c g

-- whether the new entry with a number takes one that was reserved, which is told of the entry
abbrev pub is_taken : Compared → ℕ → Bool
is_taken c n = option_map_or (λ g. not (leaves_reserved c.old c.before g)) (new_entry c n) false

-- that a range of numbers was reserved, and isn't now: told by its first number, unless that is
-- taken
abbrev pub range_changes : Compared → ReservedRange → List WireChange
range_changes c r =
    let n = item_number (number_of r.start) in
    unless (keeps_range c.new c.after r || is_taken c n) n change.Unreserved

-- the changes of a message: of each old field and each old extension, of each new oneof, of each new
-- field and each new extension, and then of each range that was reserved
abbrev pub message_changes : Compared → List WireChange
message_changes c =
    flat_map (λ f. entry_changes c (field_entry f)) c.before.fields
    ++ (flat_map (λ i. extension_changes c (extension_in c.old c.before i)) c.before.extensions
    ++ (flat_map (oneof_changes c) c.after.oneofs
    ++ (flat_map (λ g. added_changes c (field_entry g)) c.after.fields
    ++ (flat_map (λ i. added_extension_changes c (extension_in c.new c.after i)) c.after.extensions
    ++ flat_map (range_changes c) (reserved_of c.old c.before)))))
