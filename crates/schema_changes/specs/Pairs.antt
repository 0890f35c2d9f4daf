-- Which messages of two pools are a pair. Bytes don't show their names: those that have one are
-- compared by themselves, and one under another name is read where it keeps the fields. A message and
-- an entry of a map are no pair.
use Rattle.std.specs.Prelude.{ℕ, Bool, false, not, ◌||◌, ◌&&◌, is_none, is_some, ◌==◌, length}
use Rattle.std.specs.Prelude.{Option, None, Some, if◌then◌else◌}
use Rattle.std.specs.List.{list_all}
use Rattle.pool_types.specs.declared.contents.field.FieldDescriptorInner.{FieldDescriptorInner}
use Rattle.pool_types.specs.declared.contents.message.MessageDescriptorInner.{MessageDescriptorInner}
use Rattle.message_values.specs.Fields.{in_one}
use Rattle.message_values.specs.Kept.{Pairs}
use Rattle.schema_changes.specs.declared.entries.Entry.{Entry}
use Rattle.schema_changes.specs.Parts.{Parts, one_name}
use Rattle.schema_changes.specs.Records.{is_kept_free, keeps_range, reserved_of}
use Rattle.schema_changes.specs.Entries.{field_entry, entry_numbered}
use Rattle.schema_changes.specs.Kinds.{keeps_kind_by, keeps_cardinality, is_required}
use Rattle.schema_changes.specs.MapEntries.{map_entry_at, plain_message_at}

-- whether a new field keeps an old one, but for its kind: it loses no items, is required only if
-- the old one was, and is in no oneof but the one at the same position
abbrev pub keeps_but_kind : Entry → Entry → Bool
keeps_but_kind f g =
    keeps_cardinality f.kind f.cardinality g.cardinality
    && (not (is_required g.cardinality) || is_required f.cardinality)
    && (is_none g.oneof || in_one f.oneof g.oneof)

-- whether a new field keeps the old entry with its number, where some messages are pairs;
-- where there is no old one, the new one isn't required
abbrev pub keeps_entry : Pairs → Parts → Option Entry → Parts → Entry → Bool
keeps_entry pairs old None new g = not (is_required g.cardinality)
keeps_entry pairs old (Some f) new g = keeps_kind_by pairs old f new g && keeps_but_kind f g

-- whether a new entry takes no number that an old message reserved: that one did not reserve its
-- number, or had an entry with it
abbrev pub leaves_reserved : Parts → MessageDescriptorInner → Entry → Bool
leaves_reserved old x g =
    not (is_kept_free old x g.number) || is_some (entry_numbered old x g.number)

-- whether a field of a new message keeps what the old one has of its number, and takes none that was
-- reserved
abbrev pub keeps_part : Pairs → Parts → MessageDescriptorInner → Parts → Entry → Bool
keeps_part pairs old x new g = keeps_entry pairs old (entry_numbered old x g.number) new g
    && leaves_reserved old x g

-- whether a new message has a number of the old one, or keeps it free
abbrev pub keeps_number : Parts → MessageDescriptorInner → FieldDescriptorInner → Bool
keeps_number new y f = is_some (entry_numbered new y f.number) || is_kept_free new y f.number

-- whether a new message keeps an old one, where some messages are pairs: nothing extends them, each
-- field of it keeps what the old one has of its number, no number comes free, and what was reserved
-- stays so
unfoldable pub keeps_parts : Pairs → Parts → MessageDescriptorInner → Parts
    → MessageDescriptorInner → Bool
keeps_parts pairs old x new y =
    length x.extensions == 0 && length y.extensions == 0
    && list_all (λ g. keeps_part pairs old x new (field_entry g)) y.fields
    && list_all (keeps_number new y) x.fields
    && list_all (keeps_range new y) (reserved_of old x)

-- the same of messages that may be there
abbrev pub keeps_there : Pairs → Parts → Option MessageDescriptorInner → Parts
    → Option MessageDescriptorInner → Bool
keeps_there pairs old (Some x) new (Some y) = keeps_parts pairs old x new y
keeps_there pairs old _ new _ = false

-- whether two messages are alike: they have one full name, and both are entries of maps, or neither
-- is. Of a map a reader keeps the last entry with a key, and of a repeated message each
unfoldable pub are_alike : Parts → ℕ → Parts → ℕ → Bool
are_alike old m new n = one_name old m new n
    && (if is_some (map_entry_at old m) then is_some (map_entry_at new n)
    else is_none (map_entry_at new n))

-- whether two messages are entries of maps, of which the new one keeps the old one, where messages
-- in them are pairs that are alike
unfoldable pub keeps_map : Parts → ℕ → Parts → ℕ → Bool
keeps_map old m new n =
    keeps_there (λ a b. are_alike old a new b) old (map_entry_at old m) new (map_entry_at new n)

-- whether messages are a pair in two others, which may have other names: they are alike, are entries
-- of maps, or are the two others themselves
abbrev pub are_inner_pairs : Parts → ℕ → Parts → ℕ → Pairs
are_inner_pairs old m new n a b =
    are_alike old a new b || keeps_map old a new b || (a == m && b == n)

-- whether the new one of two messages keeps the old one, which may have another name; entries of
-- maps, of which a reader keeps the last with a key, aren't such messages
unfoldable pub keeps_message : Parts → ℕ → Parts → ℕ → Bool
keeps_message old m new n = keeps_there (are_inner_pairs old m new n)
    old (plain_message_at old m) new (plain_message_at new n)

-- whether two messages, by their indexes, are a pair: they are alike, or the new one keeps the old
-- one
unfoldable pub are_paired : Parts → ℕ → Parts → ℕ → Bool
are_paired old m new n =
    are_alike old m new n || keeps_map old m new n || keeps_message old m new n

-- whether what is written of one message is read by another: they have one full name, or are a pair
abbrev pub are_matched : Parts → ℕ → Parts → ℕ → Bool
are_matched old m new n = one_name old m new n || are_paired old m new n

-- whether the kind of a new entry keeps that of an old one
abbrev pub keeps_kind : Parts → Entry → Parts → Entry → Bool
keeps_kind old f new g = keeps_kind_by (λ m n. are_paired old m new n) old f new g
