-- Whether a new kind keeps an old one: each value of the old kind is one of the new kind, and is
-- encoded alike.
use Rattle.std.specs.Prelude.{ℕ, ℤ, pos, negsuc, Bool, true, false, not, ◌||◌, ◌&&◌, nat_lt}
use Rattle.std.specs.Prelude.{if◌then◌else◌, Option, None, Some}
use Rattle.std.specs.List.{list_all}
use Rattle.std.specs.Option.{option_map_or}
use Rattle.pool_types.specs.Kinds.{is_message}
use Rattle.pool_types.specs.declared.kinds.Cardinality.{Cardinality}
use Rattle.pool_types.specs.declared.kinds.Cardinality.TheVariants as cardinality
use Rattle.pool_types.specs.declared.kinds.KindIndex.{KindIndex}
use Rattle.pool_types.specs.declared.kinds.KindIndex.TheVariants as index
use Rattle.schema_changes.specs.declared.entries.Entry.{Entry}
use Rattle.schema_changes.specs.Parts.{Parts, in_proto3, is_open, has_value, values_of}

-- whether a number is not negative
abbrev pub is_natural : ℤ → Bool
is_natural (pos x) = true
is_natural (negsuc x) = false

-- whether a number is 0 or 1
abbrev pub is_bit : ℤ → Bool
is_bit (pos x) = nat_lt x 2
is_bit (negsuc x) = false

-- whether a number of 32 bits is one of a kind that is encoded as int32 is
unfoldable pub holds : Parts → KindIndex → ℤ → Bool
holds p index.Int32 x = true
holds p index.Int64 x = true
holds p index.Uint32 x = is_natural x
holds p index.Uint64 x = is_natural x
holds p index.Bool x = is_bit x
holds p (index.Enum e) x = is_open p e || has_value (values_of p e) x
holds p _ x = false

-- whether each number of 32 bits is one of a kind that is encoded as int32 is
unfoldable pub holds_all : Parts → KindIndex → Bool
holds_all p index.Int32 = true
holds_all p index.Int64 = true
holds_all p (index.Enum e) = is_open p e
holds_all p _ = false

-- whether a kind is encoded as int32 is
abbrev pub is_plain : KindIndex → Bool
is_plain index.Int32 = true
is_plain index.Int64 = true
is_plain index.Uint32 = true
is_plain index.Uint64 = true
is_plain index.Bool = true
is_plain (index.Enum e) = true
is_plain _ = false

-- whether a kind has all numbers of uint32, and is encoded as it is
abbrev pub holds_unsigned : KindIndex → Bool
holds_unsigned index.Uint32 = true
holds_unsigned index.Uint64 = true
holds_unsigned index.Int64 = true
holds_unsigned _ = false

-- whether each number of an old kind is one of a new kind, and is encoded alike
unfoldable pub keeps_numbers : Parts → KindIndex → Parts → KindIndex → Bool
keeps_numbers old index.Int32 new l = holds_all new l
keeps_numbers old (index.Enum e) new l =
    if is_open old e then holds_all new l
    else is_plain l && list_all (λ v. holds new l v.number) (values_of old e)
keeps_numbers old index.Bool new l = holds new l (pos 0) && holds new l (pos 1)
keeps_numbers old index.Uint32 new l = holds_unsigned l
keeps_numbers old index.Int64 new index.Int64 = true
keeps_numbers old index.Uint64 new index.Uint64 = true
keeps_numbers old index.Sint32 new index.Sint32 = true
keeps_numbers old index.Sint32 new index.Sint64 = true
keeps_numbers old index.Sint64 new index.Sint64 = true
keeps_numbers old index.Fixed32 new index.Fixed32 = true
keeps_numbers old index.Fixed64 new index.Fixed64 = true
keeps_numbers old index.Sfixed32 new index.Sfixed32 = true
keeps_numbers old index.Sfixed64 new index.Sfixed64 = true
keeps_numbers old index.Float new index.Float = true
keeps_numbers old index.Double new index.Double = true
keeps_numbers old _ new _ = false

-- whether texts of a kind are checked to be UTF-8, as those of proto3 are; none for other kinds
abbrev pub text_check : Bool → KindIndex → Option Bool
text_check proto3 index.String = Some proto3
text_check proto3 index.Bytes = Some false
text_check proto3 _ = None

-- texts that were not checked are not checked now
abbrev pub keeps_check : Option Bool → Option Bool → Bool
keeps_check (Some old) (Some new) = old || not new
keeps_check _ _ = false

-- the two messages of an old and a new kind, by their indexes, where both are messages or both are
-- groups
abbrev pub messages_of : KindIndex → KindIndex → Option (ℕ × ℕ)
messages_of (index.Message m) (index.Message n) = Some (m, n)
messages_of (index.Group m) (index.Group n) = Some (m, n)
messages_of _ _ = None

-- how the texts of an entry are checked
abbrev pub entry_check : Parts → Entry → Option Bool
entry_check p f = text_check (in_proto3 p f.file) f.kind

-- whether the kind of a new entry keeps that of an old one, where messages keep each other that are
-- pairs
abbrev pub keeps_kind_by : (ℕ → ℕ → Bool) → Parts → Entry → Parts → Entry → Bool
keeps_kind_by pairs old f new g =
    keeps_numbers old f.kind new g.kind
    || keeps_check (entry_check old f) (entry_check new g)
    || option_map_or (λ e. pairs e.0 e.1) (messages_of f.kind g.kind) false

-- whether a field is repeated
abbrev pub is_repeated : Cardinality → Bool
is_repeated cardinality.Repeated = true
is_repeated _ = false

-- whether a field is required
abbrev pub is_required : Cardinality → Bool
is_required cardinality.Required = true
is_required _ = false

-- whether a field may become repeated or not: what is repeated stays so, and what is not may become
-- so, unless its items are messages, which merge
abbrev pub keeps_cardinality : KindIndex → Cardinality → Cardinality → Bool
keeps_cardinality k c d =
    if is_repeated c then is_repeated d else not (is_message k && is_repeated d)
