-- What is told of each kind of change: its name, what both versions have, and what to do.
use Rattle.std.specs.Prelude.{ℕ, ℤ, Bool, true, false, List, [], ◌++◌, codes, slice_get, Option}
use Rattle.std.specs.Prelude.{Some, None, if◌then◌else◌, is_some}
use Rattle.std.specs.Fmt.{decimal, signed_decimal}
use Rattle.std.specs.Option.{option_map_or}
use Rattle.pool_types.specs.Kinds.{kind_name}
use Rattle.pool_types.specs.declared.kinds.Cardinality.{Cardinality}
use Rattle.pool_types.specs.declared.kinds.Cardinality.TheVariants.{Optional, Required, Repeated}
use Rattle.pool_types.specs.declared.kinds.KindIndex.{KindIndex}
use Rattle.pool_types.specs.declared.kinds.KindIndex.TheVariants as kind
use Rattle.schema_changes.specs.Changes.{Compared, old_entry, new_entry}
use Rattle.schema_changes.specs.Lacking.{lacking}
use Rattle.schema_changes.specs.MapEntries.{map_entry_at}
use Rattle.schema_changes.specs.Parts.{Parts, in_proto3, is_open}
use Rattle.schema_changes.specs.declared.change.WireChangeKind.{WireChangeKind}
use Rattle.schema_changes.specs.declared.change.WireChangeKind.TheVariants as change
use Rattle.schema_changes.specs.declared.entries.Entry.{Entry}
use Rattle.pool_changes.specs.declared.direction.Direction.{Direction}
use Rattle.pool_changes.specs.declared.direction.Direction.TheVariants.{Backward, Forward}
use Rattle.pool_changes.specs.Members.{shown_name, partner_name, oneof_name}

-- the word for a direction
abbrev pub direction_word : Direction → List ℕ
direction_word Backward = codes "backward"
direction_word Forward = codes "forward"

-- the name of a kind of change
abbrev pub change_code : WireChangeKind → List ℕ
change_code change.Kind = codes "field-kind"
change_code change.Cardinality = codes "field-cardinality"
change_code change.Oneof = codes "field-oneof"
change_code change.Required = codes "field-required"
change_code change.FreeNumber = codes "number-free"
change_code change.Unreserved = codes "reserved-removed"

-- the full name of the message with an index
abbrev pub message_name : Parts → ℕ → List ℕ
message_name p m = option_map_or (λ x. x.id.full_name) (slice_get p.messages m) []

-- the full name of the enum with an index
abbrev pub enum_name : Parts → ℕ → List ℕ
enum_name p e = option_map_or (λ x. x.id.full_name) (slice_get p.enums e) []

-- a string, by whether its file is one of proto3
abbrev pub string_words : Bool → List ℕ
string_words true = codes "string of proto3"
string_words false = codes "string of proto2"

-- the word before the name of an enum, by whether it is open
abbrev pub enum_word : Bool → List ℕ
enum_word true = codes "open enum "
enum_word false = codes "closed enum "

-- the word before the name of a message, by whether it is an entry of a map
abbrev pub message_word : Bool → List ℕ
message_word true = codes "map entry "
message_word false = codes "message "

-- a kind of a field that stands in a file
abbrev pub kind_in : Parts → ℕ → KindIndex → List ℕ
kind_in p file kind.String = string_words (in_proto3 p file)
kind_in p file (kind.Message m) =
    message_word (is_some (map_entry_at p m)) ++ message_name p m
kind_in p file (kind.Group m) = codes "group " ++ message_name p m
kind_in p file (kind.Enum e) = enum_word (is_open p e) ++ enum_name p e
kind_in p file other = kind_name other

-- the word for how often a field may stand in a message
abbrev pub cardinality_word : Cardinality → List ℕ
cardinality_word Optional = codes "optional"
cardinality_word Required = codes "required"
cardinality_word Repeated = codes "repeated"

-- whether a kind of change is about the kinds of fields, and not about how often they may stand
abbrev pub shows_kind : WireChangeKind → Bool
shows_kind change.Kind = true
shows_kind change.FreeNumber = true
shows_kind _ = false

-- what a kind of change looks at in a field or an extension
abbrev pub entry_words : WireChangeKind → Parts → Entry → List ℕ
entry_words k p f = if shows_kind k then kind_in p f.file f.kind else cardinality_word f.cardinality

-- the same, or that there is no field and no extension
abbrev pub side_words : WireChangeKind → Parts → Option Entry → List ℕ
side_words k p f = option_map_or (entry_words k p) f (codes "no field")

-- the first number of the writer's enum that the reader's kind lacks
abbrev pub lacking_between : Parts → Option Entry → Parts → Option Entry → Option ℤ
lacking_between writer (Some f) reader (Some g) = lacking writer f.kind reader g.kind
lacking_between writer _ reader _ = None

-- the same of the fields or extensions with a number, in a direction
abbrev pub lacking_in : Direction → Compared → ℕ → Option ℤ
lacking_in Backward c n = lacking_between c.old (old_entry c n) c.new (new_entry c n)
lacking_in Forward c n = lacking_between c.new (new_entry c n) c.old (old_entry c n)

-- which number is lacking, if one is
abbrev pub lacking_words : Direction → Option ℤ → List ℕ
lacking_words d None = []
lacking_words Backward (Some x) = codes ", which lacks " ++ signed_decimal x
lacking_words Forward (Some x) = codes "; the older one lacks " ++ signed_decimal x

-- what is told behind both sides
abbrev pub behind_words : Direction → Compared → WireChangeKind → ℕ → List ℕ
behind_words d c change.Kind n = lacking_words d (lacking_in d c n)
behind_words d c change.FreeNumber n = codes ", and its number is not reserved"
behind_words d c _ n = []

-- both sides of a change
abbrev pub both_words : Compared → WireChangeKind → ℕ → List ℕ
both_words c k n = side_words k c.old (old_entry c n)
    ++ (codes " became " ++ side_words k c.new (new_entry c n))

-- both sides of a field that is in one oneof with another in the reader's version alone, by the
-- names of that field and of the oneof
abbrev pub joined_words : Direction → List ℕ → List ℕ → List ℕ
joined_words Backward partner oneof = codes "independent of '" ++ (partner
    ++ (codes "' became exclusive with it in the oneof '" ++ (oneof ++ codes "'")))
joined_words Forward partner oneof = codes "exclusive with '" ++ (partner
    ++ (codes "' in the oneof '" ++ (oneof ++ codes "' became independent of it")))

-- what took a number that was reserved: a field or an extension, if one did
abbrev pub taken_words : Parts → Option Entry → List ℕ
taken_words p f = option_map_or (λ g. kind_in p g.file g.kind) f (codes "not reserved")

-- both sides of a change, and what is told behind them
abbrev pub sides_words : Direction → Compared → WireChangeKind → ℕ → List ℕ
sides_words d c change.Oneof n = joined_words d (partner_name d c n) (oneof_name d c n)
sides_words d c change.Unreserved n =
    codes "reserved became " ++ taken_words c.new (new_entry c n)
sides_words d c k n = both_words c k n ++ behind_words d c k n

-- the text of a change: the full name and the number of what changes, and both sides
abbrev pub change_words : Direction → Compared → WireChangeKind → ℕ → List ℕ
change_words d c k n = codes "'" ++ (shown_name c n ++ (codes "' (" ++ (decimal n
    ++ (codes "): " ++ sides_words d c k n))))

-- what to do where a number cannot have both meanings
abbrev pub new_number : ℕ → List ℕ
new_number n = codes "take a new number, and write 'reserved " ++ (decimal n ++ codes ";'")

-- what to do about fields that come into one oneof
abbrev pub oneof_note : Direction → List ℕ
oneof_note Backward =
    codes "a writer may set two of these fields, and a reader keeps the last: leave it outside"
oneof_note Forward =
    codes "a writer may set two of these fields, and an older reader keeps the last: "
    ++ codes "leave it inside"

-- what to do about a required field
abbrev pub required_note : Direction → List ℕ
required_note Backward = codes "a reader refuses what an older writer leaves out: make it optional"
required_note Forward = codes "an older reader refuses what a writer leaves out: leave it required"

-- what to do about a change
abbrev pub change_note : Direction → WireChangeKind → ℕ → List ℕ
change_note d change.Kind n = new_number n
change_note d change.Cardinality n = new_number n
change_note d change.Oneof n = oneof_note d
change_note d change.Required n = required_note d
change_note d change.FreeNumber n =
    codes "write 'reserved " ++ (decimal n ++ codes ";', so that no later field takes the number")
change_note d change.Unreserved n = codes "an older writer may have used it: keep it reserved"
