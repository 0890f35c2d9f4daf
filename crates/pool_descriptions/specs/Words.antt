-- Words of the text of a pool: names, kinds of fields, and where a declaration stands.
use Rattle.std.specs.Prelude.{ℕ, ℤ, pos, Bool, true, false, ◌==◌, List, [], ◌++◌, drop, slice_get}
use Rattle.std.specs.Prelude.{codes, if◌then◌else◌}
use Rattle.std.specs.List.{list_any}
use Rattle.std.specs.Fmt.{decimal, signed_decimal}
use Rattle.std.specs.Option.{option_map_or, option_and_then}
use Rattle.std.specs.Ordering.{int_eq}
use Rattle.std.specs.declared.option.Option.{Option}
use Rattle.proto_types.specs.Readers.{text_of}
use Rattle.record_lists.specs.Records.{field_parts, field_record}
use Rattle.pool_types.specs.Contents.{Contents}
use Rattle.pool_types.specs.Kinds.{kind_name, type_number}
use Rattle.pool_types.specs.declared.contents.definition.Identity.{Identity}
use Rattle.pool_types.specs.declared.kinds.Syntax.{Syntax}
use Rattle.pool_types.specs.declared.kinds.Syntax.TheVariants.{Proto2, Proto3}
use Rattle.pool_types.specs.declared.kinds.Cardinality.{Cardinality}
use Rattle.pool_types.specs.declared.kinds.Cardinality.TheVariants.{Optional, Required, Repeated}
use Rattle.pool_types.specs.declared.kinds.KindIndex.{KindIndex}
use Rattle.pool_types.specs.declared.kinds.KindIndex.TheVariants as kind
use Rattle.pool_faults.specs.Fault.{path_text}
use Rattle.record_walk.specs.Words.{alone}
use Rattle.verdict_texts.specs.Lines.{plain_text}

-- a name as a word: two quotes where it is empty, and an escape for each character that a terminal
-- would obey or hide
abbrev pub name_word : List ℕ → List ℕ
name_word name = plain_text (alone name)

-- the name of the file with an index
abbrev pub file_name : Contents → ℕ → List ℕ
file_name p file = name_word (option_map_or (λ f. text_of f.raw.name) (slice_get p.files file) [])

-- the full name of the message with an index
abbrev pub message_name : Contents → ℕ → List ℕ
message_name p message =
    name_word (option_map_or (λ m. m.id.full_name) (slice_get p.messages message) [])

-- the full name of the enum with an index
abbrev pub enum_name : Contents → ℕ → List ℕ
enum_name p enumeration =
    name_word (option_map_or (λ e. e.id.full_name) (slice_get p.enums enumeration) [])

-- whether a text has a dot from a byte on
abbrev pub has_dot_from : List ℕ → ℕ → Bool
has_dot_from text index = list_any (λ c. c == 46) (drop index text)

-- the byte at which the declared name begins, where that is not the last part of the full name
abbrev pub index_words : Identity → List ℕ
index_words id = if has_dot_from id.full_name id.name_index
    then codes " name_index " ++ decimal id.name_index else []

-- the path of a declaration, and where its declared name begins
abbrev pub place_words : Identity → List ℕ
place_words id = path_text id.path ++ index_words id

-- the word for a syntax
abbrev pub syntax_word : Syntax → List ℕ
syntax_word Proto2 = codes "proto2"
syntax_word Proto3 = codes "proto3"

-- the word for how often a field stands in a message
abbrev pub cardinality_word : Cardinality → List ℕ
cardinality_word Optional = codes "optional"
cardinality_word Required = codes "required"
cardinality_word Repeated = codes "repeated"

-- the kind of a field, with the full name of the message or the enum that it is of
abbrev pub kind_words : Contents → KindIndex → List ℕ
kind_words p (kind.Message m) = codes "message " ++ message_name p m
kind_words p (kind.Group m) = codes "group " ++ message_name p m
kind_words p (kind.Enum e) = codes "enum " ++ enum_name p e
kind_words p other = kind_name other

-- how often a field stands in a message, and its kind
abbrev pub type_words : Contents → Cardinality → KindIndex → List ℕ
type_words p c k = cardinality_word c ++ (codes " " ++ kind_words p k)

-- whether a list is packed, and whether a message tells that a field is set
abbrev pub flag_words : Bool → Bool → List ℕ
flag_words true true = codes " packed presence"
flag_words true false = codes " packed"
flag_words false true = codes " presence"
flag_words false false = []

-- whether a field is a map
abbrev pub map_word : Bool → List ℕ
map_word true = codes " map"
map_word false = []

-- that a part is deprecated, behind what is told of it
abbrev pub deprecated_word : Bool → List ℕ
deprecated_word true = codes " deprecated"
deprecated_word false = []

-- that an item is deprecated
abbrev pub deprecated_line : Bool → List ℕ
deprecated_line true = codes "  deprecated\n"
deprecated_line false = []

-- whether a method takes or gives a stream of a message, before the message
abbrev pub stream_word : Bool → List ℕ
stream_word true = codes "stream "
stream_word false = []

-- the number of the type that the linked record of a field or an extension has
abbrev pub written_type : Contents → Identity → Option ℤ
written_type p id = option_and_then (λ r. r.type_) (field_record p.files id)

-- a number of a type, where it is not the one that is written for the kind
abbrev pub number_words : KindIndex → ℤ → List ℕ
number_words k number =
    if int_eq number (pos (type_number k)) then [] else codes " type " ++ signed_decimal number

-- the same of the type that the linked record has
abbrev pub written_words : Contents → Identity → KindIndex → List ℕ
written_words p id k = option_map_or (number_words k) (written_type p id) (codes " type none")

-- what is told of a field or an extension by its linked record
abbrev pub record_words : Contents → Identity → KindIndex → List ℕ
record_words p id k =
    written_words p id k ++ deprecated_word (field_parts p.files id).is_deprecated
