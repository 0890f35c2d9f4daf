-- A field or an extension of a message, as JSON and code that is made of the schema have it.
use Rattle.std.specs.Prelude.{ℕ, ℤ, pos, Bool, true, false, List, [], ◌++◌, codes, is_some, unwrap_or}
use Rattle.std.specs.Prelude.{slice_get, option_map, option_and_then, Option, Some, None}
use Rattle.std.specs.Prelude.{if◌then◌else◌}
use Rattle.std.specs.FinMap as finite
use Rattle.std.specs.Fmt.{signed_decimal}
use Rattle.std.specs.Option.{option_or, option_map_or}
use Rattle.pool_types.specs.Contents.{Contents}
use Rattle.pool_types.specs.Kinds.{kind_name}
use Rattle.pool_types.specs.LookUps.{field_numbered}
use Rattle.pool_types.specs.declared.contents.definition.Identity.{Identity}
use Rattle.pool_types.specs.declared.contents.enumeration.EnumValueDescriptorInner.{EnumValueDescriptorInner}
use Rattle.pool_types.specs.declared.contents.extension.ExtensionDescriptorInner.{ExtensionDescriptorInner}
use Rattle.pool_types.specs.declared.contents.field.FieldDescriptorInner.{FieldDescriptorInner}
use Rattle.pool_types.specs.declared.contents.message.MessageDescriptorInner.{MessageDescriptorInner}
use Rattle.pool_types.specs.declared.contents.oneof.OneofDescriptorInner.{OneofDescriptorInner}
use Rattle.pool_types.specs.declared.default_value.DefaultValue.{DefaultValue}
use Rattle.pool_types.specs.declared.default_value.DefaultValue.TheVariants as value
use Rattle.pool_types.specs.declared.kinds.Cardinality.{Cardinality}
use Rattle.pool_types.specs.declared.kinds.Cardinality.TheVariants as cardinality
use Rattle.pool_types.specs.declared.kinds.KindIndex.{KindIndex}
use Rattle.pool_types.specs.declared.kinds.KindIndex.TheVariants as kind
use Rattle.schema_changes.specs.declared.entries.Entry.{Entry}
use Rattle.schema_changes.specs.Entries.{field_entry, extension_entry}
use Rattle.schema_changes.specs.MapEntries.{map_entry_at}
use Rattle.schema_changes.specs.Parts.{parts_of}
use Rattle.pool_changes.specs.Removed.{field_record, is_synthetic}
use Rattle.pool_changes.specs.Sides.{Side, there}
use Rattle.pool_changes.specs.Words.{message_name, enum_name}
use Rattle.pool_changes.specs.declared.fields.Part as lent

-- a field or an extension: what bytes are read by, its JSON name, whether a message tells that it is
-- set, and the default value that it is given
pub record Part : Type 0 where
  pub id : Identity
  pub entry : Entry
  pub json_name : List ℕ
  pub has_presence : Bool
  pub default : Option DefaultValue

-- the part that is lent to the code
abbrev pub part : lent.Part → Part
part x = record {
  id = x.id.now;
  entry = x.entry;
  json_name = x.json_name.now;
  has_presence = x.has_presence;
  default = x.default.now;
}

-- a field; its full name stands for a JSON name that was not given
abbrev pub field_part : FieldDescriptorInner → Part
field_part f = record {
  id = f.id;
  entry = field_entry f;
  json_name = unwrap_or f.json_name f.id.full_name;
  has_presence = f.supports_presence;
  default = f.default;
}

-- an extension
abbrev pub extension_part : ExtensionDescriptorInner → Part
extension_part x = record {
  id = x.id;
  entry = extension_entry x;
  json_name = x.json_name;
  has_presence = true;
  default = x.default;
}

-- the extension with an index
abbrev pub extension_part_at : Contents → ℕ → Option Part
extension_part_at p i = option_map extension_part (slice_get p.extensions i)

-- the field of a message with a number, or else the extension
abbrev pub part_numbered : Contents → MessageDescriptorInner → ℕ → Option Part
part_numbered p m n = option_or (option_map field_part (field_numbered m n))
    (option_and_then (extension_part_at p) (finite.get m.extension_numbers n))

-- whether a kind is that of a message or of an enum, which has a name
abbrev pub is_named : KindIndex → Bool
is_named (kind.Message m) = true
is_named (kind.Group m) = true
is_named (kind.Enum e) = true
is_named _ = false

-- the JSON name, as a side
abbrev pub json_side : Part → Side
json_side f = there f.id (codes "JSON name ") f.json_name

-- whether a cardinality is repeated, in words
abbrev pub repeated_word : Cardinality → List ℕ
repeated_word cardinality.Repeated = codes "list"
repeated_word _ = codes "one value"

-- whether it is repeated, as a side
abbrev pub repeated_side : Part → Side
repeated_side f = there f.id (repeated_word f.entry.cardinality) []

-- the name, as a side
abbrev pub name_side : Part → Side
name_side f = there f.id (codes "name ") f.id.full_name

-- the word for a kind of messages, by whether they are entries of a map
abbrev pub message_word : Bool → List ℕ
message_word true = codes "map"
message_word false = codes "message "

-- the word for a kind, before the name of a message or of an enum
abbrev pub type_word : Contents → KindIndex → List ℕ
type_word p (kind.Message m) = message_word (is_some (map_entry_at (parts_of p) m))
type_word p (kind.Group m) = codes "group "
type_word p (kind.Enum e) = codes "enum "
type_word p other = kind_name other

-- the name of a message of a pool; an entry of a map shows none
abbrev pub type_message : Contents → ℕ → List ℕ
type_message p m =
    if is_some (map_entry_at (parts_of p) m) then [] else message_name (parts_of p) m

-- the name of the message or the enum of a kind
abbrev pub type_name : Contents → KindIndex → List ℕ
type_name p (kind.Message m) = type_message p m
type_name p (kind.Group m) = message_name (parts_of p) m
type_name p (kind.Enum e) = enum_name (parts_of p) e
type_name p other = []

-- the type, as a side
abbrev pub type_side : Contents → Part → Side
type_side p f = there f.id (type_word p f.entry.kind) (type_name p f.entry.kind)

-- the word for the form that messages have in JSON, by whether they are entries of a map
abbrev pub object_word : Bool → List ℕ
object_word true = codes "object of keys and values"
object_word false = codes "object "

-- the word for the form that values of a kind have in JSON, before the name of a message or of an
-- enum
abbrev pub json_word : Contents → KindIndex → List ℕ
json_word p kind.Bool = codes "true or false"
json_word p kind.String = codes "text"
json_word p kind.Bytes = codes "text in base64"
json_word p (kind.Message m) = object_word (is_some (map_entry_at (parts_of p) m))
json_word p (kind.Group m) = codes "object "
json_word p (kind.Enum e) = codes "name of a value of "
json_word p _ = codes "number"

-- the form in JSON, as a side
abbrev pub form_side : Contents → Part → Side
form_side p f = there f.id (json_word p f.entry.kind) (type_name p f.entry.kind)

-- how a message tells that it is set, in words
abbrev pub presence_word : Cardinality → Bool → List ℕ
presence_word cardinality.Required _ = codes "required"
presence_word cardinality.Repeated _ = codes "repeated"
presence_word cardinality.Optional true = codes "explicit presence"
presence_word cardinality.Optional false = codes "implicit presence"

-- the same, as a side
abbrev pub presence_side : Part → Side
presence_side f = there f.id (presence_word f.entry.cardinality f.has_presence) []

-- the first value of the enum of a kind, if it is one
abbrev pub first_value : Contents → KindIndex → Option EnumValueDescriptorInner
first_value p (kind.Enum e) = option_and_then (λ x. slice_get x.values 0) (slice_get p.enums e)
first_value p _ = None

-- the number that a missing field is read as where no default value is given: that of the first
-- value of its enum, or 0
abbrev pub first_number : Contents → KindIndex → ℤ
first_number p k = option_map_or (λ x. x.number) (first_value p k) (pos 0)

-- a value of an enum, by its name and its number
abbrev pub value_shown : List ℕ → ℤ → List ℕ
value_shown name number = name ++ (codes " = " ++ signed_decimal number)

-- what a missing field is read as where no default value is given, as a side
abbrev pub first_side : Part → Option EnumValueDescriptorInner → Side
first_side f (Some x) = there f.id (codes "first value ") (value_shown x.id.full_name x.number)
first_side f None = there f.id (codes "no default value") []

-- a default value by the text that its record gives, with the number of a value of an enum
abbrev pub default_shown : Option DefaultValue → List ℕ → List ℕ
default_shown (Some (value.EnumNumber number)) text = value_shown text number
default_shown _ text = text

-- the text that a record gives for a default value
abbrev pub default_text : Contents → Part → Option (List ℕ)
default_text p f = option_and_then (λ r. r.default_value) (field_record p f.id)

-- a default value that is given, or what is read without one, as a side
abbrev pub given_default : Contents → Part → Option (List ℕ) → Side
given_default p f (Some text) = there f.id (codes "default value ") (default_shown f.default text)
given_default p f None = first_side f (first_value p f.entry.kind)

-- what a missing field is read as, as a side
abbrev pub default_side : Contents → Part → Side
default_side p f = given_default p f (default_text p f)

-- the oneof of a message at a position, unless it stands for the presence of a field alone
abbrev pub oneof_at : Contents → MessageDescriptorInner → ℕ → Option OneofDescriptorInner
oneof_at p m i = option_and_then (λ o. if is_synthetic p m o then None else Some o)
    (slice_get m.oneofs i)

-- a oneof that it is in, or none, as a side
abbrev pub given_oneof : Part → Option OneofDescriptorInner → Side
given_oneof f (Some o) = there f.id (codes "part of ") o.id.full_name
given_oneof f None = there f.id (codes "part of no oneof") []

-- the oneof that it is in, as a side
abbrev pub oneof_side : Contents → MessageDescriptorInner → Part → Side
oneof_side p m f = given_oneof f (option_and_then (oneof_at p m) f.entry.oneof)
