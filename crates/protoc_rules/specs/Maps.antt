-- What the entries of maps may not be (protobuf's `ValidateMapEntry`).
use Rattle.std.specs.Prelude.{ℕ, ℤ, pos, ◌-◌, nat_le, Bool, true, false, not, ◌&&◌, ◌==◌, List, []}
use Rattle.std.specs.Prelude.{◌∷◌, ◌++◌, codes, length, slice_get, if◌then◌else◌}
use Rattle.std.specs.Option.{option_map_or}
use Rattle.std.specs.Ordering.{int_eq}
use Rattle.std.specs.Str.{bytes_eq}
use Rattle.std.specs.declared.option.Option.{Option}
use Rattle.std.specs.declared.option.Option.TheVariants.{None, Some}
use Rattle.plain_data.specs.Lists.{only_if}
use Rattle.proto_types.specs.Readers.{label_of, number_of, text_of}
use Rattle.proto_types.specs.declared.message.DescriptorProto.{DescriptorProto, out-DescriptorProto}
use Rattle.proto_types.specs.declared.records.field.FieldDescriptorProto.{FieldDescriptorProto}
use Rattle.proto_types.specs.declared.tag.field.TheConstants as field
use Rattle.pool_types.specs.declared.contents.definition.Identity.{Identity}
use Rattle.pool_types.specs.declared.contents.enumeration.EnumDescriptorInner.{EnumDescriptorInner}
use Rattle.pool_types.specs.declared.contents.field.FieldDescriptorInner.{FieldDescriptorInner}
use Rattle.pool_types.specs.declared.contents.message.MessageDescriptorInner.{MessageDescriptorInner}
use Rattle.pool_types.specs.declared.kinds.KindIndex.{KindIndex}
use Rattle.pool_types.specs.declared.kinds.KindIndex.TheVariants as index
use Rattle.protoc_rules.specs.declared.faults.StrictFault.{StrictFault}
use Rattle.protoc_rules.specs.declared.faults.StrictKind.TheVariants as kind
use Rattle.protoc_rules.specs.Faults.{at_part}
use Rattle.protoc_rules.specs.Labels.{is_optional, is_repeated}
use Rattle.protoc_rules.specs.Linked.{Linked, is_map_entry, message_record}
use Rattle.protoc_rules.specs.Sites.{Site}

-- an ASCII letter in upper case, where that is wanted; any other byte as it is
abbrev pub upper_if : Bool → ℕ → ℕ
upper_if wanted c = if wanted && nat_le 97 c && nat_le c 122 then c - 32 else c

-- a name in camel case: without underscores, each letter behind one in upper case; whether the next
-- letter is one
abbrev pub camel_case : Bool → List ℕ → List ℕ
camel_case capital [] = []
camel_case capital (c ∷ cs) = (if c == 95 then [] else upper_if capital c ∷ [])
    ++ camel_case (c == 95) cs

-- whether a name is that of the entry of a map field
abbrev pub is_entry_name : List ℕ → List ℕ → Bool
is_entry_name entry f = bytes_eq entry (camel_case true f ++ codes "Entry")

-- whether a field is optional and has a number and a name
abbrev pub is_part : FieldDescriptorProto → ℤ → List ℕ → Bool
is_part f n name =
    is_optional (label_of f.label) && int_eq (number_of f.number) n
    && bytes_eq (text_of f.name) name

-- whether two fields are the key and the value of an entry, and there is no other
abbrev pub are_parts : List FieldDescriptorProto → Bool
are_parts (key ∷ value ∷ []) =
    is_part key (pos 1) (codes "key") && is_part value (pos 2) (codes "value")
are_parts _ = false

-- whether a message has a key and a value
abbrev pub has_parts : DescriptorProto → Bool
has_parts m = are_parts (out-DescriptorProto m).field

-- whether a message declares nothing that entries do not have
abbrev pub is_plain : DescriptorProto → Bool
is_plain m = length (out-DescriptorProto m).nested_type == 0
    && length (out-DescriptorProto m).enum_type == 0
    && length (out-DescriptorProto m).extension_range == 0
    && length (out-DescriptorProto m).extension == 0

-- whether keys of maps may be of a kind: all but floating point, bytes, messages and enums
abbrev pub is_key : KindIndex → Bool
is_key index.Double = false
is_key index.Float = false
is_key index.Bytes = false
is_key (index.Message _) = false
is_key (index.Group _) = false
is_key (index.Enum _) = false
is_key _ = true

-- whether the message with an index is the one with an identity
abbrev pub is_message_at : Linked → Identity → ℕ → Bool
is_message_at l id n =
    option_map_or (λ m. bytes_eq m.id.full_name id.full_name) (slice_get l.messages n) false

-- whether the message around an item, given by its index, is the one with an identity
abbrev pub is_around : Linked → Option ℕ → Identity → Bool
is_around l parent id = option_map_or (is_message_at l id) parent false

-- whether the first value of an enum is another number than 0
abbrev pub first_is_not_zero : EnumDescriptorInner → Bool
first_is_not_zero e =
    option_map_or (λ v. not (int_eq v.number (pos 0))) (slice_get e.values 0) false

-- whether a kind is an enum of which the first value is another number than 0
abbrev pub begins_behind_zero : Linked → KindIndex → Bool
begins_behind_zero l (index.Enum e) =
    option_map_or first_is_not_zero (slice_get l.enums e) false
begins_behind_zero l _ = false

-- what the kinds of the key and the value of a map may not be, told at its field
abbrev pub kind_faults : Linked → Identity → List FieldDescriptorInner → List StrictFault
kind_faults l id (key ∷ value ∷ []) =
    only_if (not (is_key key.kind)) (at_part kind.MapKeyType id field.TYPE_NAME)
    ++ only_if (begins_behind_zero l value.kind) (at_part kind.MapEnumValue id field.TYPE_NAME)
kind_faults l id _ = []

-- whether a message is made as the entry of a map field of the message with an identity
abbrev pub is_entry_for : Linked → Site → Identity → MessageDescriptorInner → DescriptorProto → Bool
is_entry_for l s around m r =
    is_entry_name (text_of (out-DescriptorProto r).name) (text_of s.field.name)
    && is_repeated (label_of s.field.label) && is_plain r && has_parts r
    && is_around l m.parent around

-- what the entry of a map field of the message with an identity may not be: made otherwise than
-- that of a map, or with kinds that no map has
abbrev pub made_faults : Linked → Site → Identity → MessageDescriptorInner → DescriptorProto
    → List StrictFault
made_faults l s around m r = if is_entry_for l s around m r then kind_faults l s.id m.fields
    else at_part kind.MapEntry s.id field.TYPE_NAME ∷ []

-- what a field of a message kind may not be as a map field
abbrev pub message_map_faults : Linked → Site → Identity → ℕ → List StrictFault
message_map_faults l s around n = if is_map_entry l n then (option_map_or
    (λ m. option_map_or (made_faults l s around m) (message_record l m.id) [])
    (slice_get l.messages n) []) else []

-- the message that a kind is of; a group is of none here
abbrev pub message_of : KindIndex → Option ℕ
message_of (index.Message n) = Some n
message_of _ = None

-- what a map field of the message with an identity may not be
abbrev pub map_faults : Linked → Site → Identity → List StrictFault
map_faults l s around = option_map_or (message_map_faults l s around) (message_of s.kind) []
