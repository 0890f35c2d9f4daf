-- What a pool has, as a text: lines for each file, message, enum, service and extension.
use Rattle.std.specs.Prelude.{ℕ, List, [], ◌++◌, slice_get, codes, Bool, true, false, ◌∷◌}
use Rattle.std.specs.List.{flat_map}
use Rattle.std.specs.Fmt.{decimal, signed_decimal}
use Rattle.std.specs.Option.{option_map_or}
use Rattle.std.specs.declared.option.Option.{Option}
use Rattle.proto_types.specs.Readers.{text_of}
use Rattle.proto_types.specs.declared.message.DescriptorProto.{out-DescriptorProto}
use Rattle.pool_types.specs.Contents.{Contents}
use Rattle.pool_types.specs.declared.contents.definition.Identity.{Identity}
use Rattle.pool_types.specs.declared.contents.enumeration.EnumDescriptorInner.{EnumDescriptorInner}
use Rattle.pool_types.specs.declared.contents.enumeration.EnumValueDescriptorInner.{EnumValueDescriptorInner}
use Rattle.pool_types.specs.declared.contents.extension.ExtensionDescriptorInner.{ExtensionDescriptorInner}
use Rattle.pool_types.specs.declared.contents.field.FieldDescriptorInner.{FieldDescriptorInner}
use Rattle.pool_types.specs.declared.contents.file.FileDescriptorInner.{FileDescriptorInner}
use Rattle.pool_types.specs.declared.contents.message.MessageDescriptorInner.{MessageDescriptorInner}
use Rattle.pool_types.specs.declared.contents.oneof.OneofDescriptorInner.{OneofDescriptorInner}
use Rattle.pool_types.specs.declared.contents.service.MethodDescriptorInner.{MethodDescriptorInner}
use Rattle.pool_types.specs.declared.contents.service.ServiceDescriptorInner.{ServiceDescriptorInner}
use Rattle.descriptor_decoding.specs.Flags.{says}
use Rattle.pool_descriptions.specs.Values.{default_words}
use Rattle.verdict_texts.specs.Lines.{plain_text}
use Rattle.record_lists.specs.Flags.{is_map}
use Rattle.record_lists.specs.Records.{enum_parts, enum_record, is_service_deprecated}
use Rattle.record_lists.specs.Records.{is_value_deprecated, message_parts, message_record}
use Rattle.record_lists.specs.Records.{method_parts}
use Rattle.record_lists.specs.declared.records.MethodParts.{MethodParts}
use Rattle.pool_descriptions.specs.Words.{name_word, file_name, message_name, place_words}
use Rattle.pool_descriptions.specs.Words.{syntax_word}
use Rattle.pool_descriptions.specs.Words.{type_words, flag_words, record_words, map_word}
use Rattle.pool_descriptions.specs.Words.{stream_word}
use Rattle.pool_descriptions.specs.Words.{deprecated_word, deprecated_line}

-- the name and the syntax of a file
abbrev pub file_head : FileDescriptorInner → List ℕ
file_head f = codes "file " ++ (name_word (text_of f.raw.name) ++ (codes " "
    ++ (syntax_word f.syntax ++ codes "\n")))

-- a package, where it has a name
abbrev pub package_line : List ℕ → List ℕ
package_line [] = []
package_line (c ∷ cs) = codes "  package " ++ (plain_text (c ∷ cs) ++ codes "\n")

-- a file that is imported
abbrev pub import_line : Contents → ℕ → List ℕ
import_line p file = codes "  import " ++ (file_name p file ++ codes "\n")

-- a file whose names are seen
abbrev pub seen_line : Contents → ℕ → List ℕ
seen_line p file = codes "  sees " ++ (file_name p file ++ codes "\n")

-- a file, what it imports and what it sees
abbrev pub file_text : Contents → FileDescriptorInner → List ℕ
file_text p f = (file_head f ++ deprecated_line (says 23 f.raw.options))
    ++ (package_line (text_of f.raw.package) ++ (flat_map (import_line p) f.dependencies
    ++ flat_map (seen_line p) f.transitive_dependencies.keys))

-- the name of an item behind a word for its kind, and where it is declared
abbrev pub head_line : List ℕ → Contents → Identity → List ℕ
head_line word p id = word ++ (codes " " ++ (name_word id.full_name ++ (codes " "
    ++ (file_name p id.file ++ (codes " " ++ (place_words id ++ codes "\n"))))))

-- the message around an item, where it is nested
abbrev pub parent_line : Contents → Option ℕ → List ℕ
parent_line p parent =
    option_map_or (λ m. codes "  in " ++ (message_name p m ++ codes "\n")) parent []

-- the field with a position, behind its oneof
abbrev pub member_words : List FieldDescriptorInner → ℕ → List ℕ
member_words fields position =
    codes " " ++ name_word (option_map_or (λ f. f.id.full_name) (slice_get fields position) [])

-- the fields with some positions
abbrev pub members_words : List FieldDescriptorInner → List ℕ → List ℕ
members_words fields positions = flat_map (member_words fields) positions

-- a oneof and its fields
unfoldable pub oneof_line : List FieldDescriptorInner → OneofDescriptorInner → List ℕ
oneof_line fields o = codes "  oneof " ++ (name_word o.id.full_name ++ (codes " "
    ++ (place_words o.id ++ (members_words fields o.fields ++ codes "\n"))))

-- the full name of the oneof with a position
abbrev pub oneof_name : List OneofDescriptorInner → ℕ → List ℕ
oneof_name oneofs position =
    name_word (option_map_or (λ o. o.id.full_name) (slice_get oneofs position) [])

-- the oneof of a field, where it has one
abbrev pub oneof_words : List OneofDescriptorInner → Option ℕ → List ℕ
oneof_words oneofs position =
    option_map_or (λ i. codes " oneof " ++ oneof_name oneofs i) position []

-- the JSON name of a field, where one was given
abbrev pub json_words : Option (List ℕ) → List ℕ
json_words name = option_map_or (λ n. codes " json_name " ++ name_word n) name []

-- what is told of a field behind its number and its place
abbrev pub mark_words : Contents → List OneofDescriptorInner → FieldDescriptorInner → List ℕ
mark_words p oneofs f = oneof_words oneofs f.oneof
    ++ (flag_words f.is_packed f.supports_presence
    ++ (map_word (is_map p.files p.messages f.cardinality f.kind) ++ (json_words f.json_name
    ++ (default_words f.default ++ record_words p f.id f.kind))))

-- a field
unfoldable pub field_line :
    Contents → List OneofDescriptorInner → FieldDescriptorInner → List ℕ
field_line p oneofs f = codes "  " ++ (type_words p f.cardinality f.kind ++ (codes " "
    ++ (name_word f.id.full_name ++ (codes " = " ++ (decimal f.number ++ (codes " "
    ++ (place_words f.id ++ (mark_words p oneofs f ++ codes "\n"))))))))

-- an extension of a message, and its number
abbrev pub extended_line : ExtensionDescriptorInner → List ℕ
extended_line x = codes "  extended " ++ (name_word x.id.full_name ++ (codes " = "
    ++ (decimal x.number ++ codes "\n")))

-- the same of the extension with an index
abbrev pub extended_at : Contents → ℕ → List ℕ
extended_at p index = option_map_or extended_line (slice_get p.extensions index) []

-- the name of a message, where it is declared, the message around it, and whether it is deprecated
abbrev pub message_head : Contents → MessageDescriptorInner → List ℕ
message_head p m = head_line (codes "message") p m.id
    ++ (parent_line p m.parent ++ deprecated_line (message_parts p.files m.id).is_deprecated)

-- the oneofs of a message
abbrev pub oneof_lines : MessageDescriptorInner → List ℕ
oneof_lines m = flat_map (oneof_line m.fields) m.oneofs

-- the fields of a message
abbrev pub field_lines : Contents → MessageDescriptorInner → List ℕ
field_lines p m = flat_map (field_line p m.oneofs) m.fields

-- a name that is reserved
unfoldable pub reserved_name_line : List ℕ → List ℕ
reserved_name_line name = codes "  reserved_name " ++ (name_word name ++ codes "\n")

-- the names that the record of a message reserves
abbrev pub message_names : Contents → Identity → List ℕ
message_names p id =
    option_map_or (λ r. flat_map reserved_name_line (out-DescriptorProto r).reserved_name)
    (message_record p.files id) []

-- the names that the record of an enum reserves
abbrev pub enum_names : Contents → Identity → List ℕ
enum_names p id =
    option_map_or (λ r. flat_map reserved_name_line r.reserved_name) (enum_record p.files id) []

-- a message: its oneofs, its fields, what extends it, and the names that it reserves
abbrev pub message_text : Contents → MessageDescriptorInner → List ℕ
message_text p m = message_head p m ++ (oneof_lines m ++ (field_lines p m
    ++ (flat_map (extended_at p) m.extensions ++ message_names p m.id)))

-- whether two values may have one number
abbrev pub alias_line : Bool → List ℕ
alias_line true = codes "  allow_alias\n"
alias_line false = []

-- a value of an enum
unfoldable pub value_line : Contents → EnumValueDescriptorInner → List ℕ
value_line p v = codes "  value " ++ (name_word v.id.full_name ++ (codes " = "
    ++ (signed_decimal v.number ++ (codes " " ++ (place_words v.id
    ++ (deprecated_word (is_value_deprecated p.files v.id) ++ codes "\n"))))))

-- the name of an enum, where it is declared, the message around it, and whether it is deprecated
abbrev pub enum_head : Contents → EnumDescriptorInner → List ℕ
enum_head p e = head_line (codes "enum") p e.id
    ++ (parent_line p e.parent ++ deprecated_line (enum_parts p.files e.id).is_deprecated)

-- an enum, its values, and the names that it reserves
abbrev pub enum_text : Contents → EnumDescriptorInner → List ℕ
enum_text p e = enum_head p e ++ (alias_line e.allow_alias
    ++ (flat_map (value_line p) e.values ++ enum_names p e.id))

-- the message that a method takes and the one that it gives, each as one or as a stream
abbrev pub method_words : Contents → MethodDescriptorInner → MethodParts → List ℕ
method_words p m parts = codes "(" ++ (stream_word parts.client_streaming
    ++ (message_name p m.input ++ (codes ") returns (" ++ (stream_word parts.server_streaming
    ++ (message_name p m.output ++ codes ")")))))

-- a method, by what its record says
unfoldable pub method_line_by : Contents → MethodDescriptorInner → MethodParts → List ℕ
method_line_by p m parts = codes "  rpc " ++ (name_word m.id.full_name ++ (codes " "
    ++ (method_words p m parts ++ (codes " " ++ (place_words m.id
    ++ (deprecated_word parts.is_deprecated ++ codes "\n"))))))

-- a method
abbrev pub method_line : Contents → MethodDescriptorInner → List ℕ
method_line p m = method_line_by p m (method_parts p.files m.id)

-- a service and its methods
abbrev pub service_text : Contents → ServiceDescriptorInner → List ℕ
service_text p s = (head_line (codes "service") p s.id
    ++ deprecated_line (is_service_deprecated p.files s.id)) ++ flat_map (method_line p) s.methods

-- what is told of an extension behind its kind
abbrev pub extension_marks : Contents → ExtensionDescriptorInner → List ℕ
extension_marks p x = flag_words x.is_packed false ++ (codes " json_name "
    ++ (name_word x.json_name ++ (default_words x.default ++ record_words p x.id x.kind)))

-- what an extension extends, and what it is as a field
abbrev pub extends_line : Contents → ExtensionDescriptorInner → List ℕ
extends_line p x = codes "  extends " ++ (message_name p x.extendee ++ (codes " = "
    ++ (decimal x.number ++ (codes " " ++ (type_words p x.cardinality x.kind
    ++ (extension_marks p x ++ codes "\n"))))))

-- an extension
abbrev pub extension_text : Contents → ExtensionDescriptorInner → List ℕ
extension_text p x = (head_line (codes "extension") p x.id ++ parent_line p x.parent)
    ++ extends_line p x

-- all files of a pool
abbrev pub files_text : Contents → List ℕ
files_text p = flat_map (file_text p) p.files

-- all messages of a pool
abbrev pub messages_text : Contents → List ℕ
messages_text p = flat_map (message_text p) p.messages

-- all enums of a pool
abbrev pub enums_text : Contents → List ℕ
enums_text p = flat_map (enum_text p) p.enums

-- all services of a pool
abbrev pub services_text : Contents → List ℕ
services_text p = flat_map (service_text p) p.services

-- all extensions of a pool
abbrev pub extensions_text : Contents → List ℕ
extensions_text p = flat_map (extension_text p) p.extensions

-- all that a pool has, each kind in the order of linking
abbrev pub pool_text : Contents → List ℕ
pool_text p = files_text p ++ (messages_text p ++ (enums_text p ++ (services_text p
    ++ extensions_text p)))
