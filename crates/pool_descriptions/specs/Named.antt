-- What a name means in a pool, as a text.
use Rattle.std.specs.Prelude.{ℕ, ℤ, pos, ◌-ℤ◌, List, [], ◌++◌, slice_get, codes, if◌then◌else◌}
use Rattle.std.specs.FinMap as finite
use Rattle.std.specs.List.{flat_map}
use Rattle.std.specs.Fmt.{signed_decimal}
use Rattle.std.specs.Option.{option_and_then, option_map_or}
use Rattle.std.specs.declared.option.Option.{Option}
use Rattle.std.specs.declared.option.Option.TheVariants.{None, Some}
use Rattle.proto_types.specs.Readers.{number_of}
use Rattle.proto_types.specs.declared.message.DescriptorProto.{DescriptorProto, out-DescriptorProto}
use Rattle.proto_types.specs.declared.message.ExtensionRange.{ExtensionRange}
use Rattle.proto_types.specs.declared.message.ReservedRange.{ReservedRange}
use Rattle.pool_types.specs.Contents.{Contents}
use Rattle.pool_types.specs.Definition.{is_package}
use Rattle.pool_types.specs.declared.contents.definition.Definition.{Definition}
use Rattle.pool_types.specs.declared.contents.definition.DefinitionKind.{DefinitionKind}
use Rattle.pool_types.specs.declared.contents.definition.DefinitionKind.TheVariants as kind
use Rattle.pool_types.specs.declared.contents.definition.Identity.{Identity}
use Rattle.pool_types.specs.declared.contents.file.FileDescriptorInner.{FileDescriptorInner}
use Rattle.pool_types.specs.declared.contents.message.MessageDescriptorInner.{MessageDescriptorInner}
use Rattle.pool_contents.specs.LookUps.{definition_named}
use Rattle.pool_faults.specs.Fault.{path_text}
use Rattle.record_lists.specs.Records.{message_record}
use Rattle.pool_descriptions.specs.Items.{enum_text, extension_text, file_text, message_text}
use Rattle.pool_descriptions.specs.Items.{service_text}
use Rattle.pool_descriptions.specs.Words.{file_name, name_word}

-- a range of numbers behind a word for it: its first number and its last one
unfoldable pub range_line : List ℕ → ℤ → ℤ → List ℕ
range_line word start behind = codes "  " ++ (word ++ (codes " " ++ (signed_decimal start
    ++ (codes " to " ++ (signed_decimal (behind -ℤ pos 1) ++ codes "\n")))))

-- a range of numbers that are left to extensions
abbrev pub extension_range_line : ExtensionRange → List ℕ
extension_range_line r = range_line (codes "extensions") (number_of r.start) (number_of r.«end»)

-- a range of numbers that no field may have
abbrev pub reserved_range_line : ReservedRange → List ℕ
reserved_range_line r = range_line (codes "reserved") (number_of r.start) (number_of r.«end»)

-- the ranges of a message's record
abbrev pub ranges_of : DescriptorProto → List ℕ
ranges_of m = flat_map extension_range_line (out-DescriptorProto m).extension_range
    ++ flat_map reserved_range_line (out-DescriptorProto m).reserved_range

-- the ranges of a message
abbrev pub range_lines : Contents → Identity → List ℕ
range_lines p id = option_map_or ranges_of (message_record p.files id) []

-- a message and its ranges
abbrev pub whole_message : Contents → MessageDescriptorInner → List ℕ
whole_message p m = message_text p m ++ range_lines p m.id

-- the message with an index and its ranges
abbrev pub message_at : Contents → ℕ → List ℕ
message_at p index = option_map_or (whole_message p) (slice_get p.messages index) []

-- the service with an index
abbrev pub service_at : Contents → ℕ → List ℕ
service_at p index = option_map_or (service_text p) (slice_get p.services index) []

-- the enum with an index
abbrev pub enum_at : Contents → ℕ → List ℕ
enum_at p index = option_map_or (enum_text p) (slice_get p.enums index) []

-- the extension with an index
abbrev pub extension_at : Contents → ℕ → List ℕ
extension_at p index = option_map_or (extension_text p) (slice_get p.extensions index) []

-- the item that a kind of definition names, or in which it stands
abbrev pub item_text : Contents → DefinitionKind → List ℕ
item_text p kind.Package = []
item_text p (kind.Message m) = message_at p m
item_text p (kind.Field m) = message_at p m
item_text p (kind.Oneof m) = message_at p m
item_text p (kind.Service s) = service_at p s
item_text p (kind.Method s) = service_at p s
item_text p (kind.Enum e) = enum_at p e
item_text p (kind.EnumValue e) = enum_at p e
item_text p (kind.Extension x) = extension_at p x

-- a package, and the first file that has it
abbrev pub package_text : Contents → List ℕ → Definition → List ℕ
package_text p name d = codes "package " ++ (name_word name ++ (codes " " ++ (file_name p d.file
    ++ (codes " " ++ (path_text d.path ++ codes "\n")))))

-- what a full name means
abbrev pub definition_text : Contents → List ℕ → Definition → List ℕ
definition_text p name d =
    if is_package d.kind then package_text p name d else item_text p d.kind

-- the file with a name
abbrev pub file_named : Contents → List ℕ → Option FileDescriptorInner
file_named p name = option_and_then (slice_get p.files) (finite.get p.file_names name)

-- the file with a name, where there is one
abbrev pub named_file_text : Contents → List ℕ → List ℕ
named_file_text p name = option_map_or (file_text p) (file_named p name) []

-- what a name means by what it is as a full name, or else as the name of a file
abbrev pub text_by : Contents → List ℕ → Option Definition → List ℕ
text_by p name (Some d) = definition_text p name d
text_by p name None = named_file_text p name

-- what a name means: as a full name, or else as the name of a file; nothing where it means nothing
unfoldable pub name_text : Contents → List ℕ → List ℕ
name_text p name = text_by p name (definition_named p name)
