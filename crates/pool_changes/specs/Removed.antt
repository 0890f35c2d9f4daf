-- What a reader lacks of what a writer has: files, messages, enums and their parts.
use Rattle.std.specs.Prelude.{ℕ, ℤ, Bool, true, false, ◌&&◌, ◌||◌, ◌==◌, List, [], ◌∷◌, ◌++◌, codes}
use Rattle.std.specs.Prelude.{length, slice_get, option_and_then, Option, Some, None, if◌then◌else◌}
use Rattle.std.specs.FinMap as finite
use Rattle.std.specs.List.{list_any}
use Rattle.std.specs.Option.{option_or, option_map_or}
use Rattle.std.specs.Ordering.{int_eq}
use Rattle.std.specs.Str.{bytes_eq}
use Rattle.pool_types.specs.Contents.{Contents}
use Rattle.pool_types.specs.LookUps.{value_numbered}
use Rattle.pool_types.specs.declared.contents.definition.DefinitionKind.{DefinitionKind}
use Rattle.pool_types.specs.declared.contents.definition.DefinitionKind.TheVariants as definition
use Rattle.pool_types.specs.declared.contents.definition.Identity.{Identity}
use Rattle.pool_types.specs.declared.contents.enumeration.EnumDescriptorInner.{EnumDescriptorInner}
use Rattle.pool_types.specs.declared.contents.enumeration.EnumValueDescriptorInner.{EnumValueDescriptorInner}
use Rattle.pool_types.specs.declared.contents.file.FileDescriptorInner.{FileDescriptorInner}
use Rattle.pool_types.specs.declared.contents.message.MessageDescriptorInner.{MessageDescriptorInner}
use Rattle.pool_types.specs.declared.contents.oneof.OneofDescriptorInner.{OneofDescriptorInner}
use Rattle.pool_types.specs.declared.kinds.Syntax.{Syntax}
use Rattle.pool_types.specs.declared.kinds.Syntax.TheVariants.{Proto2, Proto3}
use Rattle.proto_types.specs.Readers.{text_of, flag_of}
use Rattle.proto_types.specs.declared.records.field.FieldDescriptorProto.{FieldDescriptorProto}
use Rattle.proto_types.specs.declared.file.FileDescriptorProto.{FileDescriptorProto}
use Rattle.record_walk.specs.Leads.{leads}
use Rattle.record_walk.specs.Protos.{as_field, as_extension}
use Rattle.schema_changes.specs.declared.change.WireChange.{WireChange}
use Rattle.schema_changes.specs.declared.change.WireChangeKind.{WireChangeKind}
use Rattle.schema_changes.specs.declared.change.WireChangeKind.TheVariants as change
use Rattle.schema_changes.specs.Parts.{parts_of}
use Rattle.schema_changes.specs.MapEntries.{is_map_entry}
use Rattle.verdict_texts.specs.declared.telling.ToldFault.{ToldFault}
use Rattle.pool_changes.specs.Options.{options_changes}
use Rattle.pool_changes.specs.Sides.{Versions, Side, writer, reader, there, around, in_file}
use Rattle.pool_changes.specs.Sides.{file_told, removed, told_between, differing}
use Rattle.pool_changes.specs.declared.direction.Direction.{Direction}
use Rattle.pool_changes.specs.declared.direction.Direction.TheVariants.{Forward}
use Rattle.pool_changes.specs.declared.kinds.ElementChange.TheVariants as element

-- the enum of a pool that a definition is
abbrev pub enum_meant : Contents → DefinitionKind → Option EnumDescriptorInner
enum_meant p (definition.Enum e) = slice_get p.enums e
enum_meant p _ = None

-- the enum of a pool that a full name means
unfoldable pub enum_named : Contents → List ℕ → Option EnumDescriptorInner
enum_named p name = option_and_then (λ d. enum_meant p d.kind) (finite.get p.names name)

-- whether a kind of change is told in a direction; a field that an older reader lacks is unknown to
-- it, so that its number is free there is no change, nor that it was reserved
abbrev pub is_told : Direction → WireChangeKind → Bool
is_told Forward change.FreeNumber = false
is_told Forward change.Unreserved = false
is_told _ _ = true

-- whether two kinds of changes are one
abbrev pub same_kind : WireChangeKind → WireChangeKind → Bool
same_kind change.Kind change.Kind = true
same_kind change.Cardinality change.Cardinality = true
same_kind change.Oneof change.Oneof = true
same_kind change.Required change.Required = true
same_kind change.FreeNumber change.FreeNumber = true
same_kind change.Unreserved change.Unreserved = true
same_kind _ _ = false

-- whether changes of a message at wire have one of a kind with a number, which is told
abbrev pub tells : Direction → List WireChange → ℕ → WireChangeKind → Bool
tells d found n k = list_any (λ w. w.number == n && (same_kind w.kind k && is_told d w.kind)) found

-- what is told of a field or an extension with a number that a reader's message lacks, besides the
-- changes of the message at wire
abbrev pub field_removed : Versions → MessageDescriptorInner → List WireChange → Identity → ℕ
    → List ToldFault
field_removed v y found id n = if tells v.direction found n change.FreeNumber then [] else
    told_between v element.FieldRemoved (there id (codes "field") []) (around y.id (codes "field"))
    ∷ []

-- whether a value has the full name and the number of another
abbrev pub is_value_like : EnumValueDescriptorInner → EnumValueDescriptorInner → Bool
is_value_like x w = int_eq w.number x.number && bytes_eq w.id.full_name x.id.full_name

-- the name of a value, as a side
abbrev pub value_side : EnumValueDescriptorInner → Side
value_side x = there x.id (codes "name ") x.id.full_name

-- what is told of a value whose name has lost its number, by the first value that has it
abbrev pub value_lost : Versions → EnumDescriptorInner → EnumValueDescriptorInner
    → Option EnumValueDescriptorInner → List ToldFault
value_lost v f x None =
    told_between v element.ValueRemoved (there x.id (codes "value") [])
    (around f.id (codes "value")) ∷ []
value_lost v f x (Some w) =
    told_between v element.ValueName (value_side x) (value_side w) ∷ []

-- what a reader's enum changes of a value: its name has its number, or it is told
abbrev pub value_changes : Versions → EnumDescriptorInner → EnumValueDescriptorInner
    → List ToldFault
value_changes v f x =
    if list_any (is_value_like x) f.values then [] else value_lost v f x (value_numbered f x.number)

-- the word before the package of a file, which may be none
abbrev pub package_word : List ℕ → List ℕ
package_word [] = codes "no package"
package_word (c ∷ name) = codes "package "

-- the package of a file, as a side
abbrev pub package_side : Contents → FileDescriptorInner → Side
package_side p f =
    file_told p f (package_word (text_of f.raw.«package»)) (text_of f.raw.«package»)

-- the word for the syntax of a file
abbrev pub syntax_word : Syntax → List ℕ
syntax_word Proto2 = codes "proto2"
syntax_word Proto3 = codes "proto3"

-- the syntax of a file, as a side
abbrev pub syntax_side : Contents → FileDescriptorInner → Side
syntax_side p f = file_told p f (syntax_word f.syntax) []

-- what is told of a writer's file, by the reader's with its name
abbrev pub file_changes : Versions → FileDescriptorInner → Option FileDescriptorInner
    → List ToldFault
file_changes v f (Some g) =
    differing v element.FilePackage (package_side (writer v) f) (package_side (reader v) g)
    ++ (differing v element.FileSyntax (syntax_side (writer v) f) (syntax_side (reader v) g)
    ++ options_changes v f g)
file_changes v f None =
    told_between v element.FileRemoved (file_told (writer v) f (codes "file") [])
    (in_file None (codes "file")) ∷ []

-- the file of a pool with a name
abbrev pub file_named : Contents → List ℕ → Option FileDescriptorInner
file_named p name = option_and_then (slice_get p.files) (finite.get p.file_names name)

-- what is told of a message that the reader lacks, unless it is an entry of a map
abbrev pub message_removed : Versions → MessageDescriptorInner → List ToldFault
message_removed v x = if is_map_entry (parts_of (writer v)) x then []
    else removed v element.MessageRemoved x.id (codes "message")

-- the linked record of a field or an extension
abbrev pub field_in : FileDescriptorProto → List ℤ → Option FieldDescriptorProto
field_in f path = option_or (option_and_then as_field (leads f path))
    (option_and_then as_extension (leads f path))

-- the linked record of a field or an extension of a pool
abbrev pub field_record : Contents → Identity → Option FieldDescriptorProto
field_record p id = option_and_then (λ f. field_in f.raw id.path) (slice_get p.files id.file)

-- whether the field of a message at a position is one of proto3 that is said to be optional
abbrev pub is_optional_at : Contents → MessageDescriptorInner → ℕ → Bool
is_optional_at p m i = option_map_or (λ r. flag_of r.proto3_optional)
    (option_and_then (λ f. field_record p f.id) (slice_get m.fields i)) false

-- whether a oneof stands for the presence of a field alone: it has that field alone, which is said
-- to be optional (descriptor.proto on `proto3_optional`)
abbrev pub is_synthetic : Contents → MessageDescriptorInner → OneofDescriptorInner → Bool
is_synthetic p m o = length o.fields == 1 && list_any (is_optional_at p m) o.fields

-- whether a message has a oneof with a full name
abbrev pub has_oneof : MessageDescriptorInner → List ℕ → Bool
has_oneof m name = list_any (λ o. bytes_eq o.id.full_name name) m.oneofs

-- what a reader's message changes of a oneof of the writer's with its name
abbrev pub oneof_changes : Versions → MessageDescriptorInner → MessageDescriptorInner
    → OneofDescriptorInner → List ToldFault
oneof_changes v x y o =
    if has_oneof y o.id.full_name || is_synthetic (writer v) x o then []
    else told_between v element.OneofRemoved (there o.id (codes "oneof") [])
    (around y.id (codes "oneof")) ∷ []
