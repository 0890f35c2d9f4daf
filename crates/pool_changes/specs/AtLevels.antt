-- What changes at the levels behind wire, in the order of the writer's items.
use Rattle.std.specs.Prelude.{ℕ, Bool, true, false, List, [], ◌++◌, codes, Option, Some, None}
use Rattle.std.specs.List.{flat_map}
use Rattle.pool_types.specs.Contents.{Contents}
use Rattle.pool_types.specs.declared.contents.enumeration.EnumDescriptorInner.{EnumDescriptorInner}
use Rattle.pool_types.specs.declared.contents.message.MessageDescriptorInner.{MessageDescriptorInner}
use Rattle.proto_types.specs.Readers.{text_of}
use Rattle.schema_changes.specs.Changes.{message_changes}
use Rattle.schema_changes.specs.Parts.{parts_of, in_proto3}
use Rattle.schema_changes.specs.Pools.{message_named}
use Rattle.schema_changes.specs.declared.change.WireChange.{WireChange}
use Rattle.verdict_texts.specs.declared.telling.ToldFault.{ToldFault}
use Rattle.pool_changes.specs.FieldChanges.{part_json, part_source}
use Rattle.pool_changes.specs.FieldParts.{Part, field_part, extension_part_at, part_numbered}
use Rattle.pool_changes.specs.Removed.{enum_named, field_removed, value_changes, file_changes}
use Rattle.pool_changes.specs.Removed.{file_named, message_removed, oneof_changes}
use Rattle.pool_changes.specs.Sides.{Versions, Side, both_of, first_by, writer, reader, there}
use Rattle.pool_changes.specs.Sides.{differing, removed}
use Rattle.pool_changes.specs.declared.kinds.ElementChange.TheVariants as element

-- what changes at json of a field or an extension, by the reader's message, what changes of it at
-- wire, and the reader's with the number
abbrev pub entry_json : Versions → MessageDescriptorInner → List WireChange → Part → Option Part
    → List ToldFault
entry_json v y found f (Some g) = part_json v found f g
entry_json v y found f None = field_removed v y found f.id f.entry.number

-- what changes at json of a field, which is looked up by its number
abbrev pub numbered_json : Versions → MessageDescriptorInner → List WireChange → Part
    → List ToldFault
numbered_json v y found f = entry_json v y found f (part_numbered (reader v) y f.entry.number)

-- what changes at json of an extension, if there is one
abbrev pub extension_json : Versions → MessageDescriptorInner → List WireChange → Option Part
    → List ToldFault
extension_json v y found None = []
extension_json v y found (Some f) = numbered_json v y found f

-- what changes at json of the fields and the extensions of a message, by the reader's message and
-- what changes of it at wire
unfoldable pub entries_json : Versions → MessageDescriptorInner → MessageDescriptorInner
    → List WireChange → List ToldFault
entries_json v x y found =
    flat_map (λ f. numbered_json v y found (field_part f)) x.fields
    ++ flat_map (λ i. extension_json v y found (extension_part_at (writer v) i)) x.extensions

-- what changes at json of a message, by the reader's with its name
abbrev pub message_json : Versions → MessageDescriptorInner → Option MessageDescriptorInner
    → List ToldFault
message_json v x None = []
message_json v x (Some y) = entries_json v x y (message_changes (both_of v x y))

-- what changes at json of an enum, by the reader's with its name
abbrev pub enum_json : Versions → EnumDescriptorInner → Option EnumDescriptorInner → List ToldFault
enum_json v e None = []
enum_json v e (Some f) = flat_map (value_changes v f) e.values

-- the changes at the level json: of messages, and then of enums
abbrev pub at_json : Versions → List ToldFault
at_json v =
    flat_map (λ x. message_json v x (message_named (reader v) x.id.full_name)) (writer v).messages
    ++ flat_map (λ e. enum_json v e (enum_named (reader v) e.id.full_name)) (writer v).enums

-- what changes at source of a field or an extension, by both messages, what changes at wire, and
-- the reader's with the number
abbrev pub entry_source : Versions → MessageDescriptorInner → MessageDescriptorInner
    → List WireChange → Part → Option Part → List ToldFault
entry_source v x y found f (Some g) = part_source v x y found f g
entry_source v x y found f None = []

-- what changes at source of a field, which is looked up by its number
abbrev pub numbered_source : Versions → MessageDescriptorInner → MessageDescriptorInner
    → List WireChange → Part → List ToldFault
numbered_source v x y found f =
    entry_source v x y found f (part_numbered (reader v) y f.entry.number)

-- what changes at source of an extension, if there is one
abbrev pub extension_source : Versions → MessageDescriptorInner → MessageDescriptorInner
    → List WireChange → Option Part → List ToldFault
extension_source v x y found None = []
extension_source v x y found (Some f) = numbered_source v x y found f

-- what changes at source of the fields, the extensions and the oneofs of a message, by the reader's
-- message and what changes of it at wire
unfoldable pub parts_source : Versions → MessageDescriptorInner → MessageDescriptorInner
    → List WireChange → List ToldFault
parts_source v x y found =
    flat_map (λ f. numbered_source v x y found (field_part f)) x.fields
    ++ (flat_map (λ i. extension_source v x y found (extension_part_at (writer v) i)) x.extensions
    ++ flat_map (oneof_changes v x y) x.oneofs)

-- what is told at source of a message that the reader lacks, which backward is told at wire
abbrev pub lacked_at_source : Versions → MessageDescriptorInner → List ToldFault
lacked_at_source v x = first_by v.direction [] (message_removed v x)

-- what changes at source of a message, by the reader's with its name
abbrev pub message_source : Versions → MessageDescriptorInner → Option MessageDescriptorInner
    → List ToldFault
message_source v x None = lacked_at_source v x
message_source v x (Some y) = parts_source v x y (message_changes (both_of v x y))

-- the words for whether an enum is open
abbrev pub open_word : Bool → List ℕ
open_word true = codes "open"
open_word false = codes "closed"

-- whether an enum is open, as a side
abbrev pub open_side : Contents → EnumDescriptorInner → Side
open_side p e = there e.id (open_word (in_proto3 (parts_of p) e.id.file)) []

-- what changes at source of an enum, by the reader's with its name
abbrev pub enum_source : Versions → EnumDescriptorInner → Option EnumDescriptorInner
    → List ToldFault
enum_source v e None = removed v element.EnumRemoved e.id (codes "enum")
enum_source v e (Some f) =
    differing v element.EnumOpen (open_side (writer v) e) (open_side (reader v) f)

-- the changes at the level source: of files, of messages, and then of enums
abbrev pub at_source : Versions → List ToldFault
at_source v =
    flat_map (λ f. file_changes v f (file_named (reader v) (text_of f.raw.name)))
    (writer v).files
    ++ (flat_map (λ x. message_source v x (message_named (reader v) x.id.full_name))
    (writer v).messages
    ++ flat_map (λ e. enum_source v e (enum_named (reader v) e.id.full_name)) (writer v).enums)
