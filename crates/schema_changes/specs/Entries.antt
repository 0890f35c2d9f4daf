-- A pool as a schema. A message has an entry for each of its fields, and for each extension of it.
use Rattle.std.specs.Prelude.{ℕ, Bool, slice_get, option_map, option_and_then, is_some}
use Rattle.std.specs.Prelude.{if◌then◌else◌, ◌||◌, Option, Some, None}
use Rattle.std.specs.FinMap as finite
use Rattle.std.specs.Option.{option_or}
use Rattle.pool_types.specs.LookUps.{field_numbered}
use Rattle.pool_types.specs.declared.kinds.Cardinality.{Cardinality}
use Rattle.pool_types.specs.declared.kinds.Cardinality.TheVariants as cardinality
use Rattle.pool_types.specs.declared.kinds.KindIndex.{KindIndex}
use Rattle.pool_types.specs.declared.kinds.KindIndex.TheVariants as index
use Rattle.pool_types.specs.declared.contents.extension.ExtensionDescriptorInner.{ExtensionDescriptorInner}
use Rattle.pool_types.specs.declared.contents.field.FieldDescriptorInner.{FieldDescriptorInner}
use Rattle.pool_types.specs.declared.contents.message.MessageDescriptorInner.{MessageDescriptorInner}
use Rattle.message_values.specs.Schema.{Schema, Kind, Field}
use Rattle.message_values.specs.Schema as kind
use Rattle.schema_changes.specs.declared.entries.Entry.{Entry}
use Rattle.schema_changes.specs.Parts.{Parts, in_proto3, is_open, has_value, values_of}

-- the entry of a field
abbrev pub field_entry : FieldDescriptorInner → Entry
field_entry f = record {
  file = f.id.file;
  number = f.number;
  kind = f.kind;
  cardinality = f.cardinality;
  oneof = f.oneof;
}

-- the entry of an extension, which is in no oneof
abbrev pub extension_entry : ExtensionDescriptorInner → Entry
extension_entry x = record {
  file = x.id.file;
  number = x.number;
  kind = x.kind;
  cardinality = x.cardinality;
  oneof = None;
}

-- the entry of the extension with an index
abbrev pub extension_at : Parts → ℕ → Option Entry
extension_at p i = option_map extension_entry (slice_get p.extensions i)

-- the entry of an extension of a message with an index; none where a field of the message has its
-- number, by which bytes are read then
abbrev pub extension_in : Parts → MessageDescriptorInner → ℕ → Option Entry
extension_in p m i =
    option_and_then (λ f. if is_some (field_numbered m f.number) then None else Some f)
    (extension_at p i)

-- the entry of a message to which its maps lead from a number: that of a field, or else that of an
-- extension
unfoldable pub entry_numbered : Parts → MessageDescriptorInner → ℕ → Option Entry
entry_numbered p m n =
    option_or (option_map field_entry (field_numbered m n))
    (option_and_then (extension_at p) (finite.get m.extension_numbers n))

-- the entry of the message with an index that has a number
unfoldable pub entry_at : Parts → ℕ → ℕ → Option Entry
entry_at p m n = option_and_then (λ x. entry_numbered p x n) (slice_get p.messages m)

-- a kind as bytes are read by it; a string of proto3 is checked
abbrev pub kind_seen : Bool → KindIndex → Kind
kind_seen proto3 index.Double = kind.Double
kind_seen proto3 index.Float = kind.Float
kind_seen proto3 index.Int32 = kind.Int32
kind_seen proto3 index.Int64 = kind.Int64
kind_seen proto3 index.Uint32 = kind.Uint32
kind_seen proto3 index.Uint64 = kind.Uint64
kind_seen proto3 index.Sint32 = kind.Sint32
kind_seen proto3 index.Sint64 = kind.Sint64
kind_seen proto3 index.Fixed32 = kind.Fixed32
kind_seen proto3 index.Fixed64 = kind.Fixed64
kind_seen proto3 index.Sfixed32 = kind.Sfixed32
kind_seen proto3 index.Sfixed64 = kind.Sfixed64
kind_seen proto3 index.Bool = kind.Boolean
kind_seen proto3 index.String = kind.Text proto3
kind_seen proto3 index.Bytes = kind.Bytes
kind_seen proto3 (index.Message m) = kind.Message m
kind_seen proto3 (index.Enum e) = kind.Enum e
kind_seen proto3 (index.Group m) = kind.Group m

-- how often a field may stand in a message, as a schema has it
abbrev pub cardinality_seen : Cardinality → kind.Cardinality
cardinality_seen cardinality.Optional = kind.Optional
cardinality_seen cardinality.Required = kind.Required
cardinality_seen cardinality.Repeated = kind.Repeated

-- an entry as bytes are read by it
abbrev pub field_seen : Parts → Entry → Field
field_seen p f = record {
  kind = kind_seen (in_proto3 p f.file) f.kind;
  cardinality = cardinality_seen f.cardinality;
  oneof = f.oneof;
}

-- the field of a message with a number, as bytes are read by it
abbrev pub field_at : Parts → ℕ → ℕ → Option Field
field_at p m n = option_map (field_seen p) (entry_at p m n)

-- a pool as a schema
abbrev pub schema_of : Parts → Schema
schema_of p = record {
  field = field_at p;
  has_value = λ e x. is_open p e || has_value (values_of p e) x;
}
