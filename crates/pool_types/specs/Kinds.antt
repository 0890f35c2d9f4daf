-- What the kind of a field says, and what kind a type has.
use Rattle.std.specs.Prelude.{ℕ, Bool, true, false, List, codes}
use Rattle.std.specs.declared.option.Option.{Option}
use Rattle.std.specs.declared.option.Option.TheVariants.{None, Some}
use Rattle.proto_types.specs.declared.records.field.FieldLabel.{FieldLabel}
use Rattle.proto_types.specs.declared.records.field.FieldLabel.TheVariants as label
use Rattle.proto_types.specs.declared.records.field.FieldType.{FieldType}
use Rattle.proto_types.specs.declared.records.field.FieldType.TheVariants as written
use Rattle.pool_types.specs.declared.contents.definition.DefinitionKind.{DefinitionKind}
use Rattle.pool_types.specs.declared.contents.definition.DefinitionKind.TheVariants as definition
use Rattle.pool_types.specs.declared.kinds.Cardinality.{Cardinality}
use Rattle.pool_types.specs.declared.kinds.Cardinality.TheVariants as cardinality
use Rattle.pool_types.specs.declared.kinds.KindIndex.{KindIndex}
use Rattle.pool_types.specs.declared.kinds.KindIndex.TheVariants as index
use Rattle.pool_types.specs.declared.kinds.Kind.{Kind}
use Rattle.pool_types.specs.declared.kinds.Kind.TheVariants as kind

-- whether a list of values of a kind may be packed: all but texts, bytes, messages and groups
abbrev pub is_packable : KindIndex → Bool
is_packable index.String = false
is_packable index.Bytes = false
is_packable (index.Message _) = false
is_packable (index.Group _) = false
is_packable _ = true

-- whether a value of a kind is a message: those of messages and groups are
abbrev pub is_message : KindIndex → Bool
is_message (index.Message _) = true
is_message (index.Group _) = true
is_message _ = false

-- the number of the type that is written for a kind (descriptor.proto's `Type`)
abbrev pub type_number : KindIndex → ℕ
type_number index.Double = 1
type_number index.Float = 2
type_number index.Int64 = 3
type_number index.Uint64 = 4
type_number index.Int32 = 5
type_number index.Fixed64 = 6
type_number index.Fixed32 = 7
type_number index.Bool = 8
type_number index.String = 9
type_number (index.Group _) = 10
type_number (index.Message _) = 11
type_number index.Bytes = 12
type_number index.Uint32 = 13
type_number (index.Enum _) = 14
type_number index.Sfixed32 = 15
type_number index.Sfixed64 = 16
type_number index.Sint32 = 17
type_number index.Sint64 = 18

-- a kind with the typed index of what it means, where a group is a message
abbrev pub kind_of : KindIndex → Kind
kind_of index.Double = kind.Double
kind_of index.Float = kind.Float
kind_of index.Int32 = kind.Int32
kind_of index.Int64 = kind.Int64
kind_of index.Uint32 = kind.Uint32
kind_of index.Uint64 = kind.Uint64
kind_of index.Sint32 = kind.Sint32
kind_of index.Sint64 = kind.Sint64
kind_of index.Fixed32 = kind.Fixed32
kind_of index.Fixed64 = kind.Fixed64
kind_of index.Sfixed32 = kind.Sfixed32
kind_of index.Sfixed64 = kind.Sfixed64
kind_of index.Bool = kind.Bool
kind_of index.String = kind.String
kind_of index.Bytes = kind.Bytes
kind_of (index.Message m) = kind.Message (record { index = m })
kind_of (index.Group m) = kind.Message (record { index = m })
kind_of (index.Enum e) = kind.Enum (record { index = e })

-- the word for a kind: `message` for a group too
abbrev pub kind_name : KindIndex → List ℕ
kind_name index.Double = codes "double"
kind_name index.Float = codes "float"
kind_name index.Int32 = codes "int32"
kind_name index.Int64 = codes "int64"
kind_name index.Uint32 = codes "uint32"
kind_name index.Uint64 = codes "uint64"
kind_name index.Sint32 = codes "sint32"
kind_name index.Sint64 = codes "sint64"
kind_name index.Fixed32 = codes "fixed32"
kind_name index.Fixed64 = codes "fixed64"
kind_name index.Sfixed32 = codes "sfixed32"
kind_name index.Sfixed64 = codes "sfixed64"
kind_name index.Bool = codes "bool"
kind_name index.String = codes "string"
kind_name index.Bytes = codes "bytes"
kind_name (index.Message _) = codes "message"
kind_name (index.Group _) = codes "message"
kind_name (index.Enum _) = codes "enum"

-- the kind of a type that names nothing else; a group, a message and an enum have none
abbrev pub simple_kind : FieldType → Option KindIndex
simple_kind written.Double = Some index.Double
simple_kind written.Float = Some index.Float
simple_kind written.Int64 = Some index.Int64
simple_kind written.Uint64 = Some index.Uint64
simple_kind written.Int32 = Some index.Int32
simple_kind written.Fixed64 = Some index.Fixed64
simple_kind written.Fixed32 = Some index.Fixed32
simple_kind written.Bool = Some index.Bool
simple_kind written.String = Some index.String
simple_kind written.Group = None
simple_kind written.Message = None
simple_kind written.Bytes = Some index.Bytes
simple_kind written.Uint32 = Some index.Uint32
simple_kind written.Enum = None
simple_kind written.Sfixed32 = Some index.Sfixed32
simple_kind written.Sfixed64 = Some index.Sfixed64
simple_kind written.Sint32 = Some index.Sint32
simple_kind written.Sint64 = Some index.Sint64

-- the kind of a field whose type name means a definition: a message, or a group where the written
-- type is group, or an enum; what the name means wins over the written type
abbrev pub named_kind : FieldType → DefinitionKind → Option KindIndex
named_kind written.Group (definition.Message m) = Some (index.Group m)
named_kind _ (definition.Message m) = Some (index.Message m)
named_kind _ (definition.Enum e) = Some (index.Enum e)
named_kind _ _ = None

-- how often a field stands in a message, by its label
abbrev pub cardinality_of : FieldLabel → Cardinality
cardinality_of label.Optional = cardinality.Optional
cardinality_of label.Required = cardinality.Required
cardinality_of label.Repeated = cardinality.Repeated

-- how often a field may stand in a message, as a number that rises: optional, required, repeated
abbrev pub rank : Cardinality → ℕ
rank cardinality.Optional = 0
rank cardinality.Required = 1
rank cardinality.Repeated = 2
