-- The written type of a field against what its type name means (protobuf's `CrossLinkField`).
use Rattle.std.specs.Prelude.{ℕ, List, [], ◌∷◌, slice_get, unwrap_or}
use Rattle.std.specs.Option.{option_and_then}
use Rattle.std.specs.declared.option.Option.{Option}
use Rattle.std.specs.declared.option.Option.TheVariants.{None, Some}
use Rattle.proto_types.specs.declared.records.field.FieldType.{FieldType}
use Rattle.proto_types.specs.declared.records.field.FieldType.TheVariants as written
use Rattle.proto_types.specs.declared.tag.field.TheConstants as field
use Rattle.pool_types.specs.declared.contents.definition.Identity.{Identity}
use Rattle.pool_types.specs.declared.contents.field.FieldDescriptorInner.{FieldDescriptorInner}
use Rattle.pool_types.specs.declared.kinds.KindIndex.{KindIndex}
use Rattle.pool_types.specs.declared.kinds.KindIndex.TheVariants as index
use Rattle.protoc_rules.specs.declared.faults.StrictFault.{StrictFault}
use Rattle.protoc_rules.specs.declared.faults.StrictKind.{StrictKind}
use Rattle.protoc_rules.specs.declared.faults.StrictKind.TheVariants as kind
use Rattle.protoc_rules.specs.Faults.{at_part}

-- what a type breaks where the name means a message: it is that of an enum, a number or a text
abbrev pub type_of_message : FieldType → Option StrictKind
type_of_message written.Message = None
type_of_message written.Group = None
type_of_message written.Enum = Some kind.NotAnEnumType
type_of_message _ = Some kind.TypeNameOfScalar

-- what a type breaks where the name means an enum: it is that of a message, a number or a text
abbrev pub type_of_enum : FieldType → Option StrictKind
type_of_enum written.Enum = None
type_of_enum written.Message = Some kind.NotAMessageType
type_of_enum written.Group = Some kind.NotAMessageType
type_of_enum _ = Some kind.TypeNameOfScalar

-- what a written type, if there is one, breaks where the name means a message
abbrev pub message_fault : Option FieldType → Option StrictKind
message_fault written = option_and_then type_of_message written

-- what a written type, if there is one, breaks where the name means an enum
abbrev pub enum_fault : Option FieldType → Option StrictKind
enum_fault written = option_and_then type_of_enum written

-- what a written type breaks by the kind that linking finds
abbrev pub type_fault : Option FieldType → KindIndex → Option StrictKind
type_fault written (index.Message _) = message_fault written
type_fault written (index.Group _) = message_fault written
type_fault written (index.Enum _) = enum_fault written
type_fault written _ = None

-- a broken rule at the type name of a field, if there is one
abbrev pub at_type : Identity → Option StrictKind → List StrictFault
at_type id None = []
at_type id (Some broken) = at_part broken id field.TYPE_NAME ∷ []

-- what the written type of a field breaks
abbrev pub type_faults : Option FieldType → Identity → KindIndex → List StrictFault
type_faults written id found = at_type id (type_fault written found)

-- the type with a position, where it is known
abbrev pub written_at : List (Option FieldType) → ℕ → Option FieldType
written_at types n = option_and_then (λ written. written) (slice_get types n)

-- what the written type of the field with a position breaks
abbrev pub field_type_faults : List (Option FieldType) → ℕ → FieldDescriptorInner
    → List StrictFault
field_type_faults types n f = type_faults (written_at types n) f.id f.kind

-- the types of the fields of the message with an index, where they are known
abbrev pub types_at : List (List (Option FieldType)) → ℕ → List (Option FieldType)
types_at types n = unwrap_or (slice_get types n) []
