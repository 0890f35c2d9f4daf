-- The types of fields as they are written, before linking puts there what their names mean.
use Rattle.std.specs.Prelude.{ℤ, pos, int_le, List, [], ◌∷◌, ◌++◌, map, ◌&&◌, if◌then◌else◌}
use Rattle.std.specs.List.{flat_map}
use Rattle.std.specs.declared.option.Option.{Option}
use Rattle.std.specs.declared.option.Option.TheVariants.{None, Some}
use Rattle.proto_types.specs.Readers.{type_of}
use Rattle.proto_types.specs.declared.file.FileDescriptorProto.{FileDescriptorProto}
use Rattle.proto_types.specs.declared.message.DescriptorProto.{DescriptorProto, DescriptorProto'}
use Rattle.proto_types.specs.declared.message.DescriptorProto.{Row_of-DescriptorProto}
use Rattle.proto_types.specs.declared.message.DescriptorProto.{end_of-DescriptorProto}
use Rattle.proto_types.specs.declared.message.DescriptorProto.{more_of-DescriptorProto}
use Rattle.proto_types.specs.declared.records.field.FieldDescriptorProto.{FieldDescriptorProto}
use Rattle.proto_types.specs.declared.records.field.FieldType.{FieldType}
use Rattle.protoc_rules.specs.declared.written.WrittenTypes.{WrittenTypes}

-- the type with a number of descriptor.proto's `Type`, if there is one
abbrev pub type_numbered : ℤ → Option FieldType
type_numbered n = if int_le (pos 1) n && int_le n (pos 18) then Some (type_of (Some n)) else None

-- the type of a field, where a known one is written
abbrev pub known_type : Option ℤ → Option FieldType
known_type None = None
known_type (Some n) = type_numbered n

-- the same by the record of the field
abbrev pub written_type : FieldDescriptorProto → Option FieldType
written_type f = known_type f.type_

-- the types of the fields of a message, and then of each message that is nested in it
abbrev mutual
  pub field_types : DescriptorProto → List (List (Option FieldType))
  field_types (DescriptorProto' name fields n nested enums ranges extensions options oneofs reserved
      reserved_names) = map written_type fields ∷ nested_field_types nested

  -- the same of nested messages
  pub nested_field_types : {n : _} → Row_of-DescriptorProto n → List (List (Option FieldType))
  nested_field_types end_of-DescriptorProto = []
  nested_field_types (more_of-DescriptorProto m rest) = field_types m ++ nested_field_types rest

-- the types of the extensions in the messages that are nested in a message, and then of its own
abbrev mutual
  pub extension_types : DescriptorProto → List (Option FieldType)
  extension_types (DescriptorProto' name fields n nested enums ranges extensions options oneofs
      reserved reserved_names) = nested_extension_types nested ++ map written_type extensions

  -- the same of nested messages
  pub nested_extension_types : {n : _} → Row_of-DescriptorProto n → List (Option FieldType)
  nested_extension_types end_of-DescriptorProto = []
  nested_extension_types (more_of-DescriptorProto m rest) =
      extension_types m ++ nested_extension_types rest

-- the types of the extensions of a file: those in its messages, and then its own
abbrev pub file_extension_types : FileDescriptorProto → List (Option FieldType)
file_extension_types f = flat_map extension_types f.message_type ++ map written_type f.extension

-- the types of the fields and of the extensions of files, in the order of the walk
abbrev pub written_types : List FileDescriptorProto → WrittenTypes
written_types files = record {
  fields = flat_map (λ f. flat_map field_types f.message_type) files;
  extensions = flat_map file_extension_types files;
}
