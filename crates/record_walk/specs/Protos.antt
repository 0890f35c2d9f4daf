-- A record of any kind that declares something.
use Rattle.std.specs.Prelude.{ℕ, List}
use Rattle.std.specs.declared.option.Option.{Option}
use Rattle.std.specs.declared.option.Option.TheVariants.{None, Some}
use Rattle.proto_types.specs.Readers.{text_of}
use Rattle.proto_types.specs.declared.file.FileDescriptorProto.{FileDescriptorProto}
use Rattle.proto_types.specs.declared.message.DescriptorProto.{DescriptorProto, out-DescriptorProto}
use Rattle.proto_types.specs.declared.message.OneofDescriptorProto.{OneofDescriptorProto}
use Rattle.proto_types.specs.declared.records.field.FieldDescriptorProto.{FieldDescriptorProto}
use Rattle.proto_types.specs.declared.records.enumeration.EnumDescriptorProto.{EnumDescriptorProto}
use Rattle.proto_types.specs.declared.records.enumeration.EnumValueDescriptorProto.{EnumValueDescriptorProto}
use Rattle.proto_types.specs.declared.records.service.ServiceDescriptorProto.{ServiceDescriptorProto}
use Rattle.proto_types.specs.declared.records.service.MethodDescriptorProto.{MethodDescriptorProto}

-- a record of any kind that declares something; a field and an extension have one type of record,
-- and are told apart here
pub data Proto : Type 0 where
  of_file : FileDescriptorProto → Proto
  of_message : DescriptorProto → Proto
  of_field : FieldDescriptorProto → Proto
  of_oneof : OneofDescriptorProto → Proto
  of_service : ServiceDescriptorProto → Proto
  of_method : MethodDescriptorProto → Proto
  of_enum : EnumDescriptorProto → Proto
  of_value : EnumValueDescriptorProto → Proto
  of_extension : FieldDescriptorProto → Proto

-- the name in a record, where a missing one reads as empty
abbrev pub name_of : Proto → List ℕ
name_of (of_file f) = text_of f.name
name_of (of_message m) = text_of (out-DescriptorProto m).name
name_of (of_field f) = text_of f.name
name_of (of_oneof o) = text_of o.name
name_of (of_service s) = text_of s.name
name_of (of_method m) = text_of m.name
name_of (of_enum e) = text_of e.name
name_of (of_value v) = text_of v.name
name_of (of_extension x) = text_of x.name

-- the record of a file, where it is one
abbrev pub as_file : Proto → Option FileDescriptorProto
as_file (of_file f) = Some f
as_file _ = None

-- the record of a message, where it is one
abbrev pub as_message : Proto → Option DescriptorProto
as_message (of_message m) = Some m
as_message _ = None

-- the record of an enum, where it is one
abbrev pub as_enum : Proto → Option EnumDescriptorProto
as_enum (of_enum e) = Some e
as_enum _ = None

-- the record of a field, where it is one of a message
abbrev pub as_field : Proto → Option FieldDescriptorProto
as_field (of_field f) = Some f
as_field _ = None

-- the record of an extension, where it is one
abbrev pub as_extension : Proto → Option FieldDescriptorProto
as_extension (of_extension x) = Some x
as_extension _ = None

-- the record of a oneof, where it is one
abbrev pub as_oneof : Proto → Option OneofDescriptorProto
as_oneof (of_oneof o) = Some o
as_oneof _ = None

-- the record of a value of an enum, where it is one
abbrev pub as_value : Proto → Option EnumValueDescriptorProto
as_value (of_value v) = Some v
as_value _ = None

-- the record of a service, where it is one
abbrev pub as_service : Proto → Option ServiceDescriptorProto
as_service (of_service s) = Some s
as_service _ = None

-- the record of a method, where it is one
abbrev pub as_method : Proto → Option MethodDescriptorProto
as_method (of_method m) = Some m
as_method _ = None
