-- The linked records of items, by the files of a pool and the identities of the items.
use Rattle.std.specs.Prelude.{Bool, false, List, length, slice_get}
use Rattle.std.specs.Option.{option_and_then, option_map_or, option_or}
use Rattle.std.specs.declared.option.Option.{Option}
use Rattle.descriptor_decoding.specs.Flags.{says, says_map_entry, says_message_set}
use Rattle.proto_types.specs.Readers.{flag_of}
use Rattle.proto_types.specs.declared.message.DescriptorProto.{DescriptorProto, out-DescriptorProto}
use Rattle.proto_types.specs.declared.message.OneofDescriptorProto.{OneofDescriptorProto}
use Rattle.proto_types.specs.declared.records.enumeration.EnumDescriptorProto.{EnumDescriptorProto}
use Rattle.proto_types.specs.declared.records.enumeration.EnumValueDescriptorProto.{EnumValueDescriptorProto}
use Rattle.proto_types.specs.declared.records.field.FieldDescriptorProto.{FieldDescriptorProto}
use Rattle.proto_types.specs.declared.records.service.MethodDescriptorProto.{MethodDescriptorProto}
use Rattle.proto_types.specs.declared.records.service.ServiceDescriptorProto.{ServiceDescriptorProto}
use Rattle.pool_types.specs.declared.contents.definition.Identity.{Identity}
use Rattle.pool_types.specs.declared.contents.file.FileDescriptorInner.{FileDescriptorInner}
use Rattle.record_walk.specs.Leads.{leads}
use Rattle.record_walk.specs.Protos.{Proto, as_enum, as_extension, as_field, as_message, as_method}
use Rattle.record_walk.specs.Protos.{as_oneof, as_service, as_value}
use Rattle.record_lists.specs.declared.records.EnumParts.{EnumParts}
use Rattle.record_lists.specs.declared.records.FieldParts.{FieldParts}
use Rattle.record_lists.specs.declared.records.MessageParts.{MessageParts}
use Rattle.record_lists.specs.declared.records.MethodParts.{MethodParts}

-- the linked record that stands where something is declared, of the kind that a test picks
abbrev pub record_by : {X : Type 0} → (Proto → Option X) → List FileDescriptorInner → Identity
    → Option X
record_by pick files id =
    option_and_then (λ f. option_and_then pick (leads f.raw id.path)) (slice_get files id.file)

-- the record of a message
abbrev pub message_record : List FileDescriptorInner → Identity → Option DescriptorProto
message_record = record_by as_message

-- the record of a field or of an extension
abbrev pub field_record : List FileDescriptorInner → Identity → Option FieldDescriptorProto
field_record files id = option_and_then
    (λ f. option_or (option_and_then as_field (leads f.raw id.path))
    (option_and_then as_extension (leads f.raw id.path))) (slice_get files id.file)

-- the record of a oneof
abbrev pub oneof_record : List FileDescriptorInner → Identity → Option OneofDescriptorProto
oneof_record = record_by as_oneof

-- the record of an enum
abbrev pub enum_record : List FileDescriptorInner → Identity → Option EnumDescriptorProto
enum_record = record_by as_enum

-- the record of a value of an enum
abbrev pub value_record : List FileDescriptorInner → Identity → Option EnumValueDescriptorProto
value_record = record_by as_value

-- the record of a service
abbrev pub service_record : List FileDescriptorInner → Identity → Option ServiceDescriptorProto
service_record = record_by as_service

-- the record of a method
abbrev pub method_record : List FileDescriptorInner → Identity → Option MethodDescriptorProto
method_record = record_by as_method

-- how much the record of a message has of each kind, and what its options say
abbrev pub parts_of_message : DescriptorProto → MessageParts
parts_of_message r = record {
  nested_messages = length (out-DescriptorProto r).nested_type;
  nested_enums = length (out-DescriptorProto r).enum_type;
  nested_extensions = length (out-DescriptorProto r).extension;
  extension_ranges = length (out-DescriptorProto r).extension_range;
  reserved_ranges = length (out-DescriptorProto r).reserved_range;
  reserved_names = length (out-DescriptorProto r).reserved_name;
  is_map_entry = says_map_entry r;
  is_message_set = says_message_set r;
  is_deprecated = says 3 (out-DescriptorProto r).options;
}

-- a record of a message that has nothing
abbrev pub no_message_parts : MessageParts
no_message_parts = record {
  nested_messages = 0;
  nested_enums = 0;
  nested_extensions = 0;
  extension_ranges = 0;
  reserved_ranges = 0;
  reserved_names = 0;
  is_map_entry = false;
  is_message_set = false;
  is_deprecated = false;
}

-- what the record of a message of a pool has, by the message's identity
abbrev pub message_parts : List FileDescriptorInner → Identity → MessageParts
message_parts files id = option_map_or parts_of_message (message_record files id) no_message_parts

-- what the record of a field says
abbrev pub parts_of_field : FieldDescriptorProto → FieldParts
parts_of_field r = record {
  is_proto3_optional = flag_of r.proto3_optional;
  is_deprecated = says 3 r.options;
}

-- a record of a field that says nothing
abbrev pub no_field_parts : FieldParts
no_field_parts = record { is_proto3_optional = false; is_deprecated = false }

-- what the record of a field or of an extension of a pool says, by the identity of either
abbrev pub field_parts : List FileDescriptorInner → Identity → FieldParts
field_parts files id = option_map_or parts_of_field (field_record files id) no_field_parts

-- how much the record of an enum has of each kind, and what its options say
abbrev pub parts_of_enum : EnumDescriptorProto → EnumParts
parts_of_enum r = record {
  reserved_ranges = length r.reserved_range;
  reserved_names = length r.reserved_name;
  is_deprecated = says 3 r.options;
}

-- a record of an enum that has nothing
abbrev pub no_enum_parts : EnumParts
no_enum_parts = record { reserved_ranges = 0; reserved_names = 0; is_deprecated = false }

-- what the record of an enum of a pool has, by the enum's identity
abbrev pub enum_parts : List FileDescriptorInner → Identity → EnumParts
enum_parts files id = option_map_or parts_of_enum (enum_record files id) no_enum_parts

-- what the record of a method says
abbrev pub parts_of_method : MethodDescriptorProto → MethodParts
parts_of_method r = record {
  client_streaming = flag_of r.client_streaming;
  server_streaming = flag_of r.server_streaming;
  is_deprecated = says 33 r.options;
}

-- a record of a method that says nothing
abbrev pub no_method_parts : MethodParts
no_method_parts = record {
  client_streaming = false;
  server_streaming = false;
  is_deprecated = false;
}

-- what the record of a method of a pool says, by the method's identity
abbrev pub method_parts : List FileDescriptorInner → Identity → MethodParts
method_parts files id = option_map_or parts_of_method (method_record files id) no_method_parts

-- whether the record of a value of an enum of a pool says that it is deprecated, by the identity of
-- the value
abbrev pub is_value_deprecated : List FileDescriptorInner → Identity → Bool
is_value_deprecated files id = option_map_or (λ r. says 1 r.options) (value_record files id) false

-- whether the record of a service of a pool says that it is deprecated, by the identity of the
-- service
abbrev pub is_service_deprecated : List FileDescriptorInner → Identity → Bool
is_service_deprecated files id =
    option_map_or (λ r. says 33 r.options) (service_record files id) false
