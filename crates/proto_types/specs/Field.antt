-- A field without parts.
use Rattle.std.specs.declared.option.Option.TheVariants.{None}
use Rattle.proto_types.specs.declared.records.field.FieldDescriptorProto.{FieldDescriptorProto}

-- a field or an extension with all parts absent
abbrev pub no_field : FieldDescriptorProto
no_field = record {
  name = None;
  extendee = None;
  number = None;
  label = None;
  type_ = None;
  type_name = None;
  default_value = None;
  options = None;
  oneof_index = None;
  json_name = None;
  proto3_optional = None;
}
