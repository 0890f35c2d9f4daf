-- The fields that fields are encoded as, in the order of their numbers.
use Rattle.std.specs.Prelude.{List, ◌++◌}
use Rattle.wire_format.specs.Encoding.{Numbered}
use Rattle.proto_types.specs.declared.records.field.FieldDescriptorProto.{FieldDescriptorProto}
use Rattle.descriptor_encoding.specs.Parts.{int32_listed, bool_listed, text_listed, options_listed}

-- the fields that a field or an extension is encoded as
abbrev pub field_listed : FieldDescriptorProto → List Numbered
field_listed m =
    text_listed 1 m.name ++
    (text_listed 2 m.extendee ++
    (int32_listed 3 m.number ++
    (int32_listed 4 m.label ++
    (int32_listed 5 m.type_ ++
    (text_listed 6 m.type_name ++
    (text_listed 7 m.default_value ++
    (options_listed 8 m.options ++
    (int32_listed 9 m.oneof_index ++
    (text_listed 10 m.json_name ++
    bool_listed 17 m.proto3_optional)))))))))
