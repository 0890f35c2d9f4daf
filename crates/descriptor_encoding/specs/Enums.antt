-- The fields that enums are encoded as, in the order of their numbers.
use Rattle.std.specs.Prelude.{List, ◌++◌, map}
use Rattle.wire_format.specs.Encoding.{Numbered}
use Rattle.proto_types.specs.declared.records.enumeration.EnumDescriptorProto.{EnumDescriptorProto}
use Rattle.proto_types.specs.declared.records.enumeration.EnumReservedRange.{EnumReservedRange}
use Rattle.proto_types.specs.declared.records.enumeration.EnumValueDescriptorProto.{EnumValueDescriptorProto}
use Rattle.descriptor_encoding.specs.Parts.{int32_listed, text_listed, options_listed, texts_listed}
use Rattle.descriptor_encoding.specs.Parts.{messages_listed}

-- the fields that a value of an enum is encoded as
abbrev pub value_listed : EnumValueDescriptorProto → List Numbered
value_listed m =
    text_listed 1 m.name ++
    (int32_listed 2 m.number ++
    options_listed 3 m.options)

-- the fields that a reserved range of an enum is encoded as
abbrev pub enum_range_listed : EnumReservedRange → List Numbered
enum_range_listed m =
    int32_listed 1 m.start ++
    int32_listed 2 m.«end»

-- the fields that an enum is encoded as
abbrev pub enum_listed : EnumDescriptorProto → List Numbered
enum_listed m =
    text_listed 1 m.name ++
    (messages_listed 2 (map value_listed m.value) ++
    (options_listed 3 m.options ++
    (messages_listed 4 (map enum_range_listed m.reserved_range) ++
    texts_listed 5 m.reserved_name)))
