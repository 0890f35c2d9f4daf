-- The fields that messages are encoded as, in the order of their numbers.
use Rattle.std.specs.Prelude.{List, ◌++◌, map}
use Rattle.wire_format.specs.Encoding.{Numbered}
use Rattle.proto_types.specs.declared.message.DescriptorProto.{DescriptorProto}
use Rattle.proto_types.specs.declared.message.DescriptorProto.TheOpen.{DescriptorProto-F}
use Rattle.proto_types.specs.declared.message.DescriptorProto.TheFolds.{fold-DescriptorProto}
use Rattle.proto_types.specs.declared.message.ExtensionRange.{ExtensionRange}
use Rattle.proto_types.specs.declared.message.ReservedRange.{ReservedRange}
use Rattle.proto_types.specs.declared.message.OneofDescriptorProto.{OneofDescriptorProto}
use Rattle.descriptor_encoding.specs.Parts.{int32_listed, text_listed, options_listed, texts_listed}
use Rattle.descriptor_encoding.specs.Parts.{messages_listed}
use Rattle.descriptor_encoding.specs.Enums.{enum_listed}
use Rattle.descriptor_encoding.specs.Fields.{field_listed}

-- the fields that a oneof is encoded as
abbrev pub oneof_listed : OneofDescriptorProto → List Numbered
oneof_listed m =
    text_listed 1 m.name ++
    options_listed 2 m.options

-- the fields that a range of extensions is encoded as
abbrev pub extension_range_listed : ExtensionRange → List Numbered
extension_range_listed m =
    int32_listed 1 m.start ++
    (int32_listed 2 m.«end» ++
    options_listed 3 m.options)

-- the fields that a reserved range of a message is encoded as
abbrev pub reserved_range_listed : ReservedRange → List Numbered
reserved_range_listed m =
    int32_listed 1 m.start ++
    int32_listed 2 m.«end»

-- a message whose nested messages are encoded as these fields
abbrev pub message_row_listed : {A : Type 0} → DescriptorProto-F A → List (List Numbered)
    → List Numbered
message_row_listed d nested =
    text_listed 1 d.name ++
    (messages_listed 2 (map field_listed d.field) ++
    (messages_listed 3 nested ++
    (messages_listed 4 (map enum_listed d.enum_type) ++
    (messages_listed 5 (map extension_range_listed d.extension_range) ++
    (messages_listed 6 (map field_listed d.extension) ++
    (options_listed 7 d.options ++
    (messages_listed 8 (map oneof_listed d.oneof_decl) ++
    (messages_listed 9 (map reserved_range_listed d.reserved_range) ++
    texts_listed 10 d.reserved_name))))))))

-- the fields that a message is encoded as, with all that stands in it
abbrev pub descriptor_listed : DescriptorProto → List Numbered
descriptor_listed = fold-DescriptorProto (List Numbered) (λ d. message_row_listed d d.nested_type)
