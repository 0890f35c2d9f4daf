-- The fields that files are encoded as, in the order of their numbers.
use Rattle.std.specs.Prelude.{List, ◌++◌, map}
use Rattle.wire_format.specs.Encoding.{Numbered}
use Rattle.proto_types.specs.declared.file.FileDescriptorSet.{FileDescriptorSet}
use Rattle.proto_types.specs.declared.file.FileDescriptorProto.{FileDescriptorProto}
use Rattle.descriptor_encoding.specs.Parts.{text_listed, options_listed, texts_listed}
use Rattle.descriptor_encoding.specs.Parts.{int32s_listed, message_listed, messages_listed}
use Rattle.descriptor_encoding.specs.Enums.{enum_listed}
use Rattle.descriptor_encoding.specs.Fields.{field_listed}
use Rattle.descriptor_encoding.specs.Messages.{descriptor_listed}
use Rattle.descriptor_encoding.specs.Services.{service_listed}
use Rattle.descriptor_encoding.specs.Sources.{source_listed}

-- the fields that a file is encoded as
abbrev pub file_listed : FileDescriptorProto → List Numbered
file_listed m =
    text_listed 1 m.name ++
    (text_listed 2 m.«package» ++
    (texts_listed 3 m.dependency ++
    (messages_listed 4 (map descriptor_listed m.message_type) ++
    (messages_listed 5 (map enum_listed m.enum_type) ++
    (messages_listed 6 (map service_listed m.service) ++
    (messages_listed 7 (map field_listed m.extension) ++
    (options_listed 8 m.options ++
    (message_listed source_listed 9 m.source_code_info ++
    (int32s_listed 10 m.public_dependency ++
    (int32s_listed 11 m.weak_dependency ++
    text_listed 12 m.syntax))))))))))

-- the fields that a set of files is encoded as
abbrev pub set_listed : FileDescriptorSet → List Numbered
set_listed m =
    messages_listed 1 (map file_listed m.file)
