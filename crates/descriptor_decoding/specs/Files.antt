-- Fields of files.
use Rattle.std.specs.Prelude.{ℕ, [], ◌∷◌}
use Rattle.descriptor_decoding.specs.Merging.{Merge, within, by_number, row}
use Rattle.descriptor_decoding.specs.Parts.{int32s_merged, message_merged, messages_merged}
use Rattle.descriptor_decoding.specs.Parts.{text_merged, texts_merged}
use Rattle.proto_types.specs.Source.{no_source}
use Rattle.proto_types.specs.Service.{no_service}
use Rattle.proto_types.specs.Enumeration.{no_enum}
use Rattle.proto_types.specs.Field.{no_field}
use Rattle.proto_types.specs.Message.{no_message}
use Rattle.proto_types.specs.File.{no_file}
use Rattle.proto_types.specs.declared.file.FileDescriptorProto.{FileDescriptorProto}
use Rattle.proto_types.specs.declared.file.FileDescriptorSet.{FileDescriptorSet}
use Rattle.descriptor_decoding.specs.Options.{options_merged, unread, unread_merged}
use Rattle.descriptor_decoding.specs.Enums.{enum_merged}
use Rattle.descriptor_decoding.specs.Fields.{field_merged}
use Rattle.descriptor_decoding.specs.Messages.{message_merged_at}
use Rattle.descriptor_decoding.specs.Services.{service_merged}
use Rattle.descriptor_decoding.specs.Sources.{source_merged}

-- what a field makes of a file
unfoldable pub file_merged : ℕ → Merge FileDescriptorProto
file_merged levels n v m = by_number n m (
    row 1 (text_merged v m.name) (λ x. record m { name = x }) ∷
    row 2 (text_merged v m.«package») (λ x. record m { «package» = x }) ∷
    row 3 (texts_merged v m.dependency) (λ x. record m { dependency = x }) ∷
    row 4 (messages_merged no_message (within levels message_merged_at) v m.message_type)
    (λ x. record m { message_type = x }) ∷
    row 5 (messages_merged no_enum (within levels enum_merged) v m.enum_type)
    (λ x. record m { enum_type = x }) ∷
    row 6 (messages_merged no_service (within levels service_merged) v m.service)
    (λ x. record m { service = x }) ∷
    row 7 (messages_merged no_field (within levels field_merged) v m.extension)
    (λ x. record m { extension = x }) ∷
    row 8 (options_merged unread (within levels unread_merged) v m.options)
    (λ x. record m { options = x }) ∷
    row 9 (message_merged no_source (within levels source_merged) v m.source_code_info)
    (λ x. record m { source_code_info = x }) ∷
    row 10 (int32s_merged v m.public_dependency) (λ x. record m { public_dependency = x }) ∷
    row 11 (int32s_merged v m.weak_dependency) (λ x. record m { weak_dependency = x }) ∷
    row 12 (text_merged v m.syntax) (λ x. record m { syntax = x }) ∷ [])

-- what a field makes of a set of files
unfoldable pub file_set_merged : ℕ → Merge FileDescriptorSet
file_set_merged levels n v m = by_number n m (
    row 1 (messages_merged no_file (within levels file_merged) v m.file)
    (λ x. record m { file = x }) ∷ [])
