-- Fields of messages.
use Rattle.std.specs.Prelude.{ℕ, [], ◌∷◌, Ok, zero, suc, Option, None, Some}
use Rattle.descriptor_decoding.specs.Merging.{Merge, Reader, merged_from, within, by_number, row}
use Rattle.descriptor_decoding.specs.Parts.{int32_merged, messages_merged, text_merged}
use Rattle.descriptor_decoding.specs.Parts.{texts_merged}
use Rattle.proto_types.specs.Enumeration.{no_enum}
use Rattle.proto_types.specs.Field.{no_field}
use Rattle.proto_types.specs.Message.{no_extension_range, no_message, no_oneof, no_reserved_range}
use Rattle.proto_types.specs.declared.message.OneofDescriptorProto.{OneofDescriptorProto}
use Rattle.proto_types.specs.declared.message.ExtensionRange.{ExtensionRange}
use Rattle.proto_types.specs.declared.message.ReservedRange.{ReservedRange}
use Rattle.proto_types.specs.declared.message.DescriptorProto.{DescriptorProto, out-DescriptorProto}
use Rattle.proto_types.specs.declared.message.DescriptorProto.{roll-DescriptorProto}
use Rattle.descriptor_decoding.specs.Options.{options_merged, unread, unread_merged}
use Rattle.descriptor_decoding.specs.Enums.{enum_merged}
use Rattle.descriptor_decoding.specs.Fields.{field_merged}

-- what a field makes of a oneof
unfoldable pub oneof_merged : ℕ → Merge OneofDescriptorProto
oneof_merged levels n v m = by_number n m (
    row 1 (text_merged v m.name) (λ x. record m { name = x }) ∷
    row 2 (options_merged unread (within levels unread_merged) v m.options)
    (λ x. record m { options = x }) ∷ [])

-- what a field makes of a range of extensions
unfoldable pub extension_range_merged : ℕ → Merge ExtensionRange
extension_range_merged levels n v m = by_number n m (
    row 1 (Ok (int32_merged v m.start)) (λ x. record m { start = x }) ∷
    row 2 (Ok (int32_merged v m.«end»)) (λ x. record m { «end» = x }) ∷
    row 3 (options_merged unread (within levels unread_merged) v m.options)
    (λ x. record m { options = x }) ∷ [])

-- what a field makes of a reserved range of a message
unfoldable pub reserved_range_merged : ℕ → Merge ReservedRange
reserved_range_merged levels n v m = by_number n m (
    row 1 (Ok (int32_merged v m.start)) (λ x. record m { start = x }) ∷
    row 2 (Ok (int32_merged v m.«end»)) (λ x. record m { «end» = x }) ∷ [])

-- what a field makes of a message, where inner says what bytes make of a nested one
unfoldable pub message_row : ℕ → Option (Reader DescriptorProto) → Merge DescriptorProto
message_row levels inner n v m = let d = out-DescriptorProto m in by_number n m (
    row 1 (text_merged v d.name) (λ x. roll-DescriptorProto (record d { name = x })) ∷
    row 2 (messages_merged no_field (within levels field_merged) v d.field)
    (λ x. roll-DescriptorProto (record d { field = x })) ∷
    row 3 (messages_merged no_message inner v d.nested_type)
    (λ x. roll-DescriptorProto (record d { nested_type = x })) ∷
    row 4 (messages_merged no_enum (within levels enum_merged) v d.enum_type)
    (λ x. roll-DescriptorProto (record d { enum_type = x })) ∷
    row 5
    (messages_merged no_extension_range (within levels extension_range_merged) v d.extension_range)
    (λ x. roll-DescriptorProto (record d { extension_range = x })) ∷
    row 6 (messages_merged no_field (within levels field_merged) v d.extension)
    (λ x. roll-DescriptorProto (record d { extension = x })) ∷
    row 7 (options_merged unread (within levels unread_merged) v d.options)
    (λ x. roll-DescriptorProto (record d { options = x })) ∷
    row 8 (messages_merged no_oneof (within levels oneof_merged) v d.oneof_decl)
    (λ x. roll-DescriptorProto (record d { oneof_decl = x })) ∷
    row 9
    (messages_merged no_reserved_range (within levels reserved_range_merged) v d.reserved_range)
    (λ x. roll-DescriptorProto (record d { reserved_range = x })) ∷
    row 10 (texts_merged v d.reserved_name)
    (λ x. roll-DescriptorProto (record d { reserved_name = x })) ∷ [])

-- what a field makes of a message in which so many levels of others may be nested
unfoldable pub message_merged_at : ℕ → Merge DescriptorProto
message_merged_at zero = message_row zero None
message_merged_at (suc levels) =
    message_row (suc levels) (Some (merged_from levels (message_merged_at levels)))

-- the same for any number of levels at once
abbrev pub message_at : ℕ → Merge DescriptorProto
message_at levels = message_row levels (within levels message_merged_at)
