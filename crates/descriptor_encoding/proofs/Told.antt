-- No table tells a fault past the end of the bytes.
use Rattle.std.proofs.Common.{ℕ, zero, suc, eqb, Option, None, Some, arith}
use Rattle.proto_types.specs.Source.{no_source, no_location}
use Rattle.proto_types.specs.Service.{no_service, no_method}
use Rattle.proto_types.specs.Enumeration.{no_enum, no_enum_range, no_value}
use Rattle.proto_types.specs.Field.{no_field}
use Rattle.proto_types.specs.Message.{no_message, no_extension_range, no_reserved_range, no_oneof}
use Rattle.proto_types.specs.File.{no_file}
use Rattle.proto_types.specs.declared.message.DescriptorProto.{DescriptorProto}
use Rattle.descriptor_decoding.specs.Merging.{Reader, merged_from, within}
use Rattle.descriptor_decoding.specs.Options.{field_options_merged, enum_options_merged, unread_merged, no_field_options, no_enum_options, unread}
use Rattle.descriptor_decoding.specs.Enums.{value_merged, enum_range_merged, enum_merged}
use Rattle.descriptor_decoding.specs.Fields.{field_merged}
use Rattle.descriptor_decoding.specs.Messages.{oneof_merged, extension_range_merged, reserved_range_merged, message_row, message_merged_at}
use Rattle.descriptor_decoding.specs.Services.{method_merged, service_merged}
use Rattle.descriptor_decoding.specs.Sources.{location_merged, source_merged}
use Rattle.descriptor_decoding.specs.Files.{file_merged, file_set_merged}
use Rattle.descriptor_encoding.proofs.Lies.{Tells, TellsInside, inside, from-told, told_if, put-told, text-told, texts-told, int32s-told, message-told, messages-told, options-told}

pub field_options-tells : (levels : ℕ) → Tells (field_options_merged levels)
unfolding field_options_merged
field_options-tells levels ends n v m h =
    told_if ends (eqb n 2) _ _ tt tt

pub enum_options-tells : (levels : ℕ) → Tells (enum_options_merged levels)
unfolding enum_options_merged
enum_options-tells levels ends n v m h =
    told_if ends (eqb n 2) _ _ tt tt

pub unread-tells : (levels : ℕ) → Tells (unread_merged levels)
unfolding unread_merged
unread-tells levels ends n v m h = tt

pub value-tells : (levels : ℕ) → Tells (value_merged levels)
unfolding value_merged
value-tells levels ends n v m h =
    told_if ends (eqb n 1) _ _ (put-told ends _ _ (text-told ends v _ h)) (
    told_if ends (eqb n 2) _ _ tt (
    told_if ends (eqb n 3) _ _ (put-told ends _ _ (options-told ends unread (within levels unread_merged) (inside unread_merged unread-tells levels) v _ h)) tt))

pub enum_range-tells : (levels : ℕ) → Tells (enum_range_merged levels)
unfolding enum_range_merged
enum_range-tells levels ends n v m h =
    told_if ends (eqb n 1) _ _ tt (
    told_if ends (eqb n 2) _ _ tt tt)

pub enum-tells : (levels : ℕ) → Tells (enum_merged levels)
unfolding enum_merged
enum-tells levels ends n v m h =
    told_if ends (eqb n 1) _ _ (put-told ends _ _ (text-told ends v _ h)) (
    told_if ends (eqb n 2) _ _ (put-told ends _ _ (messages-told ends no_value (within levels value_merged) (inside value_merged value-tells levels) v _ h)) (
    told_if ends (eqb n 3) _ _ (put-told ends _ _ (options-told ends no_enum_options (within levels enum_options_merged) (inside enum_options_merged enum_options-tells levels) v _ h)) (
    told_if ends (eqb n 4) _ _ (put-told ends _ _ (messages-told ends no_enum_range (within levels enum_range_merged) (inside enum_range_merged enum_range-tells levels) v _ h)) (
    told_if ends (eqb n 5) _ _ (put-told ends _ _ (texts-told ends v _ h)) tt))))

pub field-tells : (levels : ℕ) → Tells (field_merged levels)
unfolding field_merged
field-tells levels ends n v m h =
    told_if ends (eqb n 1) _ _ (put-told ends _ _ (text-told ends v _ h)) (
    told_if ends (eqb n 2) _ _ (put-told ends _ _ (text-told ends v _ h)) (
    told_if ends (eqb n 3) _ _ tt (
    told_if ends (eqb n 4) _ _ tt (
    told_if ends (eqb n 5) _ _ tt (
    told_if ends (eqb n 6) _ _ (put-told ends _ _ (text-told ends v _ h)) (
    told_if ends (eqb n 7) _ _ (put-told ends _ _ (text-told ends v _ h)) (
    told_if ends (eqb n 8) _ _ (put-told ends _ _ (options-told ends no_field_options (within levels field_options_merged) (inside field_options_merged field_options-tells levels) v _ h)) (
    told_if ends (eqb n 9) _ _ tt (
    told_if ends (eqb n 10) _ _ (put-told ends _ _ (text-told ends v _ h)) (
    told_if ends (eqb n 17) _ _ tt tt))))))))))

pub oneof-tells : (levels : ℕ) → Tells (oneof_merged levels)
unfolding oneof_merged
oneof-tells levels ends n v m h =
    told_if ends (eqb n 1) _ _ (put-told ends _ _ (text-told ends v _ h)) (
    told_if ends (eqb n 2) _ _ (put-told ends _ _ (options-told ends unread (within levels unread_merged) (inside unread_merged unread-tells levels) v _ h)) tt)

pub extension_range-tells : (levels : ℕ) → Tells (extension_range_merged levels)
unfolding extension_range_merged
extension_range-tells levels ends n v m h =
    told_if ends (eqb n 1) _ _ tt (
    told_if ends (eqb n 2) _ _ tt (
    told_if ends (eqb n 3) _ _ (put-told ends _ _ (options-told ends unread (within levels unread_merged) (inside unread_merged unread-tells levels) v _ h)) tt))

pub reserved_range-tells : (levels : ℕ) → Tells (reserved_range_merged levels)
unfolding reserved_range_merged
reserved_range-tells levels ends n v m h =
    told_if ends (eqb n 1) _ _ tt (
    told_if ends (eqb n 2) _ _ tt tt)

message_row-tells : (levels : ℕ) (inner : Option (Reader DescriptorProto)) → TellsInside inner → Tells (message_row levels inner)
unfolding message_row
message_row-tells levels inner tells ends n v m h =
    told_if ends (eqb n 1) _ _ (put-told ends _ _ (text-told ends v _ h)) (
    told_if ends (eqb n 2) _ _ (put-told ends _ _ (messages-told ends no_field (within levels field_merged) (inside field_merged field-tells levels) v _ h)) (
    told_if ends (eqb n 3) _ _ (put-told ends _ _ (messages-told ends no_message inner tells v _ h)) (
    told_if ends (eqb n 4) _ _ (put-told ends _ _ (messages-told ends no_enum (within levels enum_merged) (inside enum_merged enum-tells levels) v _ h)) (
    told_if ends (eqb n 5) _ _ (put-told ends _ _ (messages-told ends no_extension_range (within levels extension_range_merged) (inside extension_range_merged extension_range-tells levels) v _ h)) (
    told_if ends (eqb n 6) _ _ (put-told ends _ _ (messages-told ends no_field (within levels field_merged) (inside field_merged field-tells levels) v _ h)) (
    told_if ends (eqb n 7) _ _ (put-told ends _ _ (options-told ends unread (within levels unread_merged) (inside unread_merged unread-tells levels) v _ h)) (
    told_if ends (eqb n 8) _ _ (put-told ends _ _ (messages-told ends no_oneof (within levels oneof_merged) (inside oneof_merged oneof-tells levels) v _ h)) (
    told_if ends (eqb n 9) _ _ (put-told ends _ _ (messages-told ends no_reserved_range (within levels reserved_range_merged) (inside reserved_range_merged reserved_range-tells levels) v _ h)) (
    told_if ends (eqb n 10) _ _ (put-told ends _ _ (texts-told ends v _ h)) tt)))))))))

pub message-tells : (levels : ℕ) → Tells (message_merged_at levels)
unfolding message_merged_at
message-tells zero = message_row-tells zero None (λ ends bytes m. omega arith)
message-tells (suc levels) = message_row-tells (suc levels) (Some (merged_from levels (message_merged_at levels))) (λ ends bytes m. from-told levels (message_merged_at levels) (message-tells levels) ends bytes m)

pub method-tells : (levels : ℕ) → Tells (method_merged levels)
unfolding method_merged
method-tells levels ends n v m h =
    told_if ends (eqb n 1) _ _ (put-told ends _ _ (text-told ends v _ h)) (
    told_if ends (eqb n 2) _ _ (put-told ends _ _ (text-told ends v _ h)) (
    told_if ends (eqb n 3) _ _ (put-told ends _ _ (text-told ends v _ h)) (
    told_if ends (eqb n 4) _ _ (put-told ends _ _ (options-told ends unread (within levels unread_merged) (inside unread_merged unread-tells levels) v _ h)) (
    told_if ends (eqb n 5) _ _ tt (
    told_if ends (eqb n 6) _ _ tt tt)))))

pub service-tells : (levels : ℕ) → Tells (service_merged levels)
unfolding service_merged
service-tells levels ends n v m h =
    told_if ends (eqb n 1) _ _ (put-told ends _ _ (text-told ends v _ h)) (
    told_if ends (eqb n 2) _ _ (put-told ends _ _ (messages-told ends no_method (within levels method_merged) (inside method_merged method-tells levels) v _ h)) (
    told_if ends (eqb n 3) _ _ (put-told ends _ _ (options-told ends unread (within levels unread_merged) (inside unread_merged unread-tells levels) v _ h)) tt))

pub location-tells : (levels : ℕ) → Tells (location_merged levels)
unfolding location_merged
location-tells levels ends n v m h =
    told_if ends (eqb n 1) _ _ (put-told ends _ _ (int32s-told ends v _ h)) (
    told_if ends (eqb n 2) _ _ (put-told ends _ _ (int32s-told ends v _ h)) (
    told_if ends (eqb n 3) _ _ (put-told ends _ _ (text-told ends v _ h)) (
    told_if ends (eqb n 4) _ _ (put-told ends _ _ (text-told ends v _ h)) (
    told_if ends (eqb n 6) _ _ (put-told ends _ _ (texts-told ends v _ h)) tt))))

pub source-tells : (levels : ℕ) → Tells (source_merged levels)
unfolding source_merged
source-tells levels ends n v m h =
    told_if ends (eqb n 1) _ _ (put-told ends _ _ (messages-told ends no_location (within levels location_merged) (inside location_merged location-tells levels) v _ h)) tt

pub file-tells : (levels : ℕ) → Tells (file_merged levels)
unfolding file_merged
file-tells levels ends n v m h =
    told_if ends (eqb n 1) _ _ (put-told ends _ _ (text-told ends v _ h)) (
    told_if ends (eqb n 2) _ _ (put-told ends _ _ (text-told ends v _ h)) (
    told_if ends (eqb n 3) _ _ (put-told ends _ _ (texts-told ends v _ h)) (
    told_if ends (eqb n 4) _ _ (put-told ends _ _ (messages-told ends no_message (within levels message_merged_at) (inside message_merged_at message-tells levels) v _ h)) (
    told_if ends (eqb n 5) _ _ (put-told ends _ _ (messages-told ends no_enum (within levels enum_merged) (inside enum_merged enum-tells levels) v _ h)) (
    told_if ends (eqb n 6) _ _ (put-told ends _ _ (messages-told ends no_service (within levels service_merged) (inside service_merged service-tells levels) v _ h)) (
    told_if ends (eqb n 7) _ _ (put-told ends _ _ (messages-told ends no_field (within levels field_merged) (inside field_merged field-tells levels) v _ h)) (
    told_if ends (eqb n 8) _ _ (put-told ends _ _ (options-told ends unread (within levels unread_merged) (inside unread_merged unread-tells levels) v _ h)) (
    told_if ends (eqb n 9) _ _ (put-told ends _ _ (message-told ends no_source (within levels source_merged) (inside source_merged source-tells levels) v _ h)) (
    told_if ends (eqb n 10) _ _ (put-told ends _ _ (int32s-told ends v _ h)) (
    told_if ends (eqb n 11) _ _ (put-told ends _ _ (int32s-told ends v _ h)) (
    told_if ends (eqb n 12) _ _ (put-told ends _ _ (text-told ends v _ h)) tt)))))))))))

pub set-tells : (levels : ℕ) → Tells (file_set_merged levels)
unfolding file_set_merged
set-tells levels ends n v m h =
    told_if ends (eqb n 1) _ _ (put-told ends _ _ (messages-told ends no_file (within levels file_merged) (inside file_merged file-tells levels) v _ h)) tt
