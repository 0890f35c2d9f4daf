-- What is read of each message is whole, field by field.
use Rattle.std.proofs.Common.{ℕ, zero, suc, Option, None, Some, IfSome, sym, subst, eqb, rules}
use Rattle.std.specs.List.{AllByRecursion}
use Rattle.proto_types.specs.Source.{no_source, no_location}
use Rattle.proto_types.specs.Service.{no_service, no_method}
use Rattle.proto_types.specs.Enumeration.{no_enum, no_enum_range, no_value}
use Rattle.proto_types.specs.Field.{no_field}
use Rattle.proto_types.specs.Message.{no_message, no_extension_range, no_reserved_range, no_oneof}
use Rattle.proto_types.specs.File.{no_file_set, no_file}
use Rattle.proto_types.specs.declared.message.DescriptorProto.{DescriptorProto, out-DescriptorProto}
use Rattle.proto_types.specs.declared.message.DescriptorProto.TheViews.{out-roll-DescriptorProto}
use Rattle.descriptor_decoding.specs.Merging.{Reader, merged_from, within}
use Rattle.descriptor_decoding.specs.Options.{no_field_options, no_enum_options, unread, field_options_merged, enum_options_merged, unread_merged}
use Rattle.descriptor_decoding.specs.Enums.{value_merged, enum_range_merged, enum_merged}
use Rattle.descriptor_decoding.specs.Fields.{field_merged}
use Rattle.descriptor_decoding.specs.Messages.{oneof_merged, extension_range_merged, reserved_range_merged, message_row, message_merged_at}
use Rattle.descriptor_decoding.specs.Services.{method_merged, service_merged}
use Rattle.descriptor_decoding.specs.Sources.{location_merged, source_merged}
use Rattle.descriptor_decoding.specs.Files.{file_merged, file_set_merged}
use Rattle.descriptor_encoding.specs.Whole.{IsText, IsInt32, IsRead, Within, IsValue, IsEnumRange, IsEnum, IsField, IsOneof, IsExtensionRange, IsReservedRange, IsLayer, IsMessageOf, IsMessage, IsMethod, IsService, IsLocation, IsSource, IsFile, IsSet}
use Rattle.descriptor_encoding.proofs.Kept.{Keeps, Grows, from-kept, chosen, put-kept, int32-kept, int32s-kept, text-kept, texts-kept, grows, merges, messages-kept, message-kept}
use Rattle.descriptor_encoding.proofs.Options.{unread-blind, field_options-blind, enum_options-blind, options-kept}

pub value-empty : (levels : ℕ) → IsValue levels no_value
value-empty levels = record { name = tt; number = tt; options = tt }

pub value-keeps : (levels : ℕ) → Keeps (value_merged levels) (IsValue levels)
unfolding value_merged
value-keeps levels n v m h =
    chosen (IsValue levels) (eqb n 1) _ _ (put-kept (IsValue levels) (λ x. IfSome x IsText) _ _ (text-kept v m.name h.name) (λ x k. search rules)) (
    chosen (IsValue levels) (eqb n 2) _ _ (let k = int32-kept v m.number h.number in search rules) (
    chosen (IsValue levels) (eqb n 3) _ _ (put-kept (IsValue levels) (λ x. IfSome x (Within levels (IsRead unread_merged unread))) _ _ (options-kept unread_merged unread unread-blind levels v m.options h.options) (λ x k. search rules)) (h)))

pub enum_range-empty : (levels : ℕ) → IsEnumRange levels no_enum_range
enum_range-empty levels = record { start = tt; «end» = tt }

pub enum_range-keeps : (levels : ℕ) → Keeps (enum_range_merged levels) (IsEnumRange levels)
unfolding enum_range_merged
enum_range-keeps levels n v m h =
    chosen (IsEnumRange levels) (eqb n 1) _ _ (let k = int32-kept v m.start h.start in search rules) (
    chosen (IsEnumRange levels) (eqb n 2) _ _ (let k = int32-kept v m.«end» h.«end» in search rules) (h))

pub enum-empty : (levels : ℕ) → IsEnum levels no_enum
enum-empty levels = record { name = tt; value = tt; options = tt; reserved_range = tt; reserved_name = tt }

pub enum-keeps : (levels : ℕ) → Keeps (enum_merged levels) (IsEnum levels)
unfolding enum_merged
enum-keeps levels n v m h =
    chosen (IsEnum levels) (eqb n 1) _ _ (put-kept (IsEnum levels) (λ x. IfSome x IsText) _ _ (text-kept v m.name h.name) (λ x k. search rules)) (
    chosen (IsEnum levels) (eqb n 2) _ _ (put-kept (IsEnum levels) (AllByRecursion (Within levels IsValue)) _ _ (messages-kept (within levels value_merged) no_value (Within levels IsValue) (grows value_merged no_value IsValue value-empty value-keeps levels) v m.value h.value) (λ x k. search rules)) (
    chosen (IsEnum levels) (eqb n 3) _ _ (put-kept (IsEnum levels) (λ x. IfSome x (Within levels (IsRead enum_options_merged no_enum_options))) _ _ (options-kept enum_options_merged no_enum_options enum_options-blind levels v m.options h.options) (λ x k. search rules)) (
    chosen (IsEnum levels) (eqb n 4) _ _ (put-kept (IsEnum levels) (AllByRecursion (Within levels IsEnumRange)) _ _ (messages-kept (within levels enum_range_merged) no_enum_range (Within levels IsEnumRange) (grows enum_range_merged no_enum_range IsEnumRange enum_range-empty enum_range-keeps levels) v m.reserved_range h.reserved_range) (λ x k. search rules)) (
    chosen (IsEnum levels) (eqb n 5) _ _ (put-kept (IsEnum levels) (AllByRecursion IsText) _ _ (texts-kept v m.reserved_name h.reserved_name) (λ x k. search rules)) (h)))))

pub field-empty : (levels : ℕ) → IsField levels no_field
field-empty levels = record { name = tt; extendee = tt; number = tt; label = tt; type_ = tt; type_name = tt; default_value = tt; options = tt; oneof_index = tt; json_name = tt }

pub field-keeps : (levels : ℕ) → Keeps (field_merged levels) (IsField levels)
unfolding field_merged
field-keeps levels n v m h =
    chosen (IsField levels) (eqb n 1) _ _ (put-kept (IsField levels) (λ x. IfSome x IsText) _ _ (text-kept v m.name h.name) (λ x k. search rules)) (
    chosen (IsField levels) (eqb n 2) _ _ (put-kept (IsField levels) (λ x. IfSome x IsText) _ _ (text-kept v m.extendee h.extendee) (λ x k. search rules)) (
    chosen (IsField levels) (eqb n 3) _ _ (let k = int32-kept v m.number h.number in search rules) (
    chosen (IsField levels) (eqb n 4) _ _ (let k = int32-kept v m.label h.label in search rules) (
    chosen (IsField levels) (eqb n 5) _ _ (let k = int32-kept v m.type_ h.type_ in search rules) (
    chosen (IsField levels) (eqb n 6) _ _ (put-kept (IsField levels) (λ x. IfSome x IsText) _ _ (text-kept v m.type_name h.type_name) (λ x k. search rules)) (
    chosen (IsField levels) (eqb n 7) _ _ (put-kept (IsField levels) (λ x. IfSome x IsText) _ _ (text-kept v m.default_value h.default_value) (λ x k. search rules)) (
    chosen (IsField levels) (eqb n 8) _ _ (put-kept (IsField levels) (λ x. IfSome x (Within levels (IsRead field_options_merged no_field_options))) _ _ (options-kept field_options_merged no_field_options field_options-blind levels v m.options h.options) (λ x k. search rules)) (
    chosen (IsField levels) (eqb n 9) _ _ (let k = int32-kept v m.oneof_index h.oneof_index in search rules) (
    chosen (IsField levels) (eqb n 10) _ _ (put-kept (IsField levels) (λ x. IfSome x IsText) _ _ (text-kept v m.json_name h.json_name) (λ x k. search rules)) (
    chosen (IsField levels) (eqb n 17) _ _ (record { name = h.name; extendee = h.extendee; number = h.number; label = h.label; type_ = h.type_; type_name = h.type_name; default_value = h.default_value; options = h.options; oneof_index = h.oneof_index; json_name = h.json_name }) (h)))))))))))

pub oneof-empty : (levels : ℕ) → IsOneof levels no_oneof
oneof-empty levels = record { name = tt; options = tt }

pub oneof-keeps : (levels : ℕ) → Keeps (oneof_merged levels) (IsOneof levels)
unfolding oneof_merged
oneof-keeps levels n v m h =
    chosen (IsOneof levels) (eqb n 1) _ _ (put-kept (IsOneof levels) (λ x. IfSome x IsText) _ _ (text-kept v m.name h.name) (λ x k. search rules)) (
    chosen (IsOneof levels) (eqb n 2) _ _ (put-kept (IsOneof levels) (λ x. IfSome x (Within levels (IsRead unread_merged unread))) _ _ (options-kept unread_merged unread unread-blind levels v m.options h.options) (λ x k. search rules)) (h))

pub extension_range-empty : (levels : ℕ) → IsExtensionRange levels no_extension_range
extension_range-empty levels = record { start = tt; «end» = tt; options = tt }

pub extension_range-keeps : (levels : ℕ) → Keeps (extension_range_merged levels) (IsExtensionRange levels)
unfolding extension_range_merged
extension_range-keeps levels n v m h =
    chosen (IsExtensionRange levels) (eqb n 1) _ _ (let k = int32-kept v m.start h.start in search rules) (
    chosen (IsExtensionRange levels) (eqb n 2) _ _ (let k = int32-kept v m.«end» h.«end» in search rules) (
    chosen (IsExtensionRange levels) (eqb n 3) _ _ (put-kept (IsExtensionRange levels) (λ x. IfSome x (Within levels (IsRead unread_merged unread))) _ _ (options-kept unread_merged unread unread-blind levels v m.options h.options) (λ x k. search rules)) (h)))

pub reserved_range-empty : (levels : ℕ) → IsReservedRange levels no_reserved_range
reserved_range-empty levels = record { start = tt; «end» = tt }

pub reserved_range-keeps : (levels : ℕ) → Keeps (reserved_range_merged levels) (IsReservedRange levels)
unfolding reserved_range_merged
reserved_range-keeps levels n v m h =
    chosen (IsReservedRange levels) (eqb n 1) _ _ (let k = int32-kept v m.start h.start in search rules) (
    chosen (IsReservedRange levels) (eqb n 2) _ _ (let k = int32-kept v m.«end» h.«end» in search rules) (h))

message-row-keeps : (levels : ℕ) (inner : Option (Reader DescriptorProto)) (Nested : DescriptorProto → Type 0) → Grows inner no_message Nested → Keeps (message_row levels inner) (IsMessageOf levels Nested)
unfolding message_row
message-row-keeps levels inner Nested grown n v m h =
    let d = out-DescriptorProto m in
    chosen (IsMessageOf levels Nested) (eqb n 1) _ _ (put-kept (IsMessageOf levels Nested) (λ x. IfSome x IsText) _ _ (text-kept v d.name h.name) (λ x k. subst (IsLayer levels Nested) (sym (out-roll-DescriptorProto (record d { name = x }))) (search rules))) (
    chosen (IsMessageOf levels Nested) (eqb n 2) _ _ (put-kept (IsMessageOf levels Nested) (AllByRecursion (Within levels IsField)) _ _ (messages-kept (within levels field_merged) no_field (Within levels IsField) (grows field_merged no_field IsField field-empty field-keeps levels) v d.field h.field) (λ x k. subst (IsLayer levels Nested) (sym (out-roll-DescriptorProto (record d { field = x }))) (search rules))) (
    chosen (IsMessageOf levels Nested) (eqb n 3) _ _ (put-kept (IsMessageOf levels Nested) (AllByRecursion Nested) _ _ (messages-kept inner no_message Nested grown v d.nested_type h.nested_type) (λ x k. subst (IsLayer levels Nested) (sym (out-roll-DescriptorProto (record d { nested_type = x }))) (search rules))) (
    chosen (IsMessageOf levels Nested) (eqb n 4) _ _ (put-kept (IsMessageOf levels Nested) (AllByRecursion (Within levels IsEnum)) _ _ (messages-kept (within levels enum_merged) no_enum (Within levels IsEnum) (grows enum_merged no_enum IsEnum enum-empty enum-keeps levels) v d.enum_type h.enum_type) (λ x k. subst (IsLayer levels Nested) (sym (out-roll-DescriptorProto (record d { enum_type = x }))) (search rules))) (
    chosen (IsMessageOf levels Nested) (eqb n 5) _ _ (put-kept (IsMessageOf levels Nested) (AllByRecursion (Within levels IsExtensionRange)) _ _ (messages-kept (within levels extension_range_merged) no_extension_range (Within levels IsExtensionRange) (grows extension_range_merged no_extension_range IsExtensionRange extension_range-empty extension_range-keeps levels) v d.extension_range h.extension_range) (λ x k. subst (IsLayer levels Nested) (sym (out-roll-DescriptorProto (record d { extension_range = x }))) (search rules))) (
    chosen (IsMessageOf levels Nested) (eqb n 6) _ _ (put-kept (IsMessageOf levels Nested) (AllByRecursion (Within levels IsField)) _ _ (messages-kept (within levels field_merged) no_field (Within levels IsField) (grows field_merged no_field IsField field-empty field-keeps levels) v d.extension h.extension) (λ x k. subst (IsLayer levels Nested) (sym (out-roll-DescriptorProto (record d { extension = x }))) (search rules))) (
    chosen (IsMessageOf levels Nested) (eqb n 7) _ _ (put-kept (IsMessageOf levels Nested) (λ x. IfSome x (Within levels (IsRead unread_merged unread))) _ _ (options-kept unread_merged unread unread-blind levels v d.options h.options) (λ x k. subst (IsLayer levels Nested) (sym (out-roll-DescriptorProto (record d { options = x }))) (search rules))) (
    chosen (IsMessageOf levels Nested) (eqb n 8) _ _ (put-kept (IsMessageOf levels Nested) (AllByRecursion (Within levels IsOneof)) _ _ (messages-kept (within levels oneof_merged) no_oneof (Within levels IsOneof) (grows oneof_merged no_oneof IsOneof oneof-empty oneof-keeps levels) v d.oneof_decl h.oneof_decl) (λ x k. subst (IsLayer levels Nested) (sym (out-roll-DescriptorProto (record d { oneof_decl = x }))) (search rules))) (
    chosen (IsMessageOf levels Nested) (eqb n 9) _ _ (put-kept (IsMessageOf levels Nested) (AllByRecursion (Within levels IsReservedRange)) _ _ (messages-kept (within levels reserved_range_merged) no_reserved_range (Within levels IsReservedRange) (grows reserved_range_merged no_reserved_range IsReservedRange reserved_range-empty reserved_range-keeps levels) v d.reserved_range h.reserved_range) (λ x k. subst (IsLayer levels Nested) (sym (out-roll-DescriptorProto (record d { reserved_range = x }))) (search rules))) (
    chosen (IsMessageOf levels Nested) (eqb n 10) _ _ (put-kept (IsMessageOf levels Nested) (AllByRecursion IsText) _ _ (texts-kept v d.reserved_name h.reserved_name) (λ x k. subst (IsLayer levels Nested) (sym (out-roll-DescriptorProto (record d { reserved_name = x }))) (search rules))) (h))))))))))

message-row-empty : (levels : ℕ) (Nested : DescriptorProto → Type 0) → IsMessageOf levels Nested no_message
message-row-empty levels Nested =
    subst (IsLayer levels Nested) (sym (out-roll-DescriptorProto _)) (record { name = tt; field = tt; nested_type = tt; enum_type = tt; extension_range = tt; extension = tt; options = tt; oneof_decl = tt; reserved_range = tt; reserved_name = tt })

pub message-empty : (levels : ℕ) → IsMessage levels no_message
message-empty zero = message-row-empty zero (λ _. ⊥)
message-empty (suc levels) = message-row-empty (suc levels) (IsMessage levels)

pub message-keeps : (levels : ℕ) → Keeps (message_merged_at levels) (IsMessage levels)
unfolding message_merged_at
message-keeps zero = message-row-keeps zero None (λ _. ⊥) (record { grown = λ ends bytes. tt })
message-keeps (suc levels) =
    message-row-keeps (suc levels) (Some (merged_from levels (message_merged_at levels))) (IsMessage levels)
    (record { grown = λ ends bytes. from-kept levels (message_merged_at levels) (IsMessage levels) (message-keeps levels) ends bytes no_message (message-empty levels) })

pub method-empty : (levels : ℕ) → IsMethod levels no_method
method-empty levels = record { name = tt; input_type = tt; output_type = tt; options = tt }

pub method-keeps : (levels : ℕ) → Keeps (method_merged levels) (IsMethod levels)
unfolding method_merged
method-keeps levels n v m h =
    chosen (IsMethod levels) (eqb n 1) _ _ (put-kept (IsMethod levels) (λ x. IfSome x IsText) _ _ (text-kept v m.name h.name) (λ x k. search rules)) (
    chosen (IsMethod levels) (eqb n 2) _ _ (put-kept (IsMethod levels) (λ x. IfSome x IsText) _ _ (text-kept v m.input_type h.input_type) (λ x k. search rules)) (
    chosen (IsMethod levels) (eqb n 3) _ _ (put-kept (IsMethod levels) (λ x. IfSome x IsText) _ _ (text-kept v m.output_type h.output_type) (λ x k. search rules)) (
    chosen (IsMethod levels) (eqb n 4) _ _ (put-kept (IsMethod levels) (λ x. IfSome x (Within levels (IsRead unread_merged unread))) _ _ (options-kept unread_merged unread unread-blind levels v m.options h.options) (λ x k. search rules)) (
    chosen (IsMethod levels) (eqb n 5) _ _ (record { name = h.name; input_type = h.input_type; output_type = h.output_type; options = h.options }) (
    chosen (IsMethod levels) (eqb n 6) _ _ (record { name = h.name; input_type = h.input_type; output_type = h.output_type; options = h.options }) (h))))))

pub service-empty : (levels : ℕ) → IsService levels no_service
service-empty levels = record { name = tt; method = tt; options = tt }

pub service-keeps : (levels : ℕ) → Keeps (service_merged levels) (IsService levels)
unfolding service_merged
service-keeps levels n v m h =
    chosen (IsService levels) (eqb n 1) _ _ (put-kept (IsService levels) (λ x. IfSome x IsText) _ _ (text-kept v m.name h.name) (λ x k. search rules)) (
    chosen (IsService levels) (eqb n 2) _ _ (put-kept (IsService levels) (AllByRecursion (Within levels IsMethod)) _ _ (messages-kept (within levels method_merged) no_method (Within levels IsMethod) (grows method_merged no_method IsMethod method-empty method-keeps levels) v m.method h.method) (λ x k. search rules)) (
    chosen (IsService levels) (eqb n 3) _ _ (put-kept (IsService levels) (λ x. IfSome x (Within levels (IsRead unread_merged unread))) _ _ (options-kept unread_merged unread unread-blind levels v m.options h.options) (λ x k. search rules)) (h)))

pub location-empty : (levels : ℕ) → IsLocation levels no_location
location-empty levels = record { path = tt; span = tt; leading_comments = tt; trailing_comments = tt; leading_detached_comments = tt }

pub location-keeps : (levels : ℕ) → Keeps (location_merged levels) (IsLocation levels)
unfolding location_merged
location-keeps levels n v m h =
    chosen (IsLocation levels) (eqb n 1) _ _ (put-kept (IsLocation levels) (AllByRecursion IsInt32) _ _ (int32s-kept v m.path h.path) (λ x k. search rules)) (
    chosen (IsLocation levels) (eqb n 2) _ _ (put-kept (IsLocation levels) (AllByRecursion IsInt32) _ _ (int32s-kept v m.span h.span) (λ x k. search rules)) (
    chosen (IsLocation levels) (eqb n 3) _ _ (put-kept (IsLocation levels) (λ x. IfSome x IsText) _ _ (text-kept v m.leading_comments h.leading_comments) (λ x k. search rules)) (
    chosen (IsLocation levels) (eqb n 4) _ _ (put-kept (IsLocation levels) (λ x. IfSome x IsText) _ _ (text-kept v m.trailing_comments h.trailing_comments) (λ x k. search rules)) (
    chosen (IsLocation levels) (eqb n 6) _ _ (put-kept (IsLocation levels) (AllByRecursion IsText) _ _ (texts-kept v m.leading_detached_comments h.leading_detached_comments) (λ x k. search rules)) (h)))))

pub source-empty : (levels : ℕ) → IsSource levels no_source
source-empty levels = record { location = tt }

pub source-keeps : (levels : ℕ) → Keeps (source_merged levels) (IsSource levels)
unfolding source_merged
source-keeps levels n v m h =
    chosen (IsSource levels) (eqb n 1) _ _ (put-kept (IsSource levels) (AllByRecursion (Within levels IsLocation)) _ _ (messages-kept (within levels location_merged) no_location (Within levels IsLocation) (grows location_merged no_location IsLocation location-empty location-keeps levels) v m.location h.location) (λ x k. search rules)) (h)

pub file-empty : (levels : ℕ) → IsFile levels no_file
file-empty levels = record { name = tt; «package» = tt; dependency = tt; message_type = tt; enum_type = tt; service = tt; extension = tt; options = tt; source_code_info = tt; public_dependency = tt; weak_dependency = tt; syntax = tt }

pub file-keeps : (levels : ℕ) → Keeps (file_merged levels) (IsFile levels)
unfolding file_merged
file-keeps levels n v m h =
    chosen (IsFile levels) (eqb n 1) _ _ (put-kept (IsFile levels) (λ x. IfSome x IsText) _ _ (text-kept v m.name h.name) (λ x k. search rules)) (
    chosen (IsFile levels) (eqb n 2) _ _ (put-kept (IsFile levels) (λ x. IfSome x IsText) _ _ (text-kept v m.«package» h.«package») (λ x k. search rules)) (
    chosen (IsFile levels) (eqb n 3) _ _ (put-kept (IsFile levels) (AllByRecursion IsText) _ _ (texts-kept v m.dependency h.dependency) (λ x k. search rules)) (
    chosen (IsFile levels) (eqb n 4) _ _ (put-kept (IsFile levels) (AllByRecursion (Within levels IsMessage)) _ _ (messages-kept (within levels message_merged_at) no_message (Within levels IsMessage) (grows message_merged_at no_message IsMessage message-empty message-keeps levels) v m.message_type h.message_type) (λ x k. search rules)) (
    chosen (IsFile levels) (eqb n 5) _ _ (put-kept (IsFile levels) (AllByRecursion (Within levels IsEnum)) _ _ (messages-kept (within levels enum_merged) no_enum (Within levels IsEnum) (grows enum_merged no_enum IsEnum enum-empty enum-keeps levels) v m.enum_type h.enum_type) (λ x k. search rules)) (
    chosen (IsFile levels) (eqb n 6) _ _ (put-kept (IsFile levels) (AllByRecursion (Within levels IsService)) _ _ (messages-kept (within levels service_merged) no_service (Within levels IsService) (grows service_merged no_service IsService service-empty service-keeps levels) v m.service h.service) (λ x k. search rules)) (
    chosen (IsFile levels) (eqb n 7) _ _ (put-kept (IsFile levels) (AllByRecursion (Within levels IsField)) _ _ (messages-kept (within levels field_merged) no_field (Within levels IsField) (grows field_merged no_field IsField field-empty field-keeps levels) v m.extension h.extension) (λ x k. search rules)) (
    chosen (IsFile levels) (eqb n 8) _ _ (put-kept (IsFile levels) (λ x. IfSome x (Within levels (IsRead unread_merged unread))) _ _ (options-kept unread_merged unread unread-blind levels v m.options h.options) (λ x k. search rules)) (
    chosen (IsFile levels) (eqb n 9) _ _ (put-kept (IsFile levels) (λ x. IfSome x (Within levels IsSource)) _ _ (message-kept (within levels source_merged) no_source (Within levels IsSource) (grows source_merged no_source IsSource source-empty source-keeps levels) (merges source_merged IsSource source-keeps levels) v m.source_code_info h.source_code_info) (λ x k. search rules)) (
    chosen (IsFile levels) (eqb n 10) _ _ (put-kept (IsFile levels) (AllByRecursion IsInt32) _ _ (int32s-kept v m.public_dependency h.public_dependency) (λ x k. search rules)) (
    chosen (IsFile levels) (eqb n 11) _ _ (put-kept (IsFile levels) (AllByRecursion IsInt32) _ _ (int32s-kept v m.weak_dependency h.weak_dependency) (λ x k. search rules)) (
    chosen (IsFile levels) (eqb n 12) _ _ (put-kept (IsFile levels) (λ x. IfSome x IsText) _ _ (text-kept v m.syntax h.syntax) (λ x k. search rules)) (h))))))))))))

pub set-empty : (levels : ℕ) → IsSet levels no_file_set
set-empty levels = record { file = tt }

pub set-keeps : (levels : ℕ) → Keeps (file_set_merged levels) (IsSet levels)
unfolding file_set_merged
set-keeps levels n v m h =
    chosen (IsSet levels) (eqb n 1) _ _ (put-kept (IsSet levels) (AllByRecursion (Within levels IsFile)) _ _ (messages-kept (within levels file_merged) no_file (Within levels IsFile) (grows file_merged no_file IsFile file-empty file-keeps levels) v m.file h.file) (λ x k. search rules)) (h)
