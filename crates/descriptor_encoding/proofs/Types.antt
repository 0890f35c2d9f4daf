-- Each message is read as it was written, part by part.
use Rattle.std.proofs.Common.{ℕ, zero, suc, [], map, Option, None, Some, Ok, refl, sym, subst, lit<}
use Rattle.proto_types.specs.Source.{no_source, no_location}
use Rattle.proto_types.specs.Service.{no_service, no_method}
use Rattle.proto_types.specs.Enumeration.{no_enum, no_enum_range, no_value}
use Rattle.proto_types.specs.Field.{no_field}
use Rattle.proto_types.specs.Message.{no_message, no_extension_range, no_reserved_range, no_oneof}
use Rattle.proto_types.specs.File.{no_file_set, no_file}
use Rattle.proto_types.specs.declared.records.enumeration.EnumValueDescriptorProto.{EnumValueDescriptorProto}
use Rattle.proto_types.specs.declared.records.enumeration.EnumReservedRange.{EnumReservedRange}
use Rattle.proto_types.specs.declared.records.enumeration.EnumDescriptorProto.{EnumDescriptorProto}
use Rattle.proto_types.specs.declared.records.field.FieldDescriptorProto.{FieldDescriptorProto}
use Rattle.proto_types.specs.declared.message.OneofDescriptorProto.{OneofDescriptorProto}
use Rattle.proto_types.specs.declared.message.ExtensionRange.{ExtensionRange}
use Rattle.proto_types.specs.declared.message.ReservedRange.{ReservedRange}
use Rattle.proto_types.specs.declared.message.DescriptorProto.{DescriptorProto, out-DescriptorProto, roll-DescriptorProto}
use Rattle.proto_types.specs.declared.message.DescriptorProto.TheOpen.{DescriptorProto-F}
use Rattle.proto_types.specs.declared.message.DescriptorProto.TheViews.{out-roll-DescriptorProto, roll-out-DescriptorProto}
use Rattle.proto_types.specs.declared.records.service.MethodDescriptorProto.{MethodDescriptorProto}
use Rattle.proto_types.specs.declared.records.service.ServiceDescriptorProto.{ServiceDescriptorProto}
use Rattle.proto_types.specs.declared.records.source.Location.{Location}
use Rattle.proto_types.specs.declared.records.source.SourceCodeInfo.{SourceCodeInfo}
use Rattle.proto_types.specs.declared.file.FileDescriptorProto.{FileDescriptorProto}
use Rattle.proto_types.specs.declared.file.FileDescriptorSet.{FileDescriptorSet}
use Rattle.descriptor_decoding.specs.Merging.{Reader, merged_from, within}
use Rattle.descriptor_decoding.specs.Options.{no_field_options, no_enum_options, unread, field_options_merged, enum_options_merged, unread_merged}
use Rattle.descriptor_decoding.specs.Enums.{value_merged, enum_range_merged, enum_merged}
use Rattle.descriptor_decoding.specs.Fields.{field_merged}
use Rattle.descriptor_decoding.specs.Messages.{oneof_merged, extension_range_merged, reserved_range_merged, message_row, message_merged_at}
use Rattle.descriptor_decoding.specs.Services.{method_merged, service_merged}
use Rattle.descriptor_decoding.specs.Sources.{location_merged, source_merged}
use Rattle.descriptor_decoding.specs.Files.{file_merged, file_set_merged}
use Rattle.descriptor_encoding.specs.Enums.{value_listed, enum_range_listed, enum_listed}
use Rattle.descriptor_encoding.specs.Fields.{field_listed}
use Rattle.descriptor_encoding.specs.Messages.{oneof_listed, extension_range_listed, reserved_range_listed, message_row_listed, descriptor_listed}
use Rattle.descriptor_encoding.specs.Services.{method_listed, service_listed}
use Rattle.descriptor_encoding.specs.Sources.{location_listed, source_listed}
use Rattle.descriptor_encoding.specs.Files.{file_listed, set_listed}
use Rattle.descriptor_encoding.proofs.Nested.{descriptor_out}
use Rattle.descriptor_encoding.specs.Whole.{Within, IsValue, IsEnumRange, IsEnum, IsField, IsOneof, IsExtensionRange, IsReservedRange, IsMessageOf, IsMessage, IsMethod, IsService, IsLocation, IsSource, IsFile, IsSet}
use Rattle.descriptor_encoding.proofs.Steps.{Makes, IsAgain, IsInside, inside, done, at_last, int32-step, bool-step, text-step, texts-behind, int32s-behind, packed-step, options-step, message-step, messages-behind}

pub value-again : (levels : ℕ) (m : EnumValueDescriptorProto) → IsValue levels m → IsAgain levels (value_merged levels) value_listed no_value m
unfolding value_merged
value-again levels m h ends =
    let m1 = record no_value { name = m.name } in
    let m2 = record m1 { number = m.number } in
    let all : Makes levels (value_merged levels) ends (value_listed m) no_value (Ok m) =
    text-step 1 m.name (λ x. record no_value { name = x }) (lit< tt, lit< tt) h.name (λ v x. refl) (
    int32-step 2 m.number (λ x. record m1 { number = x }) (lit< tt, lit< tt) h.number (λ v x. refl) (
    at_last _ (options-step unread_merged unread levels 3 m.options (λ x. record m2 { options = x }) (lit< tt, lit< tt) h.options (λ v x. refl) done))) in
    all.made

pub enum_range-again : (levels : ℕ) (m : EnumReservedRange) → IsEnumRange levels m → IsAgain levels (enum_range_merged levels) enum_range_listed no_enum_range m
unfolding enum_range_merged
enum_range-again levels m h ends =
    let m1 = record no_enum_range { start = m.start } in
    let all : Makes levels (enum_range_merged levels) ends (enum_range_listed m) no_enum_range (Ok m) =
    int32-step 1 m.start (λ x. record no_enum_range { start = x }) (lit< tt, lit< tt) h.start (λ v x. refl) (
    at_last _ (int32-step 2 m.«end» (λ x. record m1 { «end» = x }) (lit< tt, lit< tt) h.«end» (λ v x. refl) done)) in
    all.made

pub enum-again : (levels : ℕ) (m : EnumDescriptorProto) → IsEnum levels m → IsAgain levels (enum_merged levels) enum_listed no_enum m
unfolding enum_merged
enum-again levels m h ends =
    let m1 = record no_enum { name = m.name } in
    let m2 = record m1 { value = m.value } in
    let m3 = record m2 { options = m.options } in
    let m4 = record m3 { reserved_range = m.reserved_range } in
    let all : Makes levels (enum_merged levels) ends (enum_listed m) no_enum (Ok m) =
    text-step 1 m.name (λ x. record no_enum { name = x }) (lit< tt, lit< tt) h.name (λ v x. refl) (
    messages-behind (within levels value_merged) value_listed no_value (Within levels IsValue) (inside value_merged value_listed no_value IsValue value-again levels) 2 m.value (λ x. record m1 { value = x }) [] (lit< tt, lit< tt) h.value (λ v x. refl) (
    options-step enum_options_merged no_enum_options levels 3 m.options (λ x. record m2 { options = x }) (lit< tt, lit< tt) h.options (λ v x. refl) (
    messages-behind (within levels enum_range_merged) enum_range_listed no_enum_range (Within levels IsEnumRange) (inside enum_range_merged enum_range_listed no_enum_range IsEnumRange enum_range-again levels) 4 m.reserved_range (λ x. record m3 { reserved_range = x }) [] (lit< tt, lit< tt) h.reserved_range (λ v x. refl) (
    at_last _ (texts-behind 5 m.reserved_name (λ x. record m4 { reserved_name = x }) [] (lit< tt, lit< tt) h.reserved_name (λ v x. refl) done))))) in
    all.made

pub field-again : (levels : ℕ) (m : FieldDescriptorProto) → IsField levels m → IsAgain levels (field_merged levels) field_listed no_field m
unfolding field_merged
field-again levels m h ends =
    let m1 = record no_field { name = m.name } in
    let m2 = record m1 { extendee = m.extendee } in
    let m3 = record m2 { number = m.number } in
    let m4 = record m3 { label = m.label } in
    let m5 = record m4 { type_ = m.type_ } in
    let m6 = record m5 { type_name = m.type_name } in
    let m7 = record m6 { default_value = m.default_value } in
    let m8 = record m7 { options = m.options } in
    let m9 = record m8 { oneof_index = m.oneof_index } in
    let m10 = record m9 { json_name = m.json_name } in
    let all : Makes levels (field_merged levels) ends (field_listed m) no_field (Ok m) =
    text-step 1 m.name (λ x. record no_field { name = x }) (lit< tt, lit< tt) h.name (λ v x. refl) (
    text-step 2 m.extendee (λ x. record m1 { extendee = x }) (lit< tt, lit< tt) h.extendee (λ v x. refl) (
    int32-step 3 m.number (λ x. record m2 { number = x }) (lit< tt, lit< tt) h.number (λ v x. refl) (
    int32-step 4 m.label (λ x. record m3 { label = x }) (lit< tt, lit< tt) h.label (λ v x. refl) (
    int32-step 5 m.type_ (λ x. record m4 { type_ = x }) (lit< tt, lit< tt) h.type_ (λ v x. refl) (
    text-step 6 m.type_name (λ x. record m5 { type_name = x }) (lit< tt, lit< tt) h.type_name (λ v x. refl) (
    text-step 7 m.default_value (λ x. record m6 { default_value = x }) (lit< tt, lit< tt) h.default_value (λ v x. refl) (
    options-step field_options_merged no_field_options levels 8 m.options (λ x. record m7 { options = x }) (lit< tt, lit< tt) h.options (λ v x. refl) (
    int32-step 9 m.oneof_index (λ x. record m8 { oneof_index = x }) (lit< tt, lit< tt) h.oneof_index (λ v x. refl) (
    text-step 10 m.json_name (λ x. record m9 { json_name = x }) (lit< tt, lit< tt) h.json_name (λ v x. refl) (
    at_last _ (bool-step 17 m.proto3_optional (λ x. record m10 { proto3_optional = x }) (lit< tt, lit< tt) (λ v x. refl) done))))))))))) in
    all.made

pub oneof-again : (levels : ℕ) (m : OneofDescriptorProto) → IsOneof levels m → IsAgain levels (oneof_merged levels) oneof_listed no_oneof m
unfolding oneof_merged
oneof-again levels m h ends =
    let m1 = record no_oneof { name = m.name } in
    let all : Makes levels (oneof_merged levels) ends (oneof_listed m) no_oneof (Ok m) =
    text-step 1 m.name (λ x. record no_oneof { name = x }) (lit< tt, lit< tt) h.name (λ v x. refl) (
    at_last _ (options-step unread_merged unread levels 2 m.options (λ x. record m1 { options = x }) (lit< tt, lit< tt) h.options (λ v x. refl) done)) in
    all.made

pub extension_range-again : (levels : ℕ) (m : ExtensionRange) → IsExtensionRange levels m → IsAgain levels (extension_range_merged levels) extension_range_listed no_extension_range m
unfolding extension_range_merged
extension_range-again levels m h ends =
    let m1 = record no_extension_range { start = m.start } in
    let m2 = record m1 { «end» = m.«end» } in
    let all : Makes levels (extension_range_merged levels) ends (extension_range_listed m) no_extension_range (Ok m) =
    int32-step 1 m.start (λ x. record no_extension_range { start = x }) (lit< tt, lit< tt) h.start (λ v x. refl) (
    int32-step 2 m.«end» (λ x. record m1 { «end» = x }) (lit< tt, lit< tt) h.«end» (λ v x. refl) (
    at_last _ (options-step unread_merged unread levels 3 m.options (λ x. record m2 { options = x }) (lit< tt, lit< tt) h.options (λ v x. refl) done))) in
    all.made

pub reserved_range-again : (levels : ℕ) (m : ReservedRange) → IsReservedRange levels m → IsAgain levels (reserved_range_merged levels) reserved_range_listed no_reserved_range m
unfolding reserved_range_merged
reserved_range-again levels m h ends =
    let m1 = record no_reserved_range { start = m.start } in
    let all : Makes levels (reserved_range_merged levels) ends (reserved_range_listed m) no_reserved_range (Ok m) =
    int32-step 1 m.start (λ x. record no_reserved_range { start = x }) (lit< tt, lit< tt) h.start (λ v x. refl) (
    at_last _ (int32-step 2 m.«end» (λ x. record m1 { «end» = x }) (lit< tt, lit< tt) h.«end» (λ v x. refl) done)) in
    all.made

-- a message, where the messages in it are read by inner as they were written
message-row : (levels : ℕ) (inner : Option (Reader DescriptorProto)) (Nested : DescriptorProto → Type 0) → ((x : DescriptorProto) → Nested x → IsInside inner descriptor_listed no_message x)
    → (m : DescriptorProto) → IsMessageOf levels Nested m → IsAgain levels (message_row levels inner) descriptor_listed no_message m
unfolding message_row
message-row levels inner Nested law m h ends =
    let d = out-DescriptorProto m in
    let d0 : DescriptorProto-F DescriptorProto = record { name = None; field = []; nested_type = []; enum_type = []; extension_range = []; extension = []; options = None; oneof_decl = []; reserved_range = []; reserved_name = [] } in
    let d1 = record d0 { name = d.name } in
    let d2 = record d1 { field = d.field } in
    let d3 = record d2 { nested_type = d.nested_type } in
    let d4 = record d3 { enum_type = d.enum_type } in
    let d5 = record d4 { extension_range = d.extension_range } in
    let d6 = record d5 { extension = d.extension } in
    let d7 = record d6 { options = d.options } in
    let d8 = record d7 { oneof_decl = d.oneof_decl } in
    let d9 = record d8 { reserved_range = d.reserved_range } in
    let all : Makes levels (message_row levels inner) ends (message_row_listed d (map descriptor_listed d.nested_type)) no_message (Ok (roll-DescriptorProto d)) =
    text-step 1 d.name (λ x. roll-DescriptorProto (record d0 { name = x })) (lit< tt, lit< tt) h.name (λ v x. rw (out-roll-DescriptorProto (record d0 { name = x })) refl) (
    messages-behind (within levels field_merged) field_listed no_field (Within levels IsField) (inside field_merged field_listed no_field IsField field-again levels) 2 d.field (λ x. roll-DescriptorProto (record d1 { field = x })) [] (lit< tt, lit< tt) h.field (λ v x. rw (out-roll-DescriptorProto (record d1 { field = x })) refl) (
    messages-behind inner descriptor_listed no_message Nested law 3 d.nested_type (λ x. roll-DescriptorProto (record d2 { nested_type = x })) [] (lit< tt, lit< tt) h.nested_type (λ v x. rw (out-roll-DescriptorProto (record d2 { nested_type = x })) refl) (
    messages-behind (within levels enum_merged) enum_listed no_enum (Within levels IsEnum) (inside enum_merged enum_listed no_enum IsEnum enum-again levels) 4 d.enum_type (λ x. roll-DescriptorProto (record d3 { enum_type = x })) [] (lit< tt, lit< tt) h.enum_type (λ v x. rw (out-roll-DescriptorProto (record d3 { enum_type = x })) refl) (
    messages-behind (within levels extension_range_merged) extension_range_listed no_extension_range (Within levels IsExtensionRange) (inside extension_range_merged extension_range_listed no_extension_range IsExtensionRange extension_range-again levels) 5 d.extension_range (λ x. roll-DescriptorProto (record d4 { extension_range = x })) [] (lit< tt, lit< tt) h.extension_range (λ v x. rw (out-roll-DescriptorProto (record d4 { extension_range = x })) refl) (
    messages-behind (within levels field_merged) field_listed no_field (Within levels IsField) (inside field_merged field_listed no_field IsField field-again levels) 6 d.extension (λ x. roll-DescriptorProto (record d5 { extension = x })) [] (lit< tt, lit< tt) h.extension (λ v x. rw (out-roll-DescriptorProto (record d5 { extension = x })) refl) (
    options-step unread_merged unread levels 7 d.options (λ x. roll-DescriptorProto (record d6 { options = x })) (lit< tt, lit< tt) h.options (λ v x. rw (out-roll-DescriptorProto (record d6 { options = x })) refl) (
    messages-behind (within levels oneof_merged) oneof_listed no_oneof (Within levels IsOneof) (inside oneof_merged oneof_listed no_oneof IsOneof oneof-again levels) 8 d.oneof_decl (λ x. roll-DescriptorProto (record d7 { oneof_decl = x })) [] (lit< tt, lit< tt) h.oneof_decl (λ v x. rw (out-roll-DescriptorProto (record d7 { oneof_decl = x })) refl) (
    messages-behind (within levels reserved_range_merged) reserved_range_listed no_reserved_range (Within levels IsReservedRange) (inside reserved_range_merged reserved_range_listed no_reserved_range IsReservedRange reserved_range-again levels) 9 d.reserved_range (λ x. roll-DescriptorProto (record d8 { reserved_range = x })) [] (lit< tt, lit< tt) h.reserved_range (λ v x. rw (out-roll-DescriptorProto (record d8 { reserved_range = x })) refl) (
    at_last _ (texts-behind 10 d.reserved_name (λ x. roll-DescriptorProto (record d9 { reserved_name = x })) [] (lit< tt, lit< tt) h.reserved_name (λ v x. rw (out-roll-DescriptorProto (record d9 { reserved_name = x })) refl) done)))))))))) in
    let whole : Makes levels (message_row levels inner) ends (message_row_listed d (map descriptor_listed d.nested_type)) no_message (Ok m) =
    subst (λ x. Makes levels (message_row levels inner) ends (message_row_listed d (map descriptor_listed d.nested_type)) no_message (Ok x)) (roll-out-DescriptorProto m) all in
    (subst (λ fs. Makes levels (message_row levels inner) ends fs no_message (Ok m)) (sym (descriptor_out m)) whole).made

pub message-again : (levels : ℕ) (m : DescriptorProto) → IsMessage levels m → IsAgain levels (message_merged_at levels) descriptor_listed no_message m
unfolding message_merged_at
message-again zero m h = message-row zero None (λ _. ⊥) (λ x k. absurd k) m h
message-again (suc levels) m h = message-row (suc levels) (Some (merged_from levels (message_merged_at levels))) (IsMessage levels) (λ x k. message-again levels x k) m h

pub method-again : (levels : ℕ) (m : MethodDescriptorProto) → IsMethod levels m → IsAgain levels (method_merged levels) method_listed no_method m
unfolding method_merged
method-again levels m h ends =
    let m1 = record no_method { name = m.name } in
    let m2 = record m1 { input_type = m.input_type } in
    let m3 = record m2 { output_type = m.output_type } in
    let m4 = record m3 { options = m.options } in
    let m5 = record m4 { client_streaming = m.client_streaming } in
    let all : Makes levels (method_merged levels) ends (method_listed m) no_method (Ok m) =
    text-step 1 m.name (λ x. record no_method { name = x }) (lit< tt, lit< tt) h.name (λ v x. refl) (
    text-step 2 m.input_type (λ x. record m1 { input_type = x }) (lit< tt, lit< tt) h.input_type (λ v x. refl) (
    text-step 3 m.output_type (λ x. record m2 { output_type = x }) (lit< tt, lit< tt) h.output_type (λ v x. refl) (
    options-step unread_merged unread levels 4 m.options (λ x. record m3 { options = x }) (lit< tt, lit< tt) h.options (λ v x. refl) (
    bool-step 5 m.client_streaming (λ x. record m4 { client_streaming = x }) (lit< tt, lit< tt) (λ v x. refl) (
    at_last _ (bool-step 6 m.server_streaming (λ x. record m5 { server_streaming = x }) (lit< tt, lit< tt) (λ v x. refl) done)))))) in
    all.made

pub service-again : (levels : ℕ) (m : ServiceDescriptorProto) → IsService levels m → IsAgain levels (service_merged levels) service_listed no_service m
unfolding service_merged
service-again levels m h ends =
    let m1 = record no_service { name = m.name } in
    let m2 = record m1 { method = m.method } in
    let all : Makes levels (service_merged levels) ends (service_listed m) no_service (Ok m) =
    text-step 1 m.name (λ x. record no_service { name = x }) (lit< tt, lit< tt) h.name (λ v x. refl) (
    messages-behind (within levels method_merged) method_listed no_method (Within levels IsMethod) (inside method_merged method_listed no_method IsMethod method-again levels) 2 m.method (λ x. record m1 { method = x }) [] (lit< tt, lit< tt) h.method (λ v x. refl) (
    at_last _ (options-step unread_merged unread levels 3 m.options (λ x. record m2 { options = x }) (lit< tt, lit< tt) h.options (λ v x. refl) done))) in
    all.made

pub location-again : (levels : ℕ) (m : Location) → IsLocation levels m → IsAgain levels (location_merged levels) location_listed no_location m
unfolding location_merged
location-again levels m h ends =
    let m1 = record no_location { path = m.path } in
    let m2 = record m1 { span = m.span } in
    let m3 = record m2 { leading_comments = m.leading_comments } in
    let m4 = record m3 { trailing_comments = m.trailing_comments } in
    let all : Makes levels (location_merged levels) ends (location_listed m) no_location (Ok m) =
    packed-step 1 m.path (λ x. record no_location { path = x }) (lit< tt, lit< tt) h.path (λ v x. refl) (
    packed-step 2 m.span (λ x. record m1 { span = x }) (lit< tt, lit< tt) h.span (λ v x. refl) (
    text-step 3 m.leading_comments (λ x. record m2 { leading_comments = x }) (lit< tt, lit< tt) h.leading_comments (λ v x. refl) (
    text-step 4 m.trailing_comments (λ x. record m3 { trailing_comments = x }) (lit< tt, lit< tt) h.trailing_comments (λ v x. refl) (
    at_last _ (texts-behind 6 m.leading_detached_comments (λ x. record m4 { leading_detached_comments = x }) [] (lit< tt, lit< tt) h.leading_detached_comments (λ v x. refl) done))))) in
    all.made

pub source-again : (levels : ℕ) (m : SourceCodeInfo) → IsSource levels m → IsAgain levels (source_merged levels) source_listed no_source m
unfolding source_merged
source-again levels m h ends =
    let all : Makes levels (source_merged levels) ends (source_listed m) no_source (Ok m) =
    at_last _ (messages-behind (within levels location_merged) location_listed no_location (Within levels IsLocation) (inside location_merged location_listed no_location IsLocation location-again levels) 1 m.location (λ x. record no_source { location = x }) [] (lit< tt, lit< tt) h.location (λ v x. refl) done) in
    all.made

pub file-again : (levels : ℕ) (m : FileDescriptorProto) → IsFile levels m → IsAgain levels (file_merged levels) file_listed no_file m
unfolding file_merged
file-again levels m h ends =
    let m1 = record no_file { name = m.name } in
    let m2 = record m1 { «package» = m.«package» } in
    let m3 = record m2 { dependency = m.dependency } in
    let m4 = record m3 { message_type = m.message_type } in
    let m5 = record m4 { enum_type = m.enum_type } in
    let m6 = record m5 { service = m.service } in
    let m7 = record m6 { extension = m.extension } in
    let m8 = record m7 { options = m.options } in
    let m9 = record m8 { source_code_info = m.source_code_info } in
    let m10 = record m9 { public_dependency = m.public_dependency } in
    let m11 = record m10 { weak_dependency = m.weak_dependency } in
    let all : Makes levels (file_merged levels) ends (file_listed m) no_file (Ok m) =
    text-step 1 m.name (λ x. record no_file { name = x }) (lit< tt, lit< tt) h.name (λ v x. refl) (
    text-step 2 m.«package» (λ x. record m1 { «package» = x }) (lit< tt, lit< tt) h.«package» (λ v x. refl) (
    texts-behind 3 m.dependency (λ x. record m2 { dependency = x }) [] (lit< tt, lit< tt) h.dependency (λ v x. refl) (
    messages-behind (within levels message_merged_at) descriptor_listed no_message (Within levels IsMessage) (inside message_merged_at descriptor_listed no_message IsMessage message-again levels) 4 m.message_type (λ x. record m3 { message_type = x }) [] (lit< tt, lit< tt) h.message_type (λ v x. refl) (
    messages-behind (within levels enum_merged) enum_listed no_enum (Within levels IsEnum) (inside enum_merged enum_listed no_enum IsEnum enum-again levels) 5 m.enum_type (λ x. record m4 { enum_type = x }) [] (lit< tt, lit< tt) h.enum_type (λ v x. refl) (
    messages-behind (within levels service_merged) service_listed no_service (Within levels IsService) (inside service_merged service_listed no_service IsService service-again levels) 6 m.service (λ x. record m5 { service = x }) [] (lit< tt, lit< tt) h.service (λ v x. refl) (
    messages-behind (within levels field_merged) field_listed no_field (Within levels IsField) (inside field_merged field_listed no_field IsField field-again levels) 7 m.extension (λ x. record m6 { extension = x }) [] (lit< tt, lit< tt) h.extension (λ v x. refl) (
    options-step unread_merged unread levels 8 m.options (λ x. record m7 { options = x }) (lit< tt, lit< tt) h.options (λ v x. refl) (
    message-step (within levels source_merged) source_listed no_source (Within levels IsSource) (inside source_merged source_listed no_source IsSource source-again levels) 9 m.source_code_info (λ x. record m8 { source_code_info = x }) (lit< tt, lit< tt) h.source_code_info (λ v x. refl) (
    int32s-behind 10 m.public_dependency (λ x. record m9 { public_dependency = x }) [] (lit< tt, lit< tt) h.public_dependency (λ v x. refl) (
    int32s-behind 11 m.weak_dependency (λ x. record m10 { weak_dependency = x }) [] (lit< tt, lit< tt) h.weak_dependency (λ v x. refl) (
    at_last _ (text-step 12 m.syntax (λ x. record m11 { syntax = x }) (lit< tt, lit< tt) h.syntax (λ v x. refl) done)))))))))))) in
    all.made

pub set-again : (levels : ℕ) (m : FileDescriptorSet) → IsSet levels m → IsAgain levels (file_set_merged levels) set_listed no_file_set m
unfolding file_set_merged
set-again levels m h ends =
    let all : Makes levels (file_set_merged levels) ends (set_listed m) no_file_set (Ok m) =
    at_last _ (messages-behind (within levels file_merged) file_listed no_file (Within levels IsFile) (inside file_merged file_listed no_file IsFile file-again levels) 1 m.file (λ x. record no_file_set { file = x }) [] (lit< tt, lit< tt) h.file (λ v x. refl) done) in
    all.made
