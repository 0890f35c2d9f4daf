-- A pool with its report may go to another thread: what it owns names no thread.
use denote.Builtin.{u32}
use denote.Param.Send.{IsSend, struct_send, recorded_send, sendable}
use denote.Struct.Declared.{shape}
use denote.Struct.Struct.{Struct}
use Rattle.std.proofs.Crossing.{crosses, Vec-send}
use Rattle.std.proofs.MapsCrossingOver as sets
use Rattle.plain_data.proofs.items.Items.TheSendSync as items
use Rattle.plain_data.proofs.numbers.Numbers.TheSendSync as short_numbers
use Rattle.plain_data.proofs.text.Text.TheSendSync as text
use Rattle.proto_types.specs.contracts.file.FileDescriptorProto as proto
use Rattle.proto_types.specs.contracts.message.DescriptorProto as message
use Rattle.proto_types.proofs.message.DescriptorProto.TheLaws.TheKnot as knot
use Rattle.proto_types.proofs.message.ExtensionRange.TheSendSync as extension_ranges
use Rattle.proto_types.proofs.message.OneofDescriptorProto.TheSendSync as oneofs
use Rattle.proto_types.proofs.message.ReservedRange.TheSendSync as reserved_ranges
use Rattle.proto_types.proofs.records.enumeration.EnumDescriptorProto.TheSendSync as enums
use Rattle.proto_types.proofs.records.field.FieldDescriptorProto.TheSendSync as fields
use Rattle.proto_types.proofs.records.options.Options.TheSendSync as options
use Rattle.proto_types.proofs.records.options.Unread.TheSendSync as unread
use Rattle.proto_types.proofs.records.service.ServiceDescriptorProto.TheSendSync as services
use Rattle.proto_types.proofs.records.source.SourceCodeInfo.TheSendSync as sources
use Rattle.pool_types.specs.contracts.contents.file.FileDescriptorInner as file
use Rattle.pool_contents.specs.contracts.inner.DescriptorPoolInner as contents
use Rattle.descriptor_pool.specs.contracts.pool.DescriptorPool as pool
use Rattle.name_tables.proofs.file_names.FileNames.TheSendSync as file_names
use Rattle.name_tables.proofs.part_names.PartNames.TheSendSync as names
use Rattle.pool_types.proofs.contents.enumeration.EnumDescriptorInner.TheSendSync as item_enums
use Rattle.pool_types.proofs.contents.extension.ExtensionDescriptorInner.TheSendSync as item_extensions
use Rattle.pool_types.proofs.contents.message.MessageDescriptorInner.TheSendSync as item_messages
use Rattle.pool_types.proofs.contents.service.ServiceDescriptorInner.TheSendSync as item_services
use Rattle.pool_types.proofs.kinds.Syntax.TheSendSync as syntax
use Rattle.numbered_pool.specs.contracts.answers.Answers as answers

number_send : IsSend u32
number_send = search sendable

-- it holds itself, so the check makes no `the_send` of it, nor of what holds it
pub message_send : IsSend message.the_row
message_send = search (knot.crosses, items.the_send, text.the_send, fields.the_send, enums.the_send, extension_ranges.the_send, options.the_send, unread.the_send, oneofs.the_send, reserved_ranges.the_send, sendable) depth 60 fits 20000

pub proto_send : IsSend (proto.the_field).row
proto_send = search (message_send, items.the_send, short_numbers.the_send, text.the_send, enums.the_send, services.the_send, fields.the_send, options.the_send, unread.the_send, sources.the_send, sendable) depth 60 fits 20000

pub file_send : IsSend file.the_row
file_send =
    let numbers = items.the_send u32 number_send in
    recorded_send (Struct (shape file.the_type)) (file.the_type).D (file.the_type).to (file.the_type).to_one
    (struct_send (shape file.the_type) (syntax.the_field_send, (proto_send, (numbers, (search (sets.crosses, crosses, sendable) depth 40, tt)))))

pub contents_field_send : IsSend (contents.the_field).row
contents_field_send = struct_send (shape contents.the_type)
    (Vec-send _ file_send, (Vec-send _ item_messages.the_send, (Vec-send _ item_enums.the_send, (Vec-send _ item_services.the_send, (Vec-send _ item_extensions.the_send, (names.the_send, (file_names.the_send, tt)))))))

pub contents_send : IsSend contents.the_row
contents_send = recorded_send (Struct (shape contents.the_type)) (contents.the_type).D (contents.the_type).to (contents.the_type).to_one contents_field_send

pub pool_send : IsSend pool.the_row
pool_send = search (contents_field_send, crosses, sendable) depth 40

pub answers_send : IsSend answers.the_row
answers_send = search (pool_send, crosses, sendable) depth 40
