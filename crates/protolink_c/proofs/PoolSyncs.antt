-- A pool with its report may be read from several threads at once.
use denote.Builtin.{u32}
use denote.Param.Send.{IsSync, struct_sync, recorded_sync, sendable}
use denote.Struct.Declared.{shape}
use denote.Struct.Struct.{Struct}
use Rattle.std.proofs.Crossing.{crosses, Vec-sync}
use Rattle.std.proofs.MapsCrossingOver as sets
use Rattle.plain_data.proofs.items.Items.TheSendSync as items
use Rattle.plain_data.proofs.numbers.Numbers.TheSendSync as short_numbers
use Rattle.plain_data.proofs.text.Text.TheSendSync as text
use Rattle.proto_types.specs.contracts.file.FileDescriptorProto as proto
use Rattle.proto_types.specs.contracts.message.DescriptorProto as message
use Rattle.proto_types.proofs.message.DescriptorProto.TheLaws.TheKnot as knot
use Rattle.proto_types.proofs.message.ExtensionRange.TheSendSync as extension_ranges
use Rattle.proto_types.proofs.message.OneofDescriptorProto.TheSendSync as oneofs
use Rattle.proto_types.proofs.message.ReservedRange.TheSendSync as reserved_ranges
use Rattle.proto_types.proofs.records.enumeration.EnumDescriptorProto.TheSendSync as enums
use Rattle.proto_types.proofs.records.field.FieldDescriptorProto.TheSendSync as fields
use Rattle.proto_types.proofs.records.options.Options.TheSendSync as options
use Rattle.proto_types.proofs.records.options.Unread.TheSendSync as unread
use Rattle.proto_types.proofs.records.service.ServiceDescriptorProto.TheSendSync as services
use Rattle.proto_types.proofs.records.source.SourceCodeInfo.TheSendSync as sources
use Rattle.pool_types.specs.contracts.contents.file.FileDescriptorInner as file
use Rattle.pool_contents.specs.contracts.inner.DescriptorPoolInner as contents
use Rattle.descriptor_pool.specs.contracts.pool.DescriptorPool as pool
use Rattle.name_tables.proofs.file_names.FileNames.TheSendSync as file_names
use Rattle.name_tables.proofs.part_names.PartNames.TheSendSync as names
use Rattle.pool_types.proofs.contents.enumeration.EnumDescriptorInner.TheSendSync as item_enums
use Rattle.pool_types.proofs.contents.extension.ExtensionDescriptorInner.TheSendSync as item_extensions
use Rattle.pool_types.proofs.contents.message.MessageDescriptorInner.TheSendSync as item_messages
use Rattle.pool_types.proofs.contents.service.ServiceDescriptorInner.TheSendSync as item_services
use Rattle.pool_types.proofs.kinds.Syntax.TheSendSync as syntax
use Rattle.numbered_pool.specs.contracts.answers.Answers as answers

number_sync : IsSync u32
number_sync = search sendable

-- it holds itself, so the check makes no `the_sync` of it, nor of what holds it
pub message_sync : IsSync message.the_row
message_sync = search (knot.crosses, items.the_sync, text.the_sync, fields.the_sync, enums.the_sync, extension_ranges.the_sync, options.the_sync, unread.the_sync, oneofs.the_sync, reserved_ranges.the_sync, sendable) depth 60 fits 20000

pub proto_sync : IsSync (proto.the_field).row
proto_sync = search (message_sync, items.the_sync, short_numbers.the_sync, text.the_sync, enums.the_sync, services.the_sync, fields.the_sync, options.the_sync, unread.the_sync, sources.the_sync, sendable) depth 60 fits 20000

pub file_sync : IsSync file.the_row
file_sync =
    let numbers = items.the_sync u32 number_sync in
    recorded_sync (Struct (shape file.the_type)) (file.the_type).D (file.the_type).to (file.the_type).to_one
    (struct_sync (shape file.the_type) (syntax.the_field_sync, (proto_sync, (numbers, (search (sets.crosses, crosses, sendable) depth 40, tt)))))

pub contents_field_sync : IsSync (contents.the_field).row
contents_field_sync = struct_sync (shape contents.the_type)
    (Vec-sync _ file_sync, (Vec-sync _ item_messages.the_sync, (Vec-sync _ item_enums.the_sync, (Vec-sync _ item_services.the_sync, (Vec-sync _ item_extensions.the_sync, (names.the_sync, (file_names.the_sync, tt)))))))

pub contents_sync : IsSync contents.the_row
contents_sync = recorded_sync (Struct (shape contents.the_type)) (contents.the_type).D (contents.the_type).to (contents.the_type).to_one contents_field_sync

pub pool_sync : IsSync pool.the_row
pool_sync = search (contents_field_sync, crosses, sendable) depth 40

pub answers_sync : IsSync answers.the_row
answers_sync = search (pool_sync, crosses, sendable) depth 40
