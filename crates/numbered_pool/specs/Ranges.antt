-- What messages and enums reserve, and what messages leave to extensions.
use Rattle.std.specs.Prelude.{ℕ, List, slice_get}
use Rattle.std.specs.Option.{option_and_then, option_map}
use Rattle.std.specs.declared.option.Option.{Option}
use Rattle.proto_types.specs.Readers.{number_of}
use Rattle.proto_types.specs.declared.message.DescriptorProto.{DescriptorProto, out-DescriptorProto}
use Rattle.proto_types.specs.declared.message.ExtensionRange.{ExtensionRange}
use Rattle.proto_types.specs.declared.message.ReservedRange.{ReservedRange}
use Rattle.proto_types.specs.declared.records.enumeration.EnumDescriptorProto.{EnumDescriptorProto}
use Rattle.proto_types.specs.declared.records.enumeration.EnumReservedRange.{EnumReservedRange}
use Rattle.pool_types.specs.Contents.{Contents}
use Rattle.record_lists.specs.Records.{enum_record, message_record}
use Rattle.numbered_pool.specs.declared.numbers.NumberRange.{NumberRange}

-- a range of numbers that a message leaves to extensions
abbrev pub extension_range : ExtensionRange → NumberRange
extension_range r = record { start = number_of r.start; «end» = number_of r.«end» }

-- a range of numbers that a message reserves
abbrev pub reserved_range : ReservedRange → NumberRange
reserved_range r = record { start = number_of r.start; «end» = number_of r.«end» }

-- a range of numbers that an enum reserves
abbrev pub enum_range : EnumReservedRange → NumberRange
enum_range r = record { start = number_of r.start; «end» = number_of r.«end» }

-- the record of the message with an index
abbrev pub message_record_at : Contents → ℕ → Option DescriptorProto
message_record_at p message =
    option_and_then (λ m. message_record p.files m.id) (slice_get p.messages message)

-- the record of the enum with an index
abbrev pub enum_record_at : Contents → ℕ → Option EnumDescriptorProto
enum_record_at p enumeration =
    option_and_then (λ e. enum_record p.files e.id) (slice_get p.enums enumeration)

-- the range at a position among those that a message leaves to extensions
abbrev pub extension_range_at : Contents → ℕ → ℕ → Option NumberRange
extension_range_at p message position =
    option_and_then (λ r. option_map extension_range
    (slice_get (out-DescriptorProto r).extension_range position)) (message_record_at p message)

-- the range at a position among those that a message reserves
abbrev pub message_range_at : Contents → ℕ → ℕ → Option NumberRange
message_range_at p message position =
    option_and_then (λ r. option_map reserved_range
    (slice_get (out-DescriptorProto r).reserved_range position)) (message_record_at p message)

-- the range at a position among those that an enum reserves
abbrev pub enum_range_at : Contents → ℕ → ℕ → Option NumberRange
enum_range_at p enumeration position =
    option_and_then (λ r. option_map enum_range (slice_get r.reserved_range position))
    (enum_record_at p enumeration)

-- the name at a position among those that a message reserves
abbrev pub message_name_at : Contents → ℕ → ℕ → Option (List ℕ)
message_name_at p message position =
    option_and_then (λ r. slice_get (out-DescriptorProto r).reserved_name position)
    (message_record_at p message)

-- the name at a position among those that an enum reserves
abbrev pub enum_name_at : Contents → ℕ → ℕ → Option (List ℕ)
enum_name_at p enumeration position =
    option_and_then (λ r. slice_get r.reserved_name position) (enum_record_at p enumeration)
