-- What the ranges of a message may not be (protobuf's `BuildExtensionRange`, `BuildReservedRange`,
-- `BuildMessage` and `ValidateMessageOptions`).
use Rattle.std.specs.Prelude.{ℕ, ℤ, pos, int_le, int_lt, Bool, not, ◌&&◌, List, ◌++◌, map}
use Rattle.std.specs.declared.option.Option.TheVariants.{None}
use Rattle.plain_data.specs.Lists.{only_if}
use Rattle.proto_types.specs.declared.message.DescriptorProto.{DescriptorProto, out-DescriptorProto}
use Rattle.proto_types.specs.declared.tag.message.TheConstants as message
use Rattle.pool_types.specs.declared.contents.definition.Identity.{Identity}
use Rattle.protoc_rules.specs.declared.faults.StrictFault.{StrictFault}
use Rattle.protoc_rules.specs.declared.faults.StrictKind.TheVariants as kind
use Rattle.protoc_rules.specs.Faults.{at_entry, each_told, entry}
use Rattle.protoc_rules.specs.Spans.{earlier_overlap, extension_span, reserved_overlap}
use Rattle.protoc_rules.specs.Spans.{reserved_span}

-- what an extension range may not be: begin at 0 or below, end before it begins, nor go past the
-- greatest number of a field unless its message is a message set
abbrev pub extension_range_faults : Bool → Identity → ℕ → ℤ × ℤ → List StrictFault
extension_range_faults is_set id n span =
    let e = entry message.EXTENSION_RANGE n in
    only_if (int_le span.0 (pos 0)) (at_entry kind.RangeNotPositive id e None)
    ++ (only_if (int_le span.1 span.0) (at_entry kind.EmptyRange id e None)
    ++ only_if (not is_set && int_lt (pos 536870912) span.1)
    (at_entry kind.RangePastMaximum id e None))

-- what a reserved range may not be: begin at 0 or below
abbrev pub reserved_range_faults : Identity → ℕ → ℤ × ℤ → List StrictFault
reserved_range_faults id n span =
    only_if (int_le span.0 (pos 0))
    (at_entry kind.RangeNotPositive id (entry message.RESERVED_RANGE n) None)

-- what the ranges of a message may not be: wrong by themselves, nor overlap
abbrev pub range_faults : Bool → Identity → DescriptorProto → List StrictFault
range_faults is_set id m =
    let extensions = map extension_span (out-DescriptorProto m).extension_range in
    let reserved = map reserved_span (out-DescriptorProto m).reserved_range in
    each_told (extension_range_faults is_set id) extensions
    ++ (each_told (reserved_range_faults id) reserved
    ++ (each_told (earlier_overlap id message.RESERVED_RANGE reserved) reserved
    ++ (each_told (earlier_overlap id message.EXTENSION_RANGE extensions)
    extensions
    ++ each_told (reserved_overlap id reserved) extensions)))
