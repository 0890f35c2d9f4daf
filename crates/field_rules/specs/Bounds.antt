-- The ranges of a message, each as its start and its end.
use Rattle.std.specs.Prelude.{◌≡◌, ℤ, List, map}
use Rattle.proto_types.specs.declared.message.DescriptorProto.{DescriptorProto, out-DescriptorProto}
use Rattle.proto_types.specs.declared.message.ExtensionRange.{ExtensionRange}
use Rattle.proto_types.specs.declared.message.ReservedRange.{ReservedRange}
use Rattle.proto_types.specs.Readers.{number_of}
use Rattle.field_rules.specs.declared.message_ranges.MessageRanges.{MessageRanges}

-- the reserved ranges of a message, each as its start and its end
abbrev pub reserved_bounds : List ReservedRange → List (ℤ × ℤ)
reserved_bounds ranges = map (λ r. (number_of r.start, number_of r.«end»)) ranges

-- the extension ranges of a message, each as its start and its end
abbrev pub extension_bounds : List ExtensionRange → List (ℤ × ℤ)
extension_bounds ranges = map (λ r. (number_of r.start, number_of r.«end»)) ranges

-- ranges are the reserved and the extension ranges of a message, each as its start and its end
pub record AreRangesOf (ranges : MessageRanges) (message : DescriptorProto) : Type 0 where
  pub reserved : ranges.reserved ≡ reserved_bounds (out-DescriptorProto message).reserved_range
  pub extension : ranges.extension ≡ extension_bounds (out-DescriptorProto message).extension_range
