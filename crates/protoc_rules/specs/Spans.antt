-- Ranges of numbers, each as its start and the number behind its last one, and which overlap.
use Rattle.std.specs.Prelude.{ℕ, ℤ, pos, ◌+ℤ◌, int_le, int_lt, Bool, ◌&&◌, List, take, position}
use Rattle.proto_types.specs.Readers.{number_of}
use Rattle.proto_types.specs.declared.message.ExtensionRange.{ExtensionRange}
use Rattle.proto_types.specs.declared.message.ReservedRange.{ReservedRange}
use Rattle.proto_types.specs.declared.records.enumeration.EnumReservedRange.{EnumReservedRange}
use Rattle.proto_types.specs.declared.tag.message.TheConstants as message
use Rattle.pool_types.specs.declared.contents.definition.Identity.{Identity}
use Rattle.protoc_rules.specs.declared.faults.StrictFault.{StrictFault}
use Rattle.protoc_rules.specs.declared.faults.StrictKind.TheVariants as kind
use Rattle.protoc_rules.specs.Faults.{entry, entry_at, pair_faults}

-- the numbers of an extension range, which does not hold its end
abbrev pub extension_span : ExtensionRange → ℤ × ℤ
extension_span r = (number_of r.start, number_of r.«end»)

-- the numbers of a reserved range of a message, which does not hold its end
abbrev pub reserved_span : ReservedRange → ℤ × ℤ
reserved_span r = (number_of r.start, number_of r.«end»)

-- the numbers of a reserved range of an enum, which holds its end
abbrev pub enum_span : EnumReservedRange → ℤ × ℤ
enum_span r = (number_of r.start, number_of r.«end» +ℤ pos 1)

-- whether two ranges overlap: each begins before the other ends
abbrev pub overlap : ℤ × ℤ → ℤ × ℤ → Bool
overlap x y = int_lt y.0 x.1 && int_lt x.0 y.1

-- whether a range is not empty, and ends where a second one begins or before that
abbrev pub precedes : ℤ × ℤ → ℤ × ℤ → Bool
precedes x y = int_lt x.0 x.1 && int_le x.1 y.0

-- that the range with a position overlaps with an earlier one, of which the first is told
abbrev pub earlier_overlap : Identity → ℤ → List (ℤ × ℤ) → ℕ → ℤ × ℤ → List StrictFault
earlier_overlap id tag spans n span = pair_faults kind.RangesOverlap id (entry tag n)
    (entry_at tag (position (overlap span) (take n spans)))

-- that the extension range with a position overlaps with a reserved one, of which the first is told
abbrev pub reserved_overlap : Identity → List (ℤ × ℤ) → ℕ → ℤ × ℤ → List StrictFault
reserved_overlap id reserved n span = pair_faults kind.RangesOverlap id
    (entry message.EXTENSION_RANGE n)
    (entry_at message.RESERVED_RANGE (position (overlap span) reserved))
