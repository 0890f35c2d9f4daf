-- Which numbers a range of a message holds (descriptor.proto on `ReservedRange` and
-- `ExtensionRange`): those from its start on and below its end.
use Rattle.std.specs.Prelude.{ℤ, Bool}
use Rattle.proto_types.specs.declared.message.ExtensionRange.{ExtensionRange}
use Rattle.proto_types.specs.declared.message.ReservedRange.{ReservedRange}
use Rattle.proto_types.specs.Readers.{number_of}
use Rattle.field_rules.specs.NumberRanges.{holds}

-- a reserved range of a message holds the numbers from its start on and below its end
abbrev pub reserves : ℤ → ReservedRange → Bool
reserves n range = holds n (number_of range.start, number_of range.«end»)

-- an extension range of a message holds the numbers from its start on and below its end
abbrev pub extends : ℤ → ExtensionRange → Bool
extends n range = holds n (number_of range.start, number_of range.«end»)
