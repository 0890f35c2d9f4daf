-- What the record of a message says of numbers for which it has no field: those that it reserves are
-- kept free. That a number is left to extensions does not keep it free, since one of them may take it.
use Rattle.std.specs.Prelude.{ℕ, pos, Bool, ◌&&◌, int_le, List, [], Option, slice_get}
use Rattle.std.specs.Prelude.{option_and_then}
use Rattle.std.specs.List.{list_any}
use Rattle.std.specs.Option.{option_map_or}
use Rattle.proto_types.specs.Readers.{number_of}
use Rattle.proto_types.specs.declared.message.DescriptorProto.{DescriptorProto, out-DescriptorProto}
use Rattle.proto_types.specs.declared.message.ReservedRange.{ReservedRange}
use Rattle.pool_types.specs.declared.contents.message.MessageDescriptorInner.{MessageDescriptorInner}
use Rattle.record_walk.specs.Leads.{leads}
use Rattle.record_walk.specs.Protos.{as_message}
use Rattle.field_rules.specs.Ranges.{reserves}
use Rattle.schema_changes.specs.Parts.{Parts}

-- the linked record of a message
abbrev pub message_record : Parts → MessageDescriptorInner → Option DescriptorProto
message_record p m =
    option_and_then (λ f. option_and_then as_message (leads f.raw m.id.path))
    (slice_get p.files m.id.file)

-- the ranges of numbers that a message reserves
unfoldable pub reserved_of : Parts → MessageDescriptorInner → List ReservedRange
reserved_of p m =
    option_map_or (λ r. (out-DescriptorProto r).reserved_range) (message_record p m) []

-- whether a message keeps a number free of fields: it is reserved
abbrev pub is_kept_free : Parts → MessageDescriptorInner → ℕ → Bool
is_kept_free p m n = list_any (reserves (pos n)) (reserved_of p m)

-- whether a second range holds each number of a first one
abbrev pub covers : ReservedRange → ReservedRange → Bool
covers r s = int_le (number_of s.start) (number_of r.start)
    && int_le (number_of r.«end») (number_of s.«end»)

-- whether a message reserves each number of a range, in one range of its own
abbrev pub keeps_range : Parts → MessageDescriptorInner → ReservedRange → Bool
keeps_range p m r = list_any (covers r) (reserved_of p m)
