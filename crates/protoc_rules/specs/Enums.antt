-- What enums may not be (protobuf's `BuildEnum`).
use Rattle.std.specs.Prelude.{ℕ, ℤ, int_le, Bool, List, [], ◌++◌, map, if◌then◌else◌}
use Rattle.std.specs.Option.{option_map_or}
use Rattle.std.specs.declared.option.Option.TheVariants.{None}
use Rattle.plain_data.specs.Lists.{only_if}
use Rattle.proto_types.specs.declared.records.enumeration.EnumDescriptorProto.{EnumDescriptorProto}
use Rattle.proto_types.specs.declared.tag.enum_.TheConstants as enumeration
use Rattle.pool_types.specs.declared.contents.definition.Identity.{Identity}
use Rattle.pool_types.specs.declared.contents.enumeration.EnumDescriptorInner.{EnumDescriptorInner}
use Rattle.protoc_rules.specs.declared.faults.StrictFault.{StrictFault}
use Rattle.protoc_rules.specs.declared.faults.StrictKind.TheVariants as kind
use Rattle.protoc_rules.specs.Faults.{at_entry, each_told, entry}
use Rattle.protoc_rules.specs.Linked.{Linked, enum_record, in_proto3}
use Rattle.protoc_rules.specs.Names.{enum_name_faults}
use Rattle.protoc_rules.specs.Reserved.{ReservedNames, reserved_name_faults}
use Rattle.protoc_rules.specs.Spans.{earlier_overlap, enum_span}
use Rattle.protoc_rules.specs.Values.{value_faults}

-- that a reserved range of an enum ends before it begins
abbrev pub empty_range_faults : Identity → ℕ → ℤ × ℤ → List StrictFault
empty_range_faults id n span =
    only_if (int_le span.1 span.0)
    (at_entry kind.EmptyRange id (entry enumeration.RESERVED_RANGE n) None)

-- what the reserved ranges of an enum may not be: end before they begin, nor overlap
abbrev pub enum_range_faults : Identity → EnumDescriptorProto → List StrictFault
enum_range_faults id e =
    let spans = map enum_span e.reserved_range in
    each_told (empty_range_faults id) spans
    ++ each_told (earlier_overlap id enumeration.RESERVED_RANGE spans) spans

-- the reserved names of an enum, and the names of its values
abbrev pub reserved_of : EnumDescriptorInner → EnumDescriptorProto → ReservedNames
reserved_of e r = record {
  names = r.reserved_name;
  tag = enumeration.RESERVED_NAME;
  members = e.value_names;
  member_tag = enumeration.VALUE;
}

-- what an enum with its record may not be, where it is known whether it is one of proto3
abbrev pub recorded_enum_faults : Bool → EnumDescriptorInner → EnumDescriptorProto
    → List StrictFault
recorded_enum_faults proto3 e r = enum_name_faults e ++ (enum_range_faults e.id r
    ++ (reserved_name_faults e.id (reserved_of e r) ++ (if proto3 then value_faults e else [])))

-- what an enum may not be
abbrev pub enum_faults : Linked → EnumDescriptorInner → List StrictFault
enum_faults l e =
    option_map_or (recorded_enum_faults (in_proto3 l e.id.file) e) (enum_record l e.id) []
