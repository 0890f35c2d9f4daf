-- Enums, their reserved ranges and their values without parts.
use Rattle.std.specs.Prelude.{[]}
use Rattle.std.specs.declared.option.Option.TheVariants.{None}
use Rattle.proto_types.specs.declared.records.enumeration.EnumDescriptorProto.{EnumDescriptorProto}
use Rattle.proto_types.specs.declared.records.enumeration.EnumReservedRange.{EnumReservedRange}
use Rattle.proto_types.specs.declared.records.enumeration.EnumValueDescriptorProto.{EnumValueDescriptorProto}

-- an enum with all parts absent or empty
abbrev pub no_enum : EnumDescriptorProto
no_enum = record {
  name = None;
  value = [];
  options = None;
  reserved_range = [];
  reserved_name = [];
}

-- a reserved range of an enum with both ends absent
abbrev pub no_enum_range : EnumReservedRange
no_enum_range = record { start = None; «end» = None }

-- a value of an enum with all parts absent
abbrev pub no_value : EnumValueDescriptorProto
no_value = record { name = None; number = None; options = None }
