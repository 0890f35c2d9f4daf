-- What the numbers of an enum's values break (descriptor.proto on `reserved_range` and
-- `allow_alias`, and the protobuf language rules on enums).
use Rattle.std.specs.Prelude.{◌≡◌, ℕ, ℤ, true, List, [], ◌++◌, length, take, int_lt, if◌then◌else◌}
use Rattle.std.specs.List.{AllAdjacentBelow, find, enumerate_from, flat_map}
use Rattle.std.specs.Option.{option_map}
use Rattle.std.specs.Ordering.{int_eq}
use Rattle.proto_types.specs.declared.tag.enum_.TheConstants as enumeration
use Rattle.proto_types.specs.declared.tag.enum_value.TheConstants as value
use Rattle.proto_types.specs.declared.records.enumeration.EnumDescriptorProto.{EnumDescriptorProto}
use Rattle.proto_types.specs.declared.records.enumeration.EnumReservedRange.{EnumReservedRange}
use Rattle.proto_types.specs.declared.records.enumeration.EnumValueDescriptorProto.{EnumValueDescriptorProto}
use Rattle.plain_data.specs.Lists.{listed, only_if}
use Rattle.proto_types.specs.Readers.{number_of}
use Rattle.proto_types.specs.declared.file.FileDescriptorProto.{FileDescriptorProto}
use Rattle.pool_faults.specs.declared.label.Label.{Label}
use Rattle.pool_faults.specs.declared.fault.DescriptorErrorKind.{DescriptorErrorKind}
use Rattle.pool_faults.specs.declared.fault.DescriptorErrorKind.TheVariants as fault
use Rattle.record_walk.specs.Shown.{Shown}
use Rattle.plain_data.specs.Each.{map_enumerated}
use Rattle.pool_faults.specs.Labels.{entry_label, entry_part_label}
use Rattle.field_rules.specs.EnumItems.{allows_alias}
use Rattle.field_rules.specs.EnumRanges.{reserves}

module _ (files : List FileDescriptorProto) (owner : Shown) where
  -- the label of the number of the value with a position
  abbrev pub number_label : ℕ → Label
  number_label position =
      entry_part_label files owner.file owner.path enumeration.VALUE position value.NUMBER

  -- the fault of a reserved range of an enum, by its position, that holds the number of a value
  abbrev pub reserved_fault : ℕ → ℤ → ℕ → EnumReservedRange → List DescriptorErrorKind
  reserved_fault position n place range =
      let defined = entry_label files owner.file owner.path enumeration.RESERVED_RANGE place in
      only_if (reserves n range)
      (fault.EnumNumberInReservedRange n (number_of range.start) (number_of range.«end») defined
      (number_label position))

  -- the faults of each reserved range of an enum that holds the number of a value
  abbrev pub reserved_faults : ℕ → ℤ → List EnumReservedRange → List DescriptorErrorKind
  reserved_faults position n ranges =
      flat_map (λ faults. faults) (map_enumerated (reserved_fault position n) 0 ranges)

  -- the fault of a value whose number an earlier value has: the earliest of these is told
  abbrev pub duplicate_faults : ℕ → ℤ → List EnumValueDescriptorProto → List DescriptorErrorKind
  duplicate_faults position n earlier =
      listed (option_map
      (λ e. fault.DuplicateEnumNumber n (number_label e.0) (number_label position))
      (find (λ e. int_eq (number_of e.1.number) n) (enumerate_from 0 earlier)))

  -- the faults of the value with a position: that reserved ranges hold its number, and, unless
  -- aliases are allowed, that an earlier value has it
  abbrev pub value_faults : EnumDescriptorProto → ℕ → EnumValueDescriptorProto
      → List DescriptorErrorKind
  value_faults e position v =
      let n = number_of v.number in
      reserved_faults position n e.reserved_range
      ++ (if allows_alias e.options then []
      else duplicate_faults position n (take position e.value))

  -- the faults of all values of an enum, one value after another
  abbrev pub values_faults : EnumDescriptorProto → List DescriptorErrorKind
  values_faults e = flat_map (λ faults. faults) (map_enumerated (value_faults e) 0 e.value)

-- the number of each value is less than that of the next
abbrev pub NumbersRise : List EnumValueDescriptorProto → Type 0
NumbersRise values =
    AllAdjacentBelow (λ v w. int_lt (number_of v.number) (number_of w.number) ≡ true) values
    (length values)
