-- What the number of a field breaks, and that of an extension (descriptor.proto on `number`,
-- `reserved_range` and `extension_range`, and the protobuf language rules on field numbers).
use Rattle.std.specs.Prelude.{ℕ, ℤ, not, is_some, List, ◌++◌, if◌then◌else◌}
use Rattle.std.specs.List.{find, enumerate_from, flat_map, list_any}
use Rattle.std.specs.Option.{option_map}
use Rattle.proto_types.specs.declared.tag.field.TheConstants as field
use Rattle.proto_types.specs.declared.tag.message.TheConstants as message
use Rattle.proto_types.specs.declared.records.field.FieldDescriptorProto.{FieldDescriptorProto}
use Rattle.plain_data.specs.Lists.{listed, only_if}
use Rattle.proto_types.specs.Readers.{number_of}
use Rattle.proto_types.specs.declared.file.FileDescriptorProto.{FileDescriptorProto}
use Rattle.proto_types.specs.declared.message.DescriptorProto.{DescriptorProto, out-DescriptorProto}
use Rattle.proto_types.specs.declared.message.ExtensionRange.{ExtensionRange}
use Rattle.proto_types.specs.declared.message.ReservedRange.{ReservedRange}
use Rattle.pool_faults.specs.declared.label.Label.{Label}
use Rattle.pool_faults.specs.declared.fault.DescriptorErrorKind.{DescriptorErrorKind}
use Rattle.pool_faults.specs.declared.fault.DescriptorErrorKind.TheVariants as fault
use Rattle.record_walk.specs.Shown.{Shown, Surrounding, inside}
use Rattle.field_rules.specs.FieldNumber.{is_valid_number}
use Rattle.plain_data.specs.Each.{map_enumerated}
use Rattle.pool_faults.specs.Labels.{part_label, entry_label}
use Rattle.field_rules.specs.Ranges.{reserves, extends}

module _ (files : List FileDescriptorProto) (file : ℕ) (path : List ℤ) (n : ℤ) where
  -- the label of the number of the field at a path
  abbrev pub number_label : Label
  number_label = part_label files file path field.NUMBER

  -- the fault of a number that no field may have
  abbrev pub invalid_faults : List DescriptorErrorKind
  invalid_faults = only_if (not (is_valid_number n)) (fault.InvalidFieldNumber n number_label)

  -- the fault of a reserved range of a message, by its position, that holds the number
  abbrev pub reserved_fault : Surrounding → ℕ → ReservedRange → List DescriptorErrorKind
  reserved_fault owner position range =
      let defined = entry_label files owner.file owner.path message.RESERVED_RANGE position in
      only_if (reserves n range)
      (fault.FieldNumberInReservedRange n (number_of range.start)
      (number_of range.«end») defined number_label)

  -- the faults of each reserved range of a message that holds the number
  abbrev pub reserved_faults : Surrounding → List ReservedRange → List DescriptorErrorKind
  reserved_faults owner ranges =
      flat_map (λ faults. faults) (map_enumerated (reserved_fault owner) 0 ranges)

  -- the fault of an extension range of a message, by its position, that holds the number of a field
  abbrev pub extension_range_fault : Surrounding → ℕ × ExtensionRange → DescriptorErrorKind
  extension_range_fault owner e =
      let defined = entry_label files owner.file owner.path message.EXTENSION_RANGE e.0 in
      fault.FieldNumberInExtensionRange n (number_of e.1.start)
      (number_of e.1.«end») defined number_label

  -- the fault of the first extension range of a message that holds the number of a field
  abbrev pub extension_range_faults : Surrounding → List ExtensionRange → List DescriptorErrorKind
  extension_range_faults owner ranges =
      listed (option_map (extension_range_fault owner)
      (find (λ e. extends n e.1) (enumerate_from 0 ranges)))

  -- the fault of an extension's number that no extension range of its message holds
  abbrev pub out_of_range_faults : Surrounding → List ExtensionRange → List DescriptorErrorKind
  out_of_range_faults owner ranges =
      only_if (not (list_any (extends n) ranges))
      (fault.ExtensionNumberOutOfRange n owner.scope number_label)

  -- the faults of a field's number by the record of its message; one with an extendee has the
  -- number of an extension
  abbrev pub by_message : Surrounding → DescriptorProto → FieldDescriptorProto
      → List DescriptorErrorKind
  by_message owner m f =
      let ranges = (out-DescriptorProto m).extension_range in
      invalid_faults ++ reserved_faults owner (out-DescriptorProto m).reserved_range
      ++ (if is_some f.extendee then out_of_range_faults owner ranges
      else extension_range_faults owner ranges)

  -- the faults of an extension's number by the record of the message that it extends
  abbrev pub by_extendee : Surrounding → DescriptorProto → List DescriptorErrorKind
  by_extendee owner m =
      invalid_faults ++ reserved_faults owner (out-DescriptorProto m).reserved_range
      ++ out_of_range_faults owner (out-DescriptorProto m).extension_range

-- the faults of the number of a field that stands in a message: that no field may have it, that a
-- reserved range holds it, and that an extension range does
abbrev pub field_number_faults : List FileDescriptorProto → Shown → DescriptorProto → Shown
    → FieldDescriptorProto → List DescriptorErrorKind
field_number_faults files owner m d f =
    by_message files d.file d.path (number_of f.number) (inside owner) m f

-- the faults of the number of an extension of a message: that no field may have it, that a reserved
-- range holds it, and that no extension range does
abbrev pub extension_number_faults : List FileDescriptorProto → Shown → DescriptorProto → Shown
    → FieldDescriptorProto → List DescriptorErrorKind
extension_number_faults files owner m d x =
    by_extendee files d.file d.path (number_of x.number) (inside owner) m
