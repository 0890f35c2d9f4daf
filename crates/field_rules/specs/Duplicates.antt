-- What a field breaks that has the number or the JSON name of an earlier one (the protobuf language
-- rules on field numbers, and on JSON names).
use Rattle.std.specs.Prelude.{ℕ, ℤ, Bool, false, List, [], ◌++◌, reverse}
use Rattle.std.specs.List.{find, enumerate_from}
use Rattle.std.specs.Option.{option_map, option_map_or}
use Rattle.std.specs.Ordering.{int_eq}
use Rattle.std.specs.Str.{bytes_eq}
use Rattle.std.specs.declared.option.Option.{Option}
use Rattle.proto_types.specs.declared.tag.field.TheConstants as field
use Rattle.proto_types.specs.declared.tag.message.TheConstants as message
use Rattle.proto_types.specs.declared.records.field.FieldDescriptorProto.{FieldDescriptorProto}
use Rattle.plain_data.specs.Lists.{listed}
use Rattle.proto_types.specs.Readers.{number_of}
use Rattle.proto_types.specs.declared.file.FileDescriptorProto.{FileDescriptorProto}
use Rattle.pool_faults.specs.declared.label.Label.{Label}
use Rattle.pool_faults.specs.declared.fault.DescriptorErrorKind.{DescriptorErrorKind}
use Rattle.pool_faults.specs.declared.fault.DescriptorErrorKind.TheVariants as fault
use Rattle.pool_faults.specs.Labels.{entry_part_label}

-- the last field that meets a test, with its position
abbrev pub latest : (FieldDescriptorProto → Bool) → List FieldDescriptorProto
    → Option (ℕ × FieldDescriptorProto)
latest test fields = find (λ e. test e.1) (reverse (enumerate_from 0 fields))

module _ (files : List FileDescriptorProto) (file : ℕ) (path : List ℤ) where
  -- the label of the number of the field with a position, in the message at a path
  abbrev pub number_label : ℕ → Label
  number_label position = entry_part_label files file path message.FIELD position field.NUMBER

  -- the label of the name of the field with a position, in the message at a path
  abbrev pub name_label : ℕ → Label
  name_label position = entry_part_label files file path message.FIELD position field.NAME

  -- the fault of two fields with one number, by their positions, the earlier first
  abbrev pub same_number : ℤ → ℕ → ℕ → DescriptorErrorKind
  same_number number first second =
      fault.DuplicateFieldNumber number (number_label first) (number_label second)

  -- the fault of two fields with one JSON name, by their positions, the earlier first
  abbrev pub same_json_name : List ℕ → ℕ → ℕ → DescriptorErrorKind
  same_json_name name first second =
      fault.DuplicateFieldJsonName name (name_label first) (name_label second)

  -- the fault of a field whose number earlier fields have: the latest of these is told
  abbrev pub number_duplicate : List FieldDescriptorProto → ℕ → FieldDescriptorProto
      → List DescriptorErrorKind
  number_duplicate earlier position f =
      listed (option_map
      (λ e. same_number (number_of f.number) e.0 position)
      (latest (λ g. int_eq (number_of g.number) (number_of f.number)) earlier))

  -- the fault of a field whose given JSON name earlier fields have: the latest of these is told
  abbrev pub json_name_duplicate : List FieldDescriptorProto → ℕ → FieldDescriptorProto
      → List DescriptorErrorKind
  json_name_duplicate earlier position f =
      option_map_or
      (λ name. listed
      (option_map (λ e. same_json_name name e.0 position)
      (latest (λ g. option_map_or (bytes_eq name) g.json_name false) earlier))) f.json_name []

  -- the faults of the field with a position, behind earlier fields: that one has its number, and
  -- that one has its JSON name
  abbrev pub duplicate_faults : List FieldDescriptorProto → ℕ → FieldDescriptorProto
      → List DescriptorErrorKind
  duplicate_faults earlier position f = number_duplicate earlier position f
      ++ json_name_duplicate earlier position f
