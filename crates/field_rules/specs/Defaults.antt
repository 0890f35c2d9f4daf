-- The default value of a field or an extension, by the kind of its type, and what is wrong with it
-- (descriptor.proto on `default_value`).
use Rattle.std.specs.Prelude.{ℕ, ℤ, List, [], codes}
use Rattle.std.specs.List.{find}
use Rattle.std.specs.Option.{is_none, option_and_then, option_map, option_map_or}
use Rattle.std.specs.Result.{result_ok}
use Rattle.std.specs.Str.{bytes_eq}
use Rattle.std.specs.declared.option.Option.{Option}
use Rattle.proto_types.specs.declared.tag.field.TheConstants as field
use Rattle.proto_types.specs.declared.records.enumeration.EnumValueDescriptorProto.{EnumValueDescriptorProto}
use Rattle.plain_data.specs.Lists.{only_if}
use Rattle.proto_types.specs.Readers.{number_of, text_of}
use Rattle.proto_types.specs.declared.file.FileDescriptorProto.{FileDescriptorProto}
use Rattle.pool_types.specs.declared.kinds.KindIndex.{KindIndex}
use Rattle.pool_types.specs.declared.kinds.KindIndex.TheVariants as index
use Rattle.pool_types.specs.declared.default_value.DefaultValue.{DefaultValue}
use Rattle.pool_types.specs.declared.default_value.DefaultValue.TheVariants as value
use Rattle.pool_types.specs.Kinds.{kind_name}
use Rattle.pool_faults.specs.declared.fault.DescriptorErrorKind.{DescriptorErrorKind}
use Rattle.pool_faults.specs.declared.fault.DescriptorErrorKind.TheVariants as fault
use Rattle.field_rules.specs.Simple.{simple_value}
use Rattle.pool_faults.specs.Labels.{part_label}

-- an enum that the type of a field names: its full name and its values
pub record DefaultEnum : Type 0 where
  pub full_name : List ℕ
  pub values : List EnumValueDescriptorProto

-- the number of the first value that has a name
abbrev pub value_named : List EnumValueDescriptorProto → List ℕ → Option ℤ
value_named values name =
    option_map (λ v. number_of v.number) (find (λ v. bytes_eq (text_of v.name) name) values)

-- the value that a text writes, by a kind: of an enum the number of the value with that name; of a
-- message or a group no text writes one
abbrev pub value_of : KindIndex → List EnumValueDescriptorProto → List ℕ → Option DefaultValue
value_of (index.Enum _) values text = option_map value.EnumNumber (value_named values text)
value_of kind values text = result_ok (simple_value kind text)

-- the word for a type in a fault: of an enum its full name, of a message or a group `message type`,
-- of any other kind the word for it
abbrev pub kind_named : KindIndex → List ℕ → List ℕ
kind_named (index.Enum _) full_name = full_name
kind_named (index.Message _) full_name = codes "message type"
kind_named (index.Group _) full_name = codes "message type"
kind_named kind full_name = kind_name kind

-- the value that the default of a field writes, if one is given
abbrev pub default_value : KindIndex → DefaultEnum → Option (List ℕ) → Option DefaultValue
default_value kind meant given = option_and_then (value_of kind meant.values) given

module _ (files : List FileDescriptorProto) (file : ℕ) (path : List ℤ) (kind : KindIndex)
    (meant : DefaultEnum) where
  -- the fault of a default whose text writes no value, with the text and the word for the type, at
  -- the path followed by 7
  abbrev pub default_fault : List ℕ → DescriptorErrorKind
  default_fault text = fault.InvalidFieldDefault text (kind_named kind meant.full_name)
      (part_label files file path field.DEFAULT_VALUE)

  -- the faults of the text of a default: one where it writes no value
  abbrev pub text_faults : List ℕ → List DescriptorErrorKind
  text_faults text = only_if (is_none (value_of kind meant.values text)) (default_fault text)

  -- the faults of a default: none where none is given
  abbrev pub default_faults : Option (List ℕ) → List DescriptorErrorKind
  default_faults given = option_map_or text_faults given []
