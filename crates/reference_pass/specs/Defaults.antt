-- The default value of a field or of an extension, by the kind of its type (descriptor.proto on
-- `default_value`).
use Rattle.std.specs.Prelude.{ℕ, List, [], ◌∷◌}
use Rattle.std.specs.Option.{option_and_then, option_map_or}
use Rattle.std.specs.declared.option.Option.{Option}
use Rattle.proto_types.specs.declared.records.field.FieldDescriptorProto.{FieldDescriptorProto}
use Rattle.proto_types.specs.Readers.{text_of}
use Rattle.pool_types.specs.declared.default_value.DefaultValue.{DefaultValue}
use Rattle.pool_types.specs.declared.kinds.KindIndex.{KindIndex}
use Rattle.pool_types.specs.declared.contents.definition.Definition.{Definition}
use Rattle.pool_faults.specs.declared.fault.DescriptorErrorKind.{DescriptorErrorKind}
use Rattle.record_walk.specs.Shown.{Shown}
use Rattle.name_resolution.specs.Resolution.{Resolution}
use Rattle.field_rules.specs.Defaults.{DefaultEnum, default_value, default_faults}
use Rattle.reference_pass.specs.Definitions.{found_as, enum_record}
use Rattle.reference_pass.specs.Types.{field_kind, resolve_type}
use Rattle.reference_pass.specs.Setting.{Setting}

-- the enum of a type that names none: without a name and without values
abbrev pub no_default_enum : DefaultEnum
no_default_enum = record { full_name = []; values = [] }

-- the enum with a definition: its full name, and the values in its record
abbrev pub enum_defined : Setting → List ℕ × Definition → DefaultEnum
enum_defined s e = record {
  full_name = e.0;
  values = option_map_or (λ x. x.value) (enum_record s e.1) [];
}

-- the enum that was found
abbrev pub enum_found : Setting → Resolution → DefaultEnum
enum_found s r = option_map_or (enum_defined s) (found_as r) no_default_enum

-- the enum that the type name of a field means, with the values in its record, wherever that stands
abbrev pub type_enum : Setting → Shown → FieldDescriptorProto → DefaultEnum
type_enum s d f = elim (text_of f.type_name) [
  | [] ↦ no_default_enum
  | _ ∷ _ ↦ enum_found s (resolve_type s d f)
]

-- the default value of a field by the kind of its type, if it has one
abbrev pub default_by : Option KindIndex → DefaultEnum → Option (List ℕ) → Option DefaultValue
default_by kind meant given = option_and_then (λ k. default_value k meant given) kind

-- what the default value of a field breaks by the kind of its type, if it has one
abbrev pub default_faults_by : Setting → Shown → FieldDescriptorProto → Option KindIndex
    → List DescriptorErrorKind
default_faults_by s d f kind =
    option_map_or (λ k. default_faults s.files d.file d.path k (type_enum s d f) f.default_value)
    kind []

-- the default value of a field or an extension by the kind of its type, and none where the type has
-- a fault
abbrev pub field_default : Setting → Shown → FieldDescriptorProto → Option DefaultValue
field_default s d f = default_by (field_kind s d f) (type_enum s d f) f.default_value

-- what the default value of a field or an extension breaks; nothing where the type has a fault
abbrev pub field_default_faults : Setting → Shown → FieldDescriptorProto → List DescriptorErrorKind
field_default_faults s d f = default_faults_by s d f (field_kind s d f)
