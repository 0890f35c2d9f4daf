-- How an enum begins: with a value, which is 0 in proto3 (the protobuf language rules on enums).
use Rattle.std.specs.Prelude.{ℕ, ℤ, pos, not, ◌&&◌, List, [], ◌∷◌, ◌++◌}
use Rattle.std.specs.Ordering.{int_eq}
use Rattle.proto_types.specs.declared.tag.enum_.TheConstants as enumeration
use Rattle.proto_types.specs.declared.tag.enum_value.TheConstants as enum_value
use Rattle.proto_types.specs.declared.records.enumeration.EnumDescriptorProto.{EnumDescriptorProto}
use Rattle.plain_data.specs.Lists.{only_if}
use Rattle.proto_types.specs.Readers.{number_of}
use Rattle.proto_types.specs.declared.file.FileDescriptorProto.{FileDescriptorProto}
use Rattle.pool_faults.specs.Labels.{label_in}
use Rattle.pool_faults.specs.declared.fault.DescriptorErrorKind.{DescriptorErrorKind}
use Rattle.pool_faults.specs.declared.fault.DescriptorErrorKind.TheVariants.{EmptyEnum}
use Rattle.pool_faults.specs.declared.fault.DescriptorErrorKind.TheVariants.{InvalidProto3EnumDefault}
use Rattle.pool_types.specs.Syntaxes.{syntax_at, is_proto3}

-- the path of the number of an enum's first value, by the path of the enum
abbrev pub first_number_path : List ℤ → List ℤ
first_number_path path = path ++ enumeration.VALUE ∷ pos 0 ∷ enum_value.NUMBER ∷ []

-- the fault of an enum without values, at its path, or in proto3 of one whose first value isn't 0,
-- at the number of that
abbrev pub enum_faults : List FileDescriptorProto → ℕ → List ℤ → EnumDescriptorProto
    → List DescriptorErrorKind
enum_faults files file path e = elim e.value [
  | [] ↦ EmptyEnum (label_in files file path) ∷ []
  | first ∷ _ ↦ only_if (is_proto3 (syntax_at files file)
      && not (int_eq (number_of first.number) (pos 0)))
      (InvalidProto3EnumDefault (label_in files file (first_number_path path)))
]
