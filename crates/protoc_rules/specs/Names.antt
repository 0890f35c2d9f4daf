-- Names that are no identifiers (protobuf's `ValidateSymbolName`).
use Rattle.std.specs.Prelude.{ℕ, nat_le, Bool, not, ◌&&◌, ◌||◌, ◌==◌, List, ◌++◌, length}
use Rattle.std.specs.List.{flat_map, list_all}
use Rattle.plain_data.specs.Lists.{only_if}
use Rattle.proto_types.specs.declared.tag.field.TheConstants.{NAME}
use Rattle.pool_types.specs.LookUps.{declared_name}
use Rattle.pool_types.specs.declared.contents.definition.Identity.{Identity}
use Rattle.pool_types.specs.declared.contents.enumeration.EnumDescriptorInner.{EnumDescriptorInner}
use Rattle.pool_types.specs.declared.contents.enumeration.EnumValueDescriptorInner.{EnumValueDescriptorInner}
use Rattle.pool_types.specs.declared.contents.service.MethodDescriptorInner.{MethodDescriptorInner}
use Rattle.pool_types.specs.declared.contents.service.ServiceDescriptorInner.{ServiceDescriptorInner}
use Rattle.protoc_rules.specs.declared.faults.StrictFault.{StrictFault}
use Rattle.protoc_rules.specs.declared.faults.StrictKind.TheVariants as kind
use Rattle.protoc_rules.specs.Faults.{at_part}

-- whether a byte may stand in an identifier: a letter, a digit or an underscore of ASCII
abbrev pub is_of_identifier : ℕ → Bool
is_of_identifier c = (nat_le 97 c && nat_le c 122) || (nat_le 65 c && nat_le c 90)
    || (nat_le 48 c && nat_le c 57) || c == 95

-- whether a name is an identifier: it has bytes, and only such as may stand in one
abbrev pub is_identifier : List ℕ → Bool
is_identifier name = not (length name == 0) && list_all is_of_identifier name

-- that the declared name of an item is no identifier
abbrev pub name_faults : Identity → List StrictFault
name_faults id =
    only_if (not (is_identifier (declared_name id))) (at_part kind.InvalidName id NAME)

-- that the name of a value is no identifier
abbrev pub value_name_faults : EnumValueDescriptorInner → List StrictFault
value_name_faults v = name_faults v.id

-- that the name of a method is no identifier
abbrev pub method_name_faults : MethodDescriptorInner → List StrictFault
method_name_faults m = name_faults m.id

-- which names of an enum and of its values are no identifiers
abbrev pub enum_name_faults : EnumDescriptorInner → List StrictFault
enum_name_faults e = name_faults e.id ++ flat_map value_name_faults e.values

-- what a service may not be: one with a name that is no identifier, nor with such a method
abbrev pub service_faults : ServiceDescriptorInner → List StrictFault
service_faults s = name_faults s.id ++ flat_map method_name_faults s.methods
