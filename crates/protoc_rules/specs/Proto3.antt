-- What a field or an extension may not be in proto3 (protobuf's `ValidateProto3Field`).
use Rattle.std.specs.Prelude.{Bool, true, false, ◌&&◌, is_some, List, ◌++◌}
use Rattle.plain_data.specs.Lists.{only_if}
use Rattle.proto_types.specs.Readers.{label_of}
use Rattle.proto_types.specs.declared.tag.field.TheConstants as field
use Rattle.pool_types.specs.declared.kinds.KindIndex.{KindIndex}
use Rattle.pool_types.specs.declared.kinds.KindIndex.TheVariants as index
use Rattle.protoc_rules.specs.declared.faults.StrictFault.{StrictFault}
use Rattle.protoc_rules.specs.declared.faults.StrictKind.TheVariants as kind
use Rattle.protoc_rules.specs.Faults.{at_part}
use Rattle.protoc_rules.specs.Labels.{is_required}
use Rattle.protoc_rules.specs.Sites.{Site}

-- whether a field is required in proto3
abbrev pub is_required_there : Site → Bool
is_required_there s = s.in_proto3 && is_required (label_of s.field.label)

-- whether a field has a default in proto3
abbrev pub has_default_there : Site → Bool
has_default_there s = s.in_proto3 && is_some s.field.default_value

-- whether a kind is a group
abbrev pub is_group : KindIndex → Bool
is_group (index.Group _) = true
is_group _ = false

-- whether a field is a group in proto3
abbrev pub is_group_there : Site → Bool
is_group_there s = s.in_proto3 && is_group s.kind

-- what a field may not be in proto3: required, with a default, a group, nor of an enum of proto2
abbrev pub proto3_faults : Site → List StrictFault
proto3_faults s =
    only_if (is_required_there s) (at_part kind.RequiredInProto3 s.id field.LABEL)
    ++ (only_if (has_default_there s) (at_part kind.DefaultInProto3 s.id field.DEFAULT_VALUE)
    ++ (only_if (is_group_there s) (at_part kind.GroupInProto3 s.id field.TYPE)
    ++ only_if (s.in_proto3 && s.is_closed)
    (at_part kind.ClosedEnumInProto3 s.id field.TYPE_NAME)))
