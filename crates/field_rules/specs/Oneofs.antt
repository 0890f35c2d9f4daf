-- The oneofs of a message, and the fields that name them (descriptor.proto on `oneof_index`).
use Rattle.std.specs.Prelude.{ℕ, pos, false, not, is_some, List, [], if◌then◌else◌}
use Rattle.std.specs.List.{filter_map, enumerate_from}
use Rattle.std.specs.Option.{option_and_then, option_map, option_map_or}
use Rattle.std.specs.Ordering.{int_eq}
use Rattle.std.specs.declared.option.Option.{Option}
use Rattle.std.specs.declared.option.Option.TheVariants.{None, Some}
use Rattle.proto_types.specs.declared.records.field.FieldDescriptorProto.{FieldDescriptorProto}
use Rattle.plain_data.specs.Lists.{at, only_if}
use Rattle.proto_types.specs.declared.message.OneofDescriptorProto.{OneofDescriptorProto}
use Rattle.pool_faults.specs.declared.fault.DescriptorErrorKind.{DescriptorErrorKind}
use Rattle.pool_faults.specs.declared.fault.DescriptorErrorKind.TheVariants.{InvalidOneofIndex}
use Rattle.field_rules.specs.Maps.{item_number}

-- the fault of a oneof index that is no position of the oneofs
abbrev pub oneof_faults : List OneofDescriptorProto → FieldDescriptorProto
    → List DescriptorErrorKind
oneof_faults oneofs f =
    option_map_or (λ n. only_if (not (is_some (at oneofs n))) InvalidOneofIndex) f.oneof_index []

-- the position of the oneof that a field names, where there is one
abbrev pub oneof_of : List OneofDescriptorProto → FieldDescriptorProto → Option ℕ
oneof_of oneofs f =
    option_and_then (λ n. option_map (λ _. item_number n) (at oneofs n)) f.oneof_index

-- the positions of the fields that name the oneof with a position
abbrev pub members : List FieldDescriptorProto → ℕ → List ℕ
members fields oneof =
    filter_map (λ e. if option_map_or (int_eq (pos oneof)) e.1.oneof_index false then Some e.0
    else None) (enumerate_from 0 fields)
