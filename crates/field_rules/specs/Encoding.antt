-- Whether a field is packed, and whether a message tells that it is set (the protobuf guide on
-- encoding, and its note on field presence).
use Rattle.std.specs.Prelude.{Bool, true, false, not, ◌&&◌, ◌||◌, is_some, unwrap_or}
use Rattle.std.specs.Option.{option_and_then}
use Rattle.std.specs.declared.option.Option.{Option}
use Rattle.proto_types.specs.declared.records.field.FieldDescriptorProto.{FieldDescriptorProto}
use Rattle.proto_types.specs.declared.records.field.FieldLabel.TheVariants.{Optional, Required}
use Rattle.proto_types.specs.declared.records.field.FieldLabel.TheVariants.{Repeated}
use Rattle.proto_types.specs.declared.records.options.FieldOptions.{FieldOptions}
use Rattle.proto_types.specs.declared.records.options.Options.{Options}
use Rattle.proto_types.specs.Readers.{flag_of, label_of}
use Rattle.pool_types.specs.declared.kinds.KindIndex.{KindIndex}
use Rattle.pool_types.specs.Kinds.{is_packable, is_message}

-- whether a field is repeated
abbrev pub is_repeated : FieldDescriptorProto → Bool
is_repeated f = elim (label_of f.label) [ Optional ↦ false | Required ↦ false | Repeated ↦ true ]

-- what the options of a field say of whether it is packed
abbrev pub packed_of : Option (Options FieldOptions) → Option Bool
packed_of options = option_and_then (λ o. o.value.packed) options

-- whether a field is packed: a repeated number is as its option says, and under proto3 where the
-- option says nothing
abbrev pub is_packed : Bool → KindIndex → FieldDescriptorProto → Bool
is_packed proto3 kind f = is_repeated f && is_packable kind
    && unwrap_or (packed_of f.options) proto3

-- whether a message tells that a field is set: it is optional in proto3, or names a oneof, or is
-- not repeated and holds a message or stands in a file of proto2
abbrev pub supports_presence : Bool → KindIndex → FieldDescriptorProto → Bool
supports_presence proto3 kind f = flag_of f.proto3_optional || is_some f.oneof_index
    || (not (is_repeated f) && (is_message kind || not proto3))
