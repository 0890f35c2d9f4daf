-- What oneofs and the fields in them may not be (protobuf's `CrossLinkMessage`).
use Rattle.std.specs.Prelude.{ℕ, nat_lt, Bool, false, not, ◌&&◌, ◌==◌, ◌+◌, ◌-◌, List, ◌++◌, length}
use Rattle.std.specs.Prelude.{position, slice_get}
use Rattle.std.specs.Option.{option_map_or}
use Rattle.std.specs.declared.option.Option.{Option}
use Rattle.std.specs.declared.option.Option.TheVariants.{Some}
use Rattle.plain_data.specs.Lists.{only_if}
use Rattle.proto_types.specs.Readers.{flag_of}
use Rattle.proto_types.specs.declared.records.field.FieldDescriptorProto.{FieldDescriptorProto}
use Rattle.proto_types.specs.declared.tag.oneof.TheConstants as oneof
use Rattle.pool_types.specs.declared.contents.field.FieldDescriptorInner.{FieldDescriptorInner}
use Rattle.pool_types.specs.declared.contents.oneof.OneofDescriptorInner.{OneofDescriptorInner}
use Rattle.protoc_rules.specs.declared.faults.StrictFault.{StrictFault}
use Rattle.protoc_rules.specs.declared.faults.StrictKind.TheVariants as kind
use Rattle.protoc_rules.specs.Faults.{at_part, each_told}
use Rattle.protoc_rules.specs.Names.{name_faults}

-- whether so many positions from a first one to a last one leave some out
abbrev pub leave_out : ℕ → Option ℕ → Option ℕ → Bool
leave_out many (Some first) (Some last) = not (first + many == last + 1)
leave_out many _ _ = false

-- whether positions, which rise, do not stand together
abbrev pub are_scattered : List ℕ → Bool
are_scattered xs =
    leave_out (length xs) (slice_get xs 0) (slice_get xs (length xs - 1))

-- whether a oneof has one field
abbrev pub has_one_field : OneofDescriptorInner → Bool
has_one_field o = length o.fields == 1

-- whether the record of the field with a position says that it is optional
abbrev pub is_said_optional : List FieldDescriptorProto → ℕ → Bool
is_said_optional fields n =
    option_map_or (λ f. flag_of f.proto3_optional) (slice_get fields n) false

-- whether a oneof is made for an optional field of proto3, and so has it alone
abbrev pub is_synthetic : List FieldDescriptorProto → OneofDescriptorInner → Bool
is_synthetic fields o =
    has_one_field o && option_map_or (is_said_optional fields) (slice_get o.fields 0) false

-- whether the oneof with a position is not synthetic, and stands behind the first that is
abbrev pub is_late : List FieldDescriptorProto → Option ℕ → ℕ → OneofDescriptorInner → Bool
is_late fields first n o =
    option_map_or (λ k. nat_lt k n) first false && not (is_synthetic fields o)

-- what a oneof may not be: with a name that is no identifier, without a field, with fields that do
-- not stand together, nor late
abbrev pub oneof_faults : Bool → OneofDescriptorInner → List StrictFault
oneof_faults late o = name_faults o.id
    ++ (only_if (length o.fields == 0) (at_part kind.EmptyOneof o.id oneof.NAME)
    ++ (only_if (are_scattered o.fields) (at_part kind.ScatteredOneof o.id oneof.NAME)
    ++ only_if late (at_part kind.LateOneof o.id oneof.NAME)))

-- what the oneof with a position may not be, by the position of the first synthetic one
abbrev pub placed_faults : List FieldDescriptorProto → Option ℕ → ℕ → OneofDescriptorInner
    → List StrictFault
placed_faults fields first n o = oneof_faults (is_late fields first n o) o

-- what the oneofs of a message may not be, by the records of its fields
abbrev pub oneofs_faults : List FieldDescriptorProto → List OneofDescriptorInner → List StrictFault
oneofs_faults fields oneofs =
    each_told (placed_faults fields (position (is_synthetic fields) oneofs)) oneofs

-- whether a field has a oneof for itself
abbrev pub is_alone : List OneofDescriptorInner → FieldDescriptorInner → Bool
is_alone oneofs f =
    option_map_or (λ i. option_map_or has_one_field (slice_get oneofs i) false) f.oneof false
