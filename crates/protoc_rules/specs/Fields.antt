-- What neither a field nor an extension may be (protobuf's `BuildFieldOrExtension` and
-- `ValidateFieldOptions`).
use Rattle.std.specs.Prelude.{Bool, true, false, not, ◌&&◌, is_some, List, ◌++◌}
use Rattle.std.specs.Option.{option_map_or}
use Rattle.std.specs.declared.option.Option.{Option}
use Rattle.plain_data.specs.Lists.{only_if}
use Rattle.proto_types.specs.Readers.{flag_of, label_of}
use Rattle.proto_types.specs.declared.records.options.FieldOptions.{FieldOptions}
use Rattle.proto_types.specs.declared.records.options.Options.{Options}
use Rattle.proto_types.specs.declared.tag.field.TheConstants as field
use Rattle.pool_types.specs.Kinds.{is_packable}
use Rattle.pool_types.specs.declared.kinds.KindIndex.{KindIndex}
use Rattle.pool_types.specs.declared.kinds.KindIndex.TheVariants as index
use Rattle.protoc_rules.specs.declared.faults.StrictFault.{StrictFault}
use Rattle.protoc_rules.specs.declared.faults.StrictKind.TheVariants as kind
use Rattle.protoc_rules.specs.declared.fields.Site as code
use Rattle.protoc_rules.specs.Faults.{at_part}
use Rattle.protoc_rules.specs.Labels.{is_repeated}
use Rattle.protoc_rules.specs.Names.{name_faults}
use Rattle.protoc_rules.specs.Proto3.{proto3_faults}
use Rattle.protoc_rules.specs.Sites.{Site}

-- what is lent to the code
abbrev pub site_of : code.Site → Site
site_of s = record {
  id = s.id.now;
  field = s.record.now;
  kind = s.kind;
  in_proto3 = s.in_proto3;
  is_closed = s.is_closed;
  in_message_set = s.in_message_set;
}

-- whether a field is repeated, and has a default
abbrev pub has_repeated_default : Site → Bool
has_repeated_default s = is_repeated (label_of s.field.label) && is_some s.field.default_value

-- whether options say that a field is packed
abbrev pub is_packed : Option (Options FieldOptions) → Bool
is_packed options = option_map_or (λ o. flag_of o.value.packed) options false

-- whether a field is packed, and no list of numbers
abbrev pub is_wrongly_packed : Site → Bool
is_wrongly_packed s = is_packed s.field.options
    && not (is_repeated (label_of s.field.label) && is_packable s.kind)

-- whether a field is optional by the word of proto3, and stands in proto2
abbrev pub is_wrongly_optional : Site → Bool
is_wrongly_optional s = flag_of s.field.proto3_optional && not s.in_proto3

-- whether a kind is that of a number or a text
abbrev pub is_scalar : KindIndex → Bool
is_scalar (index.Message _) = false
is_scalar (index.Group _) = false
is_scalar (index.Enum _) = false
is_scalar _ = true

-- whether the type of a field is a number or a text by linking, which passes over the empty type
-- name that is written with it
abbrev pub has_empty_name : Site → Bool
has_empty_name s = is_some s.field.type_name && is_scalar s.kind

-- what neither a field nor an extension may be
abbrev pub site_faults : Site → List StrictFault
site_faults s = name_faults s.id ++ (proto3_faults s
    ++ (only_if (has_repeated_default s) (at_part kind.RepeatedDefault s.id field.DEFAULT_VALUE)
    ++ (only_if (is_wrongly_packed s) (at_part kind.PackedField s.id field.OPTIONS)
    ++ (only_if (is_wrongly_optional s)
    (at_part kind.Proto3OptionalInProto2 s.id field.PROTO3_OPTIONAL)
    ++ only_if (has_empty_name s) (at_part kind.TypeNameOfScalar s.id field.TYPE_NAME)))))
