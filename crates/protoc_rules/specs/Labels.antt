-- What a label is.
use Rattle.std.specs.Prelude.{Bool, true, false}
use Rattle.proto_types.specs.declared.records.field.FieldLabel.{FieldLabel}
use Rattle.proto_types.specs.declared.records.field.FieldLabel.TheVariants.{Optional, Required}
use Rattle.proto_types.specs.declared.records.field.FieldLabel.TheVariants.{Repeated}

-- whether a label is required
abbrev pub is_required : FieldLabel → Bool
is_required Required = true
is_required _ = false

-- whether a label is repeated
abbrev pub is_repeated : FieldLabel → Bool
is_repeated Repeated = true
is_repeated _ = false

-- whether a label is optional
abbrev pub is_optional : FieldLabel → Bool
is_optional Optional = true
is_optional _ = false
