-- What is declared under the full name that was found: its definition, and its record.
use Rattle.std.specs.Prelude.{ℕ, ◌-◌, ℤ, List, length, take, slice_get}
use Rattle.std.specs.Option.{option_and_then}
use Rattle.std.specs.declared.option.Option.{Option}
use Rattle.std.specs.declared.option.Option.TheVariants.{None, Some}
use Rattle.proto_types.specs.declared.records.enumeration.EnumDescriptorProto.{EnumDescriptorProto}
use Rattle.proto_types.specs.declared.message.DescriptorProto.{DescriptorProto}
use Rattle.pool_types.specs.declared.contents.definition.Definition.{Definition}
use Rattle.record_walk.specs.Leads.{leads}
use Rattle.record_walk.specs.Protos.{Proto, as_message, as_enum}
use Rattle.name_resolution.specs.Resolution.{Resolution, found}
use Rattle.reference_pass.specs.Setting.{Setting}

-- the full name that was found, and its definition
abbrev pub found_as : Resolution → Option (List ℕ × Definition)
found_as (found name def) = Some (name, def)
found_as _ = None

-- the path of a declaration, by that of its name, without the last number
abbrev pub declaration_path : List ℤ → List ℤ
declaration_path path = take (length path - 1) path

-- the record at the path of a definition, in the file of the definition
abbrev pub record_of : Setting → Definition → Option Proto
record_of s def = option_and_then (λ f. leads f (declaration_path def.path))
    (slice_get s.files def.file)

-- the record of the message that a definition is
abbrev pub message_record : Setting → Definition → Option DescriptorProto
message_record s def = option_and_then as_message (record_of s def)

-- the record of the enum that a definition is
abbrev pub enum_record : Setting → Definition → Option EnumDescriptorProto
enum_record s def = option_and_then as_enum (record_of s def)
