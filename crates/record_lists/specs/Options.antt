-- The options of items, as they were encoded.
use Rattle.std.specs.Prelude.{ℕ, List, []}
use Rattle.std.specs.Option.{option_map, option_map_or}
use Rattle.std.specs.declared.option.Option.{Option}
use Rattle.std.specs.declared.option.Option.TheVariants.{None}
use Rattle.proto_types.specs.declared.message.DescriptorProto.{out-DescriptorProto}
use Rattle.proto_types.specs.declared.records.options.Options.{Options}
use Rattle.pool_types.specs.declared.contents.definition.DefinitionKind.{DefinitionKind}
use Rattle.pool_types.specs.declared.contents.definition.DefinitionKind.TheVariants as kind
use Rattle.pool_types.specs.declared.contents.definition.Identity.{Identity}
use Rattle.pool_types.specs.declared.contents.file.FileDescriptorInner.{FileDescriptorInner}
use Rattle.record_lists.specs.Records.{enum_record, field_record, message_record, method_record}
use Rattle.record_lists.specs.Records.{oneof_record, service_record, value_record}

-- the bytes of options; where there are none, no bytes
abbrev pub encoded : {T : Type 0} → Option (Options T) → List ℕ
encoded options = option_map_or (λ o. o.encoded) options []

-- the bytes of the options of what is declared somewhere, by its kind; packages have none
abbrev pub options_of : List FileDescriptorInner → Identity → DefinitionKind → Option (List ℕ)
options_of files id kind.Package = None
options_of files id (kind.Message _) =
    option_map (λ r. encoded (out-DescriptorProto r).options) (message_record files id)
options_of files id (kind.Field _) = option_map (λ r. encoded r.options) (field_record files id)
options_of files id (kind.Oneof _) = option_map (λ r. encoded r.options) (oneof_record files id)
options_of files id (kind.Service _) = option_map (λ r. encoded r.options) (service_record files id)
options_of files id (kind.Method _) = option_map (λ r. encoded r.options) (method_record files id)
options_of files id (kind.Enum _) = option_map (λ r. encoded r.options) (enum_record files id)
options_of files id (kind.EnumValue _) = option_map (λ r. encoded r.options) (value_record files id)
options_of files id (kind.Extension _) = option_map (λ r. encoded r.options) (field_record files id)
