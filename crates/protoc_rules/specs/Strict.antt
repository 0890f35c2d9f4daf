-- What protoc refuses besides the rules of the linker.
use Rattle.std.specs.Prelude.{ℕ, List, ◌++◌}
use Rattle.std.specs.List.{flat_map}
use Rattle.std.specs.declared.option.Option.{Option}
use Rattle.proto_types.specs.declared.records.field.FieldType.{FieldType}
use Rattle.pool_types.specs.declared.contents.extension.ExtensionDescriptorInner.{ExtensionDescriptorInner}
use Rattle.pool_types.specs.declared.contents.message.MessageDescriptorInner.{MessageDescriptorInner}
use Rattle.protoc_rules.specs.declared.faults.StrictFault.{StrictFault}
use Rattle.protoc_rules.specs.declared.written.WrittenTypes.{WrittenTypes}
use Rattle.protoc_rules.specs.Enums.{enum_faults}
use Rattle.protoc_rules.specs.Extensions.{extension_faults}
use Rattle.protoc_rules.specs.Faults.{each_told}
use Rattle.protoc_rules.specs.Imports.{files_faults}
use Rattle.protoc_rules.specs.Linked.{Linked}
use Rattle.protoc_rules.specs.Messages.{message_faults}
use Rattle.protoc_rules.specs.Names.{service_faults}
use Rattle.protoc_rules.specs.Types.{field_type_faults, type_faults, types_at, written_at}

-- what the written types of the fields of the message with an index break
abbrev pub message_type_faults : List (List (Option FieldType)) → ℕ → MessageDescriptorInner
    → List StrictFault
message_type_faults types n m = each_told (field_type_faults (types_at types n)) m.fields

-- what the written type of the extension with an index breaks
abbrev pub extension_type_faults : List (Option FieldType) → ℕ → ExtensionDescriptorInner
    → List StrictFault
extension_type_faults types n x = type_faults (written_at types n) x.id x.kind

-- what protoc refuses: what written types break, of the fields of messages and of extensions, and
-- then what files, messages, enums, services and extensions break, each in their order
abbrev pub strict_faults : Linked → WrittenTypes → List StrictFault
strict_faults l w = each_told (message_type_faults w.fields) l.messages
    ++ (each_told (extension_type_faults w.extensions) l.extensions
    ++ (files_faults l.files
    ++ (flat_map (message_faults l) l.messages
    ++ (flat_map (enum_faults l) l.enums
    ++ (flat_map service_faults l.services
    ++ flat_map (extension_faults l) l.extensions)))))
