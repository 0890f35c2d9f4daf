-- What an extension breaks (descriptor.proto on `extendee`): that it names no message, what its
-- number breaks by the record of the message that it names, and that an earlier extension of that
-- message has its number.
use Rattle.std.specs.Prelude.{ℕ, ℤ, List, [], ◌∷◌, ◌++◌}
use Rattle.std.specs.List.{find}
use Rattle.std.specs.Option.{option_map, option_map_or}
use Rattle.std.specs.declared.option.Option.TheVariants.{None}
use Rattle.proto_types.specs.declared.tag.field.TheConstants as field
use Rattle.proto_types.specs.declared.records.field.FieldDescriptorProto.{FieldDescriptorProto}
use Rattle.plain_data.specs.Lists.{listed}
use Rattle.proto_types.specs.Readers.{number_of, text_of}
use Rattle.proto_types.specs.declared.message.DescriptorProto.{DescriptorProto}
use Rattle.pool_types.specs.declared.contents.definition.Definition.{Definition}
use Rattle.pool_types.specs.declared.contents.extension.ExtensionDescriptorInner.{ExtensionDescriptorInner}
use Rattle.pool_faults.specs.declared.fault.DescriptorErrorKind.{DescriptorErrorKind}
use Rattle.pool_faults.specs.declared.fault.DescriptorErrorKind.TheVariants as fault
use Rattle.record_walk.specs.Protos.{of_message}
use Rattle.record_walk.specs.Shown.{Shown}
use Rattle.name_resolution.specs.References.{reference_fault}
use Rattle.name_resolution.specs.Resolution.{Resolution}
use Rattle.field_rules.specs.Maps.{item_number}
use Rattle.pool_faults.specs.Labels.{part_label}
use Rattle.field_rules.specs.Numbers.{extension_number_faults}
use Rattle.pool_types.specs.Extension.{has_number}
use Rattle.reference_pass.specs.Definitions.{found_as, declaration_path, message_record}
use Rattle.reference_pass.specs.References.{index_or_max, message_index, resolve_message}
use Rattle.reference_pass.specs.Setting.{Setting}

-- the fault of an extension whose extendee isn't found, at its path followed by 2
abbrev pub extendee_faults : Setting → Shown → FieldDescriptorProto → List DescriptorErrorKind
extendee_faults s d x =
    listed (reference_fault s.files (text_of x.extendee) d.file (d.path ++ field.EXTENDEE ∷ [])
    (resolve_message s d x.extendee))

-- the declaration of a message where its definition says, by its full name
abbrev pub defined_at : List ℕ → Definition → DescriptorProto → Shown
defined_at name def m = record {
  file = def.file;
  parent = None;
  index = 0;
  path = declaration_path def.path;
  full_name = name;
  proto = of_message m;
}

-- what the number of an extension breaks, by the record of the message that a definition is
abbrev pub number_faults_by : Setting → Shown → FieldDescriptorProto → List ℕ × Definition
    → List DescriptorErrorKind
number_faults_by s d x e =
    option_map_or (λ m. extension_number_faults s.files (defined_at e.0 e.1 m) m d x)
    (message_record s e.1) []

-- what the number of an extension breaks by the record of its message, where the extendee is found
abbrev pub number_faults : Setting → Shown → FieldDescriptorProto → Resolution
    → List DescriptorErrorKind
number_faults s d x r = option_map_or (number_faults_by s d x) (found_as r) []

-- the fault of an extension whose number an earlier extension of the message with a full name has
abbrev pub duplicate_extension_fault : Setting → Shown → ℤ → List ℕ → ExtensionDescriptorInner
    → DescriptorErrorKind
duplicate_extension_fault s d number name first =
    fault.DuplicateExtensionNumber number name
    (part_label s.files first.id.file first.id.path field.NUMBER)
    (part_label s.files d.file d.path field.NUMBER)

-- the fault of an extension whose number an earlier extension of the message of a definition has:
-- the first of these is told, and one whose extendee wasn't found is none of these
abbrev pub duplicate_extension_faults_by : Setting → List ExtensionDescriptorInner → Shown
    → FieldDescriptorProto
    → List ℕ × Definition → List DescriptorErrorKind
duplicate_extension_faults_by s earlier d x e =
    let number = number_of x.number in
    let is_same = has_number (index_or_max (message_index e.1.kind)) (item_number number) in
    listed (option_map (duplicate_extension_fault s d number e.0) (find is_same earlier))

-- the fault of an extension whose number an earlier extension of its message has, where the
-- extendee is found
abbrev pub duplicate_extension_faults : Setting → List ExtensionDescriptorInner → Shown
    → FieldDescriptorProto
    → Resolution → List DescriptorErrorKind
duplicate_extension_faults s earlier d x r =
    option_map_or (duplicate_extension_faults_by s earlier d x) (found_as r) []
