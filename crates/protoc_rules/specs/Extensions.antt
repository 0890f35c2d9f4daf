-- What extensions may not be (protobuf's `BuildFieldOrExtension`, `CrossLinkField` and
-- `ValidateFieldOptions`).
use Rattle.std.specs.Prelude.{ℕ, Bool, true, false, not, ◌&&◌, is_some, List, [], ◌∷◌, ◌++◌, codes}
use Rattle.std.specs.Prelude.{slice_get}
use Rattle.std.specs.List.{list_any}
use Rattle.std.specs.Option.{option_map_or}
use Rattle.std.specs.Str.{bytes_eq}
use Rattle.plain_data.specs.Lists.{only_if}
use Rattle.proto_types.specs.Readers.{label_of, text_of}
use Rattle.proto_types.specs.declared.records.field.FieldDescriptorProto.{FieldDescriptorProto}
use Rattle.proto_types.specs.declared.tag.field.TheConstants as field
use Rattle.pool_types.specs.declared.contents.definition.Identity.{Identity}
use Rattle.pool_types.specs.declared.contents.extension.ExtensionDescriptorInner.{ExtensionDescriptorInner}
use Rattle.pool_types.specs.declared.kinds.KindIndex.{KindIndex}
use Rattle.pool_types.specs.declared.kinds.KindIndex.TheVariants as index
use Rattle.protoc_rules.specs.declared.faults.StrictFault.{StrictFault}
use Rattle.protoc_rules.specs.declared.faults.StrictKind.TheVariants as kind
use Rattle.protoc_rules.specs.Faults.{at_part}
use Rattle.protoc_rules.specs.Fields.{site_faults}
use Rattle.protoc_rules.specs.Labels.{is_optional, is_required}
use Rattle.protoc_rules.specs.Linked.{Linked, field_record, in_proto3, is_closed, is_message_set}
use Rattle.protoc_rules.specs.Maps.{camel_case, map_faults}
use Rattle.protoc_rules.specs.Sites.{Site}

-- whether a kind is a message that is no group
abbrev pub is_plain_message : KindIndex → Bool
is_plain_message (index.Message _) = true
is_plain_message _ = false

-- whether an extension extends a message set, and is no optional message
abbrev pub is_wrong_in_set : Site → Bool
is_wrong_in_set s = s.in_message_set
    && not (is_optional (label_of s.field.label) && is_plain_message s.kind)

-- whether an extension has another JSON name than the one that is made of its name
abbrev pub has_json_name : FieldDescriptorProto → Bool
has_json_name f =
    option_map_or (λ json. not (bytes_eq json (camel_case false (text_of f.name)))) f.json_name
    false

-- what an extension may not be: what no field may be, required, with an index of a oneof, with a
-- JSON name of its own, nor in a message set anything but an optional message
abbrev pub extension_site_faults : Site → List StrictFault
extension_site_faults s = site_faults s
    ++ (only_if (is_required (label_of s.field.label))
    (at_part kind.RequiredExtension s.id field.LABEL)
    ++ (only_if (is_some s.field.oneof_index) (at_part kind.ExtensionOneof s.id field.ONEOF_INDEX)
    ++ (only_if (has_json_name s.field) (at_part kind.ExtensionJsonName s.id field.JSON_NAME)
    ++ only_if (is_wrong_in_set s) (at_part kind.MessageSetExtension s.id field.TYPE))))

-- an extension as the rules look at it
abbrev pub extension_site : Linked → ExtensionDescriptorInner → FieldDescriptorProto → Site
extension_site l x f = record {
  id = x.id;
  field = f;
  kind = x.kind;
  in_proto3 = in_proto3 l x.id.file;
  is_closed = is_closed l x.kind;
  in_message_set = is_message_set l x.extendee;
}

-- the messages of options, which proto3 may extend
abbrev pub option_messages : List (List ℕ)
option_messages = codes "google.protobuf.FileOptions"
    ∷ codes "google.protobuf.MessageOptions"
    ∷ codes "google.protobuf.FieldOptions"
    ∷ codes "google.protobuf.EnumOptions"
    ∷ codes "google.protobuf.EnumValueOptions"
    ∷ codes "google.protobuf.ServiceOptions"
    ∷ codes "google.protobuf.MethodOptions"
    ∷ codes "google.protobuf.OneofOptions"
    ∷ codes "google.protobuf.ExtensionRangeOptions"
    ∷ codes "proto2.FileOptions"
    ∷ codes "proto2.MessageOptions"
    ∷ codes "proto2.FieldOptions"
    ∷ codes "proto2.EnumOptions"
    ∷ codes "proto2.EnumValueOptions"
    ∷ codes "proto2.ServiceOptions"
    ∷ codes "proto2.MethodOptions"
    ∷ codes "proto2.OneofOptions"
    ∷ codes "proto2.ExtensionRangeOptions" ∷ []

-- whether a full name is that of a message of options
unfoldable pub is_of_options : List ℕ → Bool
is_of_options name = list_any (λ other. bytes_eq other name) option_messages

-- what an extension of a message may not be: in proto3 of anything but options, nor a map field
-- that is not made as one
abbrev pub extended_faults : Linked → Site → Identity → List StrictFault
extended_faults l s extended = only_if (s.in_proto3 && not (is_of_options extended.full_name))
    (at_part kind.ExtensionInProto3 s.id field.EXTENDEE) ++ map_faults l s extended

-- what an extension of the message with an index may not be
abbrev pub extendee_faults : Linked → Site → ℕ → List StrictFault
extendee_faults l s extendee =
    option_map_or (λ m. extended_faults l s m.id) (slice_get l.messages extendee) []

-- what an extension with its record may not be
abbrev pub recorded_extension_faults : Linked → ExtensionDescriptorInner → FieldDescriptorProto
    → List StrictFault
recorded_extension_faults l x f = extension_site_faults (extension_site l x f)
    ++ extendee_faults l (extension_site l x f) x.extendee

-- what an extension of a pool may not be
abbrev pub extension_faults : Linked → ExtensionDescriptorInner → List StrictFault
extension_faults l x =
    option_map_or (recorded_extension_faults l x) (field_record l x.id) []
