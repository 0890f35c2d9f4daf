-- The items of a pool that rules look at, and what is looked up in them.
use Rattle.std.specs.Prelude.{ℕ, Bool, false, not, List, slice_get}
use Rattle.std.specs.Option.{option_and_then, option_map_or, option_or}
use Rattle.std.specs.declared.option.Option.{Option}
use Rattle.descriptor_decoding.specs.Flags.{says_map_entry, says_message_set}
use Rattle.proto_types.specs.declared.message.DescriptorProto.{DescriptorProto}
use Rattle.proto_types.specs.declared.records.enumeration.EnumDescriptorProto.{EnumDescriptorProto}
use Rattle.proto_types.specs.declared.records.field.FieldDescriptorProto.{FieldDescriptorProto}
use Rattle.pool_types.specs.Contents.{Contents}
use Rattle.pool_types.specs.Syntaxes.{is_proto3}
use Rattle.pool_types.specs.declared.contents.definition.Identity.{Identity}
use Rattle.pool_types.specs.declared.contents.enumeration.EnumDescriptorInner.{EnumDescriptorInner}
use Rattle.pool_types.specs.declared.contents.extension.ExtensionDescriptorInner.{ExtensionDescriptorInner}
use Rattle.pool_types.specs.declared.contents.file.FileDescriptorInner.{FileDescriptorInner}
use Rattle.pool_types.specs.declared.contents.message.MessageDescriptorInner.{MessageDescriptorInner}
use Rattle.pool_types.specs.declared.contents.service.ServiceDescriptorInner.{ServiceDescriptorInner}
use Rattle.pool_types.specs.declared.kinds.KindIndex.{KindIndex}
use Rattle.pool_types.specs.declared.kinds.KindIndex.TheVariants as index
use Rattle.record_walk.specs.Leads.{leads}
use Rattle.record_walk.specs.Protos.{as_enum, as_extension, as_field, as_message}
use Rattle.protoc_rules.specs.declared.linked.Linked as code

-- the items of a pool that rules look at
pub record Linked : Type 0 where
  pub files : List FileDescriptorInner
  pub messages : List MessageDescriptorInner
  pub enums : List EnumDescriptorInner
  pub services : List ServiceDescriptorInner
  pub extensions : List ExtensionDescriptorInner

-- the items that are lent to the code
abbrev pub linked : code.Linked → Linked
linked l = record {
  files = l.files.now;
  messages = l.messages.now;
  enums = l.enums.now;
  services = l.services.now;
  extensions = l.extensions.now;
}

-- those items of the contents of a pool
abbrev pub linked_in : Contents → Linked
linked_in p = record {
  files = p.files;
  messages = p.messages;
  enums = p.enums;
  services = p.services;
  extensions = p.extensions;
}

-- whether a file is one of proto3
abbrev pub in_proto3 : Linked → ℕ → Bool
in_proto3 l file = option_map_or (λ f. is_proto3 f.syntax) (slice_get l.files file) false

-- the linked record of a field or an extension
abbrev pub field_record : Linked → Identity → Option FieldDescriptorProto
field_record l id = option_and_then
    (λ f. option_or (option_and_then as_field (leads f.raw id.path))
    (option_and_then as_extension (leads f.raw id.path))) (slice_get l.files id.file)

-- the linked record of a message
abbrev pub message_record : Linked → Identity → Option DescriptorProto
message_record l id = option_and_then (λ f. option_and_then as_message (leads f.raw id.path))
    (slice_get l.files id.file)

-- the linked record of an enum
abbrev pub enum_record : Linked → Identity → Option EnumDescriptorProto
enum_record l id = option_and_then (λ f. option_and_then as_enum (leads f.raw id.path))
    (slice_get l.files id.file)

-- whether the enum with an index stands in a file that is not of proto3
abbrev pub is_closed_enum : Linked → ℕ → Bool
is_closed_enum l e =
    option_map_or (λ found. not (in_proto3 l found.id.file)) (slice_get l.enums e) false

-- whether a kind is an enum of a file that is not of proto3
abbrev pub is_closed : Linked → KindIndex → Bool
is_closed l (index.Enum e) = is_closed_enum l e
is_closed l _ = false

-- whether the linked record of a message says that it is an entry of a map
abbrev pub is_entry : Linked → MessageDescriptorInner → Bool
is_entry l m = option_map_or says_map_entry (message_record l m.id) false

-- whether it says that it is a message set
abbrev pub is_set : Linked → MessageDescriptorInner → Bool
is_set l m = option_map_or says_message_set (message_record l m.id) false

-- whether the message with an index is an entry of a map
abbrev pub is_map_entry : Linked → ℕ → Bool
is_map_entry l n = option_map_or (is_entry l) (slice_get l.messages n) false

-- whether the message with an index is a message set
abbrev pub is_message_set : Linked → ℕ → Bool
is_message_set l n = option_map_or (is_set l) (slice_get l.messages n) false
