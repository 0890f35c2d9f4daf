-- What messages and their fields may not be (protobuf's `BuildMessage`, `BuildFieldOrExtension`,
-- `CrossLinkField` and `ValidateProto3Message`).
use Rattle.std.specs.Prelude.{Bool, not, ◌&&◌, ◌==◌, is_some, List, [], ◌++◌, length}
use Rattle.std.specs.List.{flat_map}
use Rattle.std.specs.Option.{option_map_or}
use Rattle.plain_data.specs.Lists.{only_if}
use Rattle.proto_types.specs.Readers.{flag_of, label_of}
use Rattle.proto_types.specs.declared.message.DescriptorProto.{DescriptorProto, out-DescriptorProto}
use Rattle.proto_types.specs.declared.records.field.FieldDescriptorProto.{FieldDescriptorProto}
use Rattle.proto_types.specs.declared.tag.field.TheConstants as field
use Rattle.proto_types.specs.declared.tag.message.TheConstants as message
use Rattle.descriptor_decoding.specs.Flags.{says_message_set}
use Rattle.pool_types.specs.declared.contents.definition.Identity.{Identity}
use Rattle.pool_types.specs.declared.contents.field.FieldDescriptorInner.{FieldDescriptorInner}
use Rattle.pool_types.specs.declared.contents.message.MessageDescriptorInner.{MessageDescriptorInner}
use Rattle.protoc_rules.specs.declared.faults.StrictFault.{StrictFault}
use Rattle.protoc_rules.specs.declared.faults.StrictKind.TheVariants as kind
use Rattle.protoc_rules.specs.Faults.{at_part}
use Rattle.protoc_rules.specs.Fields.{site_faults}
use Rattle.protoc_rules.specs.Labels.{is_optional}
use Rattle.protoc_rules.specs.Linked.{Linked, field_record, in_proto3, is_closed, message_record}
use Rattle.protoc_rules.specs.Maps.{map_faults}
use Rattle.protoc_rules.specs.Names.{name_faults}
use Rattle.protoc_rules.specs.Oneofs.{is_alone, oneofs_faults}
use Rattle.protoc_rules.specs.Ranges.{range_faults}
use Rattle.protoc_rules.specs.Reserved.{ReservedNames, reserved_name_faults}
use Rattle.protoc_rules.specs.Sites.{Site}

-- whether a field stands in a oneof, and is not optional
abbrev pub is_wrong_in_oneof : FieldDescriptorProto → Bool
is_wrong_in_oneof f = is_some f.oneof_index && not (is_optional (label_of f.label))

-- what a field of a message may not be: what no field may be, in a oneof anything but optional,
-- with an extendee, optional by the word of proto3 without a oneof for itself, nor in a message set
abbrev pub field_site_faults : Bool → Site → List StrictFault
field_site_faults alone s = site_faults s
    ++ (only_if (is_wrong_in_oneof s.field) (at_part kind.OneofFieldLabel s.id field.LABEL)
    ++ (only_if (is_some s.field.extendee) (at_part kind.FieldExtendee s.id field.EXTENDEE)
    ++ (only_if (flag_of s.field.proto3_optional && not alone)
    (at_part kind.Proto3OptionalOneof s.id field.PROTO3_OPTIONAL)
    ++ only_if s.in_message_set (at_part kind.MessageSetField s.id field.NAME))))

-- a field as the rules look at it
abbrev pub field_site : Linked → Bool → FieldDescriptorInner → FieldDescriptorProto → Site
field_site l is_set f r = record {
  id = f.id;
  field = r;
  kind = f.kind;
  in_proto3 = in_proto3 l f.id.file;
  is_closed = is_closed l f.kind;
  in_message_set = is_set;
}

-- what a field of a message may not be, where it is known whether the message is a message set
abbrev pub field_faults : Linked → MessageDescriptorInner → Bool → FieldDescriptorInner
    → List StrictFault
field_faults l m is_set f = option_map_or
    (λ r. field_site_faults (is_alone m.oneofs f) (field_site l is_set f r)
    ++ map_faults l (field_site l is_set f r) m.id)
    (field_record l f.id) []

-- what a message may not be in proto3: one with extension ranges, nor a message set
abbrev pub message_proto3_faults : Bool → Identity → DescriptorProto → List StrictFault
message_proto3_faults proto3 id m =
    only_if (proto3 && not (length (out-DescriptorProto m).extension_range == 0))
    (at_part kind.ExtensionRangesInProto3 id message.EXTENSION_RANGE)
    ++ only_if (proto3 && says_message_set m)
    (at_part kind.MessageSetInProto3 id message.OPTIONS)

-- the reserved names of a message, and the names of its fields
abbrev pub reserved_of : MessageDescriptorInner → DescriptorProto → ReservedNames
reserved_of m r = record {
  names = (out-DescriptorProto r).reserved_name;
  tag = message.RESERVED_NAME;
  members = m.field_names;
  member_tag = message.FIELD;
}

-- whether a message stands in 31 others, of which its path has two numbers each, and two of its own
abbrev pub is_deep : Identity → Bool
is_deep id = length id.path == 64

-- what a message may not be by its name and its place: with a name that is no identifier, nor in so
-- many others
abbrev pub identity_faults : Identity → List StrictFault
identity_faults id =
    name_faults id ++ only_if (is_deep id) (at_part kind.DeepMessage id message.NAME)

-- what a message may not be by its name, its place, its ranges and its reserved names, where it is
-- known whether it is a message set
abbrev pub own_faults : Bool → MessageDescriptorInner → DescriptorProto → List StrictFault
own_faults is_set m r = identity_faults m.id
    ++ (range_faults is_set m.id r ++ reserved_name_faults m.id (reserved_of m r))

-- what the oneofs of a message may not be
abbrev pub message_oneofs : MessageDescriptorInner → DescriptorProto → List StrictFault
message_oneofs m r = oneofs_faults (out-DescriptorProto r).field m.oneofs

-- what a message with its record may not be: by itself, in proto3, in its oneofs and in its fields
abbrev pub recorded_faults : Linked → MessageDescriptorInner → DescriptorProto → List StrictFault
recorded_faults l m r = own_faults (says_message_set r) m r
    ++ (message_proto3_faults (in_proto3 l m.id.file) m.id r
    ++ (message_oneofs m r ++ flat_map (field_faults l m (says_message_set r)) m.fields))

-- what a message may not be
abbrev pub message_faults : Linked → MessageDescriptorInner → List StrictFault
message_faults l m = option_map_or (recorded_faults l m) (message_record l m.id) []
