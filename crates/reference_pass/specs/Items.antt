-- The records that a pool holds of files, messages, services and extensions.
use Rattle.std.specs.Prelude.{ℕ, List, [], ◌∷◌, ◌++◌, map, unwrap_or}
use Rattle.std.specs.FinMap as finite
use Rattle.std.specs.List.{filter_map}
use Rattle.proto_types.specs.declared.tag.message.TheConstants as message
use Rattle.pool_types.specs.declared.contents.definition.Identity.{Identity}
use Rattle.pool_types.specs.declared.contents.enumeration.EnumDescriptorInner.{EnumDescriptorInner}
use Rattle.pool_types.specs.declared.contents.extension.ExtensionDescriptorInner.{ExtensionDescriptorInner}
use Rattle.pool_types.specs.declared.contents.field.FieldDescriptorInner.{FieldDescriptorInner}
use Rattle.pool_types.specs.declared.contents.file.FileDescriptorInner.{FileDescriptorInner}
use Rattle.pool_types.specs.declared.contents.message.MessageDescriptorInner.{MessageDescriptorInner}
use Rattle.pool_types.specs.declared.contents.oneof.OneofDescriptorInner.{OneofDescriptorInner}
use Rattle.pool_types.specs.declared.contents.service.ServiceDescriptorInner.{ServiceDescriptorInner}
use Rattle.pool_types.specs.declared.contents.service.MethodDescriptorInner.{MethodDescriptorInner}
use Rattle.std.specs.declared.option.Option.{Option}
use Rattle.pool_types.specs.declared.default_value.DefaultValue.{DefaultValue}
use Rattle.pool_types.specs.declared.kinds.KindIndex.{KindIndex}
use Rattle.pool_types.specs.declared.kinds.KindIndex.TheVariants.{Double}
use Rattle.proto_types.specs.declared.records.field.FieldDescriptorProto.{FieldDescriptorProto}
use Rattle.proto_types.specs.declared.records.service.MethodDescriptorProto.{MethodDescriptorProto}
use Rattle.proto_types.specs.declared.records.service.ServiceDescriptorProto.{ServiceDescriptorProto}
use Rattle.proto_types.specs.declared.file.FileDescriptorProto.{FileDescriptorProto}
use Rattle.proto_types.specs.declared.message.DescriptorProto.{DescriptorProto, out-DescriptorProto}
use Rattle.proto_types.specs.declared.message.OneofDescriptorProto.{OneofDescriptorProto}
use Rattle.proto_types.specs.Readers.{number_of, label_of}
use Rattle.reference_pass.specs.Defaults.{field_default}
use Rattle.record_walk.specs.Protos.{Proto, of_oneof, as_file, as_message, as_enum, as_service}
use Rattle.record_walk.specs.Protos.{as_extension}
use Rattle.record_walk.specs.Shown.{Shown, Surrounding, inside, of_kind}
use Rattle.pool_types.specs.Kinds.{cardinality_of}
use Rattle.pool_types.specs.Syntaxes.{syntax_of, syntax_at, is_proto3}
use Rattle.field_rules.specs.Encoding.{is_packed, supports_presence}
use Rattle.field_rules.specs.Maps.{by_number, by_name, by_json_name, item_number}
use Rattle.field_rules.specs.Oneofs.{members, oneof_of}
use Rattle.plain_data.specs.Each.{map_enumerated}
use Rattle.field_rules.specs.EnumItems.{enum_item}
use Rattle.field_rules.specs.Identities.{identity}
use Rattle.reference_pass.specs.Types.{field_kind}
use Rattle.reference_pass.specs.Linked.{linked}
use Rattle.reference_pass.specs.References.{message_found, index_or_max, method_at, resolve_message}
use Rattle.record_walk.specs.Place.{field_at, part_inside}
use Rattle.reference_pass.specs.Setting.{Setting, seen_by}

-- the item of the file with an index: its syntax, its linked record, the files that it imports, in
-- order, and those that it sees
abbrev pub file_item : Setting → ℕ → FileDescriptorProto → FileDescriptorInner
file_item s index f = record {
  syntax = syntax_of f;
  raw = linked s index f;
  dependencies = filter_map (finite.get s.file_names) f.dependency;
  transitive_dependencies = seen_by s index;
}

-- the item of a field with an identity, whose type is of a kind, with a default value, among the
-- oneofs of its message
abbrev pub item_at : Setting → List OneofDescriptorProto → Identity → FieldDescriptorProto
    → KindIndex → Option DefaultValue → FieldDescriptorInner
item_at s oneofs id f kind default = record {
  id = id;
  number = item_number (number_of f.number);
  json_name = f.json_name;
  kind = kind;
  oneof = oneof_of oneofs f;
  is_packed = is_packed (is_proto3 (syntax_at s.files id.file)) kind f;
  supports_presence = supports_presence (is_proto3 (syntax_at s.files id.file)) kind f;
  cardinality = cardinality_of (label_of f.label);
  default = default;
}

-- the item of a field whose type is of a kind, with a default value, by where it stands
abbrev pub item_of_kind : Setting → List OneofDescriptorProto → Shown → FieldDescriptorProto
    → KindIndex → Option DefaultValue → FieldDescriptorInner
item_of_kind s oneofs d f kind default = item_at s oneofs (identity d) f kind default

-- the item of a field by the kind of its type and its default value; where the type has a fault,
-- double stands in for it
abbrev pub field_item : Setting → List OneofDescriptorProto → Shown → FieldDescriptorProto
    → FieldDescriptorInner
field_item s oneofs d f = item_of_kind s oneofs d f (unwrap_or (field_kind s d f) Double)
    (field_default s d f)

-- the item of a oneof, by its position, with the positions of the fields that name it
abbrev pub oneof_item : List FieldDescriptorProto → Shown → OneofDescriptorInner
oneof_item fields d = record { id = identity d; fields = members fields d.index }

-- the items of fields that stand in surroundings, in the order of their positions
abbrev pub field_items : Setting → List OneofDescriptorProto → Surrounding
    → List FieldDescriptorProto → List FieldDescriptorInner
field_items s oneofs here fs =
    map_enumerated (λ i f. field_item s oneofs (field_at here i f) f) 0 fs

-- the items of oneofs that stand in surroundings, in the order of their positions
abbrev pub oneof_items : List FieldDescriptorProto → Surrounding → List OneofDescriptorProto
    → List OneofDescriptorInner
oneof_items fields here os =
    map_enumerated (λ i o. oneof_item fields (part_inside here message.ONEOF_DECL i (of_oneof o))) 0
    os

-- the item of a message, before what extends it is known: its identity, the index of the message
-- around it, its fields, its three maps and its oneofs
abbrev pub message_item : Setting → Shown → DescriptorProto → MessageDescriptorInner
message_item s d m =
    let fields = (out-DescriptorProto m).field in
    let oneofs = (out-DescriptorProto m).oneof_decl in
    record {
      id = identity d;
      parent = d.parent;
      extensions = [];
      extension_numbers = finite.empty;
      fields = field_items s oneofs (inside d) fields;
      field_numbers = by_number fields;
      field_names = by_name fields;
      field_json_names = by_json_name fields;
      oneofs = oneof_items fields (inside d) oneofs;
    }

-- the item of a method: its identity, and the indexes of the messages that its input and its output
-- mean, or the largest number of 32 bits where one means none
abbrev pub method_item : Setting → Shown → MethodDescriptorProto → MethodDescriptorInner
method_item s d m = record {
  id = identity d;
  input = index_or_max (message_found (resolve_message s d m.input_type));
  output = index_or_max (message_found (resolve_message s d m.output_type));
}

-- the items of methods that stand in surroundings, in the order of their positions
abbrev pub method_items : Setting → Surrounding → List MethodDescriptorProto
    → List MethodDescriptorInner
method_items s here ms = map_enumerated (λ i m. method_item s (method_at here i m) m) 0 ms

-- the item of a service: its identity, and its methods in the order of their positions
abbrev pub service_item : Setting → Shown → ServiceDescriptorProto → ServiceDescriptorInner
service_item s d v = record {
  id = identity d;
  methods = method_items s (inside d) v.method;
}

-- a text in square brackets
abbrev pub bracketed : List ℕ → List ℕ
bracketed text = 91 ∷ text ++ 93 ∷ []

-- the item of an extension, with its full name in square brackets as its JSON name; where its
-- extendee or its type has a fault, the largest number of 32 bits or double stands in for it
abbrev pub extension_item : Setting → Shown → FieldDescriptorProto → ExtensionDescriptorInner
extension_item s d x =
    let kind = unwrap_or (field_kind s d x) Double in
    record {
      id = identity d;
      parent = d.parent;
      number = item_number (number_of x.number);
      json_name = bracketed d.full_name;
      extendee = index_or_max (message_found (resolve_message s d x.extendee));
      kind = kind;
      is_packed = is_packed (is_proto3 (syntax_at s.files d.file)) kind x;
      cardinality = cardinality_of (label_of x.label);
      default = field_default s d x;
    }

-- what is made of each declaration of one kind, in order
abbrev pub made_of : {X Y : Type 0} → (Proto → Option X) → (Shown → X → Y) → List Shown → List Y
made_of pick make ds = map (λ e. make e.0 e.1) (of_kind pick ds)

-- the items of all files among declarations
abbrev pub file_items : Setting → List Shown → List FileDescriptorInner
file_items s ds = made_of as_file (λ d f. file_item s d.index f) ds

-- the items of all messages among declarations
abbrev pub message_items : Setting → List Shown → List MessageDescriptorInner
message_items s ds = made_of as_message (message_item s) ds

-- the items of all enums among declarations
abbrev pub enum_items : List Shown → List EnumDescriptorInner
enum_items ds = made_of as_enum enum_item ds

-- the items of all services among declarations
abbrev pub service_items : Setting → List Shown → List ServiceDescriptorInner
service_items s ds = made_of as_service (service_item s) ds

-- the items of all extensions among declarations
abbrev pub extension_items : Setting → List Shown → List ExtensionDescriptorInner
extension_items s ds = made_of as_extension (extension_item s) ds
