-- What a pool has, as plain numbers.
use Rattle.std.specs.Prelude.{ℕ, ℤ, ◌-◌, Bool, not, List, [], ◌∷◌, length, slice_get, unwrap_or}
use Rattle.std.specs.Prelude.{is_some, if◌then◌else◌}
use Rattle.std.specs.FinMap as finite
use Rattle.std.specs.Option.{option_and_then}
use Rattle.std.specs.declared.option.Option.{Option}
use Rattle.record_walk.specs.declared.counts.Counts.{Counts}
use Rattle.pool_faults.specs.Labels.{non_negative}
use Rattle.pool_types.specs.Contents.{Contents}
use Rattle.pool_types.specs.Kinds.{type_number}
use Rattle.pool_types.specs.declared.contents.definition.Definition.{Definition}
use Rattle.pool_types.specs.declared.contents.definition.DefinitionKind.{DefinitionKind}
use Rattle.pool_types.specs.declared.contents.definition.DefinitionKind.TheVariants as definition
use Rattle.pool_types.specs.declared.contents.enumeration.EnumDescriptorInner.{EnumDescriptorInner}
use Rattle.pool_types.specs.declared.contents.enumeration.EnumValueDescriptorInner.{EnumValueDescriptorInner}
use Rattle.pool_types.specs.declared.contents.extension.ExtensionDescriptorInner.{ExtensionDescriptorInner}
use Rattle.pool_types.specs.declared.contents.field.FieldDescriptorInner.{FieldDescriptorInner}
use Rattle.pool_types.specs.declared.contents.file.FileDescriptorInner.{FileDescriptorInner}
use Rattle.pool_types.specs.declared.contents.message.MessageDescriptorInner.{MessageDescriptorInner}
use Rattle.pool_types.specs.declared.contents.oneof.OneofDescriptorInner.{OneofDescriptorInner}
use Rattle.pool_types.specs.declared.contents.service.MethodDescriptorInner.{MethodDescriptorInner}
use Rattle.pool_types.specs.declared.contents.service.ServiceDescriptorInner.{ServiceDescriptorInner}
use Rattle.pool_types.specs.declared.kinds.Cardinality.{Cardinality}
use Rattle.pool_types.specs.declared.kinds.Cardinality.TheVariants.{Optional, Required, Repeated}
use Rattle.pool_types.specs.declared.kinds.KindIndex.{KindIndex}
use Rattle.pool_types.specs.declared.kinds.KindIndex.TheVariants as kind
use Rattle.pool_types.specs.declared.kinds.Syntax.{Syntax}
use Rattle.pool_types.specs.declared.kinds.Syntax.TheVariants.{Proto2, Proto3}
use Rattle.descriptor_decoding.specs.Flags.{says}
use Rattle.record_lists.specs.Flags.{is_closed, is_group, is_list, is_map, is_repeated, is_required}
use Rattle.record_lists.specs.Flags.{is_synthetic}
use Rattle.record_lists.specs.Records.{enum_parts, field_parts, is_service_deprecated}
use Rattle.record_lists.specs.Records.{is_value_deprecated, message_parts, method_parts}
use Rattle.record_lists.specs.declared.records.MessageParts.{MessageParts}
use Rattle.numbered_pool.specs.declared.numbers.EnumItem.{EnumItem}
use Rattle.numbered_pool.specs.declared.numbers.ExtensionItem.{ExtensionItem}
use Rattle.numbered_pool.specs.declared.numbers.FieldItem.{FieldItem}
use Rattle.numbered_pool.specs.declared.numbers.FileItem.{FileItem}
use Rattle.numbered_pool.specs.declared.numbers.Found.{Found}
use Rattle.numbered_pool.specs.declared.numbers.Item.{Item}
use Rattle.numbered_pool.specs.declared.numbers.MessageItem.{MessageItem}
use Rattle.numbered_pool.specs.declared.numbers.MethodItem.{MethodItem}
use Rattle.numbered_pool.specs.declared.numbers.OneofItem.{OneofItem}
use Rattle.numbered_pool.specs.declared.numbers.PoolCounts.{PoolCounts}
use Rattle.numbered_pool.specs.declared.numbers.ServiceItem.{ServiceItem}
use Rattle.numbered_pool.specs.declared.numbers.ValueItem.{ValueItem}

-- the number that stands where there is none
abbrev pub none : ℕ
none = 4294967295

-- a number that may be missing
abbrev pub or_none : Option ℕ → ℕ
or_none number = unwrap_or number none

-- a flag as a number
abbrev pub flag : Bool → ℕ
flag holds = if holds then 1 else 0

-- the number of a label
abbrev pub cardinality_number : Cardinality → ℕ
cardinality_number Optional = 1
cardinality_number Required = 2
cardinality_number Repeated = 3

-- the index of the message or the enum that is a type
abbrev pub type_index : KindIndex → ℕ
type_index (kind.Message m) = m
type_index (kind.Group m) = m
type_index (kind.Enum e) = e
type_index _ = none

-- the number of a syntax
abbrev pub syntax_number : Syntax → ℕ
syntax_number Proto2 = 2
syntax_number Proto3 = 3

-- the numbers of the kind of a definition: the kind, and the index that it holds
abbrev pub definition_numbers : DefinitionKind → ℕ × ℕ
definition_numbers definition.Package = (0, none)
definition_numbers (definition.Message m) = (1, m)
definition_numbers (definition.Field m) = (2, m)
definition_numbers (definition.Oneof m) = (3, m)
definition_numbers (definition.Service s) = (4, s)
definition_numbers (definition.Method s) = (5, s)
definition_numbers (definition.Enum e) = (6, e)
definition_numbers (definition.EnumValue e) = (7, e)
definition_numbers (definition.Extension x) = (8, x)

-- how many there are of each kind
abbrev pub pool_counts : Counts → PoolCounts
pool_counts c = record {
  files = c.files;
  messages = c.messages;
  enums = c.enums;
  services = c.services;
  extensions = c.extensions;
}

-- the position of a part in what it stands in, by the path of its name: the last number but one
abbrev pub part_position : List ℤ → ℕ
part_position path = unwrap_or (option_and_then non_negative (slice_get path (length path - 2))) 0

-- the position of a definition in what it stands in, where it is a part
abbrev pub position : DefinitionKind → List ℤ → ℕ
position (definition.Field _) path = part_position path
position (definition.Oneof _) path = part_position path
position (definition.Method _) path = part_position path
position (definition.EnumValue _) path = part_position path
position _ path = 0

-- what has a name
abbrev pub item : DefinitionKind → List ℤ → Item
item kind path = record {
  kind = (definition_numbers kind).0;
  index = (definition_numbers kind).1;
  position = position kind path;
}

-- what a name means
abbrev pub found_item : Definition → Found
found_item d = record { item = item d.kind d.path; file = d.file }

-- the kinds with an index, in the order of their numbers
abbrev pub kinds : ℕ → List DefinitionKind
kinds index =
    definition.Package ∷ definition.Message index ∷ definition.Field index ∷ definition.Oneof index
    ∷ definition.Service index ∷ definition.Method index ∷ definition.Enum index
    ∷ definition.EnumValue index ∷ definition.Extension index ∷ []

-- what kind an item is, with its index
abbrev pub definition_kind : Item → Option DefinitionKind
definition_kind i = slice_get (kinds i.index) i.kind

-- the position of the field with a number, where a message is the entry of a map
abbrev pub entry_field : Bool → MessageDescriptorInner → ℕ → ℕ
entry_field is_entry m number =
    if is_entry then or_none (finite.get m.field_numbers number) else none

-- a file
abbrev pub file_item : FileDescriptorInner → FileItem
file_item f = record {
  syntax = syntax_number f.syntax;
  imports = length f.dependencies;
  public_imports = length f.raw.public_dependency;
  messages = length f.raw.message_type;
  enums = length f.raw.enum_type;
  services = length f.raw.service;
  extensions = length f.raw.extension;
  is_deprecated = flag (says 23 f.raw.options);
}

-- a message, and what its record has
abbrev pub message_numbers : MessageDescriptorInner → MessageParts → MessageItem
message_numbers m r = record {
  file = m.id.file;
  parent = or_none m.parent;
  fields = length m.fields;
  oneofs = length m.oneofs;
  extensions = length m.extensions;
  nested_messages = r.nested_messages;
  nested_enums = r.nested_enums;
  nested_extensions = r.nested_extensions;
  extension_ranges = r.extension_ranges;
  reserved_ranges = r.reserved_ranges;
  reserved_names = r.reserved_names;
  map_key = entry_field r.is_map_entry m 1;
  map_value = entry_field r.is_map_entry m 2;
  is_map_entry = flag r.is_map_entry;
  is_message_set = flag r.is_message_set;
  is_deprecated = flag r.is_deprecated;
}

-- a message of a pool
abbrev pub message_item : Contents → MessageDescriptorInner → MessageItem
message_item p m = message_numbers m (message_parts p.files m.id)

-- a field of a pool, and what its record says
abbrev pub field_item : Contents → FieldDescriptorInner → FieldItem
field_item p f = record {
  number = f.number;
  cardinality = cardinality_number f.cardinality;
  kind = type_number f.kind;
  type_index = type_index f.kind;
  oneof = or_none f.oneof;
  is_packed = flag f.is_packed;
  supports_presence = flag f.supports_presence;
  has_default = flag (is_some f.default);
  is_map = flag (is_map p.files p.messages f.cardinality f.kind);
  is_list = flag (is_list p.files p.messages f.cardinality f.kind);
  is_required = flag (is_required f.cardinality);
  is_group = flag (is_group f.kind);
  is_proto3_optional = flag (field_parts p.files f.id).is_proto3_optional;
  is_deprecated = flag (field_parts p.files f.id).is_deprecated;
}

-- an extension of a pool, and what its record says
abbrev pub extension_item : Contents → ExtensionDescriptorInner → ExtensionItem
extension_item p x = record {
  file = x.id.file;
  parent = or_none x.parent;
  extendee = x.extendee;
  number = x.number;
  cardinality = cardinality_number x.cardinality;
  kind = type_number x.kind;
  type_index = type_index x.kind;
  is_packed = flag x.is_packed;
  has_default = flag (is_some x.default);
  supports_presence = flag (not (is_repeated x.cardinality));
  is_map = flag (is_map p.files p.messages x.cardinality x.kind);
  is_list = flag (is_list p.files p.messages x.cardinality x.kind);
  is_group = flag (is_group x.kind);
  is_proto3_optional = flag (field_parts p.files x.id).is_proto3_optional;
  is_deprecated = flag (field_parts p.files x.id).is_deprecated;
}

-- a oneof of a pool, among the fields of its message
abbrev pub oneof_item : Contents → List FieldDescriptorInner → OneofDescriptorInner → OneofItem
oneof_item p fields o = record {
  fields = length o.fields;
  is_synthetic = flag (is_synthetic p.files fields o.fields);
}

-- an enum of a pool, and what its record has
abbrev pub enum_item : Contents → EnumDescriptorInner → EnumItem
enum_item p e = record {
  file = e.id.file;
  parent = or_none e.parent;
  values = length e.values;
  allow_alias = flag e.allow_alias;
  reserved_ranges = (enum_parts p.files e.id).reserved_ranges;
  reserved_names = (enum_parts p.files e.id).reserved_names;
  is_closed = flag (is_closed p.files e);
  is_deprecated = flag (enum_parts p.files e.id).is_deprecated;
}

-- a value of an enum of a pool
abbrev pub value_item : Contents → EnumValueDescriptorInner → ValueItem
value_item p v = record {
  number = v.number;
  is_deprecated = flag (is_value_deprecated p.files v.id);
}

-- a service of a pool
abbrev pub service_item : Contents → ServiceDescriptorInner → ServiceItem
service_item p s = record {
  file = s.id.file;
  methods = length s.methods;
  is_deprecated = flag (is_service_deprecated p.files s.id);
}

-- a method of a pool, and what its record says
abbrev pub method_item : Contents → MethodDescriptorInner → MethodItem
method_item p m = record {
  input = m.input;
  output = m.output;
  client_streaming = flag (method_parts p.files m.id).client_streaming;
  server_streaming = flag (method_parts p.files m.id).server_streaming;
  is_deprecated = flag (method_parts p.files m.id).is_deprecated;
}
