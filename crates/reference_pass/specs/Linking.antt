-- Records that are linked by the items of a pool: which items names mean, which item each
-- declaration has, and what is written by them.
use Rattle.std.specs.Prelude.{◌≡◌, ◌≤◌, ℕ, ℤ, pos, List, [], ◌∷◌, length, map, slice_get}
use Rattle.std.specs.FinMap as finite
use Rattle.std.specs.List.{AllByRecursion}
use Rattle.std.specs.Option.{IfSome, option_map, option_or}
use Rattle.std.specs.declared.option.Option.{Option}
use Rattle.std.specs.declared.option.Option.TheVariants.{None, Some}
use Rattle.proto_types.specs.Readers.{text_of, type_of}
use Rattle.proto_types.specs.declared.records.field.FieldDescriptorProto.{FieldDescriptorProto}
use Rattle.proto_types.specs.declared.records.field.FieldType.{FieldType}
use Rattle.proto_types.specs.declared.records.field.FieldType.TheVariants as written
use Rattle.proto_types.specs.declared.records.service.MethodDescriptorProto.{MethodDescriptorProto}
use Rattle.proto_types.specs.declared.file.FileDescriptorProto.{FileDescriptorProto}
use Rattle.proto_types.specs.declared.message.DescriptorProto.{out-DescriptorProto}
use Rattle.proto_types.specs.declared.message.OneofDescriptorProto.{OneofDescriptorProto}
use Rattle.pool_types.specs.declared.kinds.KindIndex.{KindIndex}
use Rattle.pool_types.specs.declared.kinds.KindIndex.TheVariants as index
use Rattle.pool_types.specs.Contents.{Contents}
use Rattle.pool_types.specs.declared.contents.definition.DefinitionKind.{DefinitionKind}
use Rattle.pool_types.specs.declared.contents.definition.DefinitionKind.TheVariants as definition
use Rattle.pool_types.specs.declared.contents.enumeration.EnumDescriptorInner.{EnumDescriptorInner}
use Rattle.pool_types.specs.declared.contents.extension.ExtensionDescriptorInner.{ExtensionDescriptorInner}
use Rattle.pool_types.specs.declared.contents.field.FieldDescriptorInner.{FieldDescriptorInner}
use Rattle.pool_types.specs.declared.contents.file.FileDescriptorInner.{FileDescriptorInner}
use Rattle.pool_types.specs.declared.contents.message.MessageDescriptorInner.{MessageDescriptorInner}
use Rattle.pool_types.specs.declared.contents.service.MethodDescriptorInner.{MethodDescriptorInner}
use Rattle.pool_types.specs.declared.contents.service.ServiceDescriptorInner.{ServiceDescriptorInner}
use Rattle.record_walk.specs.declared.counts.Counts.{Counts}
use Rattle.record_walk.specs.Changed.{changed_fields, changed_methods}
use Rattle.record_walk.specs.Counts.{count_limit, counted}
use Rattle.record_walk.specs.Declarations.{declarations, file_walk}
use Rattle.record_walk.specs.Protos.{of_message, of_service, of_extension}
use Rattle.record_walk.specs.Shown.{Shown, Surrounding, inside}
use Rattle.plain_data.specs.Each.{map_enumerated}
use Rattle.reference_pass.specs.Linked.{linked, linked_field, linked_method}
use Rattle.reference_pass.specs.Setting.{Setting}
use Rattle.reference_pass.specs.Items.{extension_item, field_items, method_items}
use Rattle.reference_pass.specs.declared.linking.Linker.{Linker}
use Rattle.reference_pass.specs.declared.linking.NextItems.{NextItems}

-- the items of a pool by which records are linked
pub record ItemLists : Type 0 where
  pub messages : List MessageDescriptorInner
  pub enums : List EnumDescriptorInner
  pub services : List ServiceDescriptorInner
  pub extensions : List ExtensionDescriptorInner

-- the items that the contents of a pool have
abbrev pub lists_in : Contents → ItemLists
lists_in p = record {
  messages = p.messages;
  enums = p.enums;
  services = p.services;
  extensions = p.extensions;
}

-- the items that a `Linker` of the code borrows
abbrev pub lists_of : Linker → ItemLists
lists_of l = record {
  messages = l.messages.now;
  enums = l.enums.now;
  services = l.services.now;
  extensions = l.extensions.now;
}

-- the full name of the message with an index
abbrev pub message_name : ItemLists → ℕ → Option (List ℕ)
message_name it n = option_map (λ m. m.id.full_name) (slice_get it.messages n)

-- the full name of the enum with an index
abbrev pub enum_name : ItemLists → ℕ → Option (List ℕ)
enum_name it n = option_map (λ e. e.id.full_name) (slice_get it.enums n)

-- the full name of the message or the enum that a type is
abbrev pub kind_name : ItemLists → KindIndex → Option (List ℕ)
kind_name it (index.Message n) = message_name it n
kind_name it (index.Group n) = message_name it n
kind_name it (index.Enum n) = enum_name it n
kind_name it _ = None

-- the number of a type by its kind: 11 of a message and 14 of an enum; a group keeps its own, and
-- so does a type that names nothing
abbrev pub kind_number : FieldType → KindIndex → Option ℤ → Option ℤ
kind_number written.Group kind given = given
kind_number _ (index.Message _) given = Some (pos 11)
kind_number _ (index.Enum _) given = Some (pos 14)
kind_number _ _ given = given

-- a field with the name and the number of its type, where the type has a name
abbrev pub with_type : Option (List ℕ) → Option ℤ → FieldDescriptorProto → FieldDescriptorProto
with_type None number f = f
with_type (Some name) number f = record f { type_name = Some (46 ∷ name); type_ = number }

-- a field with the name and the number of its type, by the item that its kind means
abbrev pub typed_by : ItemLists → KindIndex → FieldDescriptorProto → FieldDescriptorProto
typed_by it kind f = elim (text_of f.type_name) [
  | [] ↦ f
  | _ ∷ _ ↦ with_type (kind_name it kind) (kind_number (type_of f.type_) kind f.type_) f
]

-- a reference with a dot and the full name of the message with an index, or as it was where there
-- is none
abbrev pub reference_by : ItemLists → ℕ → Option (List ℕ) → Option (List ℕ)
reference_by it n given = option_or (option_map (λ name. 46 ∷ name) (message_name it n)) given

-- a method with its input and its output, by its item
abbrev pub method_by : ItemLists → MethodDescriptorInner → MethodDescriptorProto
    → MethodDescriptorProto
method_by it item m = record m {
  input_type = reference_by it item.input m.input_type;
  output_type = reference_by it item.output m.output_type;
}

-- the item of a message or an enum that a name means has this name
abbrev pub IsNamedBy : ItemLists → List ℕ → DefinitionKind → Type 0
IsNamedBy it name (definition.Message n) = message_name it n ≡ Some name
IsNamedBy it name (definition.Enum n) = enum_name it n ≡ Some name
IsNamedBy it name _ = Unit {0}

-- names mean items that have these names, and the largest number of 32 bits is the index of no item
pub record NamesMeanItems (s : Setting) (it : ItemLists) : Type 0 where
  pub named : (name : List ℕ) → IfSome (finite.get s.names name) (λ def. IsNamedBy it name def.kind)
  pub messages : length it.messages ≤ count_limit
  pub services : length it.services ≤ count_limit
  pub extensions : length it.extensions ≤ count_limit

-- a declaration has its item: a message the items of its fields, a service those of its methods,
-- and an extension its own
abbrev pub HasItem : Setting → ItemLists → Shown → Type 0
HasItem s it d = elim d.proto [
  | of_message m ↦ option_map (λ item. item.fields) (slice_get it.messages d.index)
      ≡ Some (field_items s (out-DescriptorProto m).oneof_decl (inside d)
      (out-DescriptorProto m).field)
  | of_service v ↦ option_map (λ item. item.methods) (slice_get it.services d.index)
      ≡ Some (method_items s (inside d) v.method)
  | of_extension x ↦ slice_get it.extensions d.index ≡ Some (extension_item s d x)
  | _ ↦ Unit {0}
]

-- names mean items that have these names, and each of some declarations has its item
pub record ItemsAre (s : Setting) (it : ItemLists) (ds : List Shown) : Type 0 where
  pub names : NamesMeanItems s it
  pub items : AllByRecursion (HasItem s it) ds

-- the positions of the next items, after so many
abbrev pub next_of : Counts → NextItems
next_of c = record { messages = c.messages; services = c.services; extensions = c.extensions }

-- fields with their items become linked fields, in any surroundings
pub record LinksFields (it : ItemLists) (items : List FieldDescriptorInner)
    (old new : List FieldDescriptorProto) : Type 0 where
  pub by : (s : Setting) (here : Surrounding) (oneofs : List OneofDescriptorProto)
      → NamesMeanItems s it
      → items ≡ field_items s oneofs here old
      → new ≡ changed_fields (linked_field s) here.file here.scope old

-- methods with their items become linked methods, in any surroundings
pub record LinksMethods (it : ItemLists) (items : List MethodDescriptorInner)
    (old new : List MethodDescriptorProto) : Type 0 where
  pub by : (s : Setting) (here : Surrounding) → NamesMeanItems s it
      → items ≡ method_items s here old
      → new ≡ changed_methods (linked_method s) here.file here.scope old

-- what declares a list becomes linked by the next items, which are taken
pub record Links {X : Type 0} (it : ItemLists) (before after : NextItems) (declared : Surrounding
    → ℤ → ℕ → Counts → List Shown) (linked : Setting → Surrounding → X) (new : X) : Type 0 where
  pub by : (s : Setting) (here : Surrounding) (tag : ℤ) (position : ℕ) (base : Counts)
      → before ≡ next_of base
      → ItemsAre s it (declared here tag position base)
      → (new ≡ linked s here) × (after ≡ next_of (counted base (declared here tag position base)))

-- a file becomes a linked file by the next items
pub record LinksFile (it : ItemLists) (before after : NextItems)
    (old new : FileDescriptorProto) : Type 0 where
  pub by : (s : Setting) (base : Counts) → before ≡ next_of base
      → ItemsAre s it (file_walk base old)
      → (new ≡ linked s base.files old) × (after ≡ next_of (counted base (file_walk base old)))

-- a file of a pool with its record linked
abbrev pub linked_item : Setting → ℕ → FileDescriptorInner → FileDescriptorInner
linked_item s n f = record f { raw = linked s n f.raw }

-- the files of a pool that are numbered on become linked files by the next items
pub record LinksFiles (it : ItemLists) (before after : NextItems)
    (old new : List FileDescriptorInner) : Type 0 where
  pub by : (s : Setting) (base : Counts) → before ≡ next_of base
      → ItemsAre s it (declarations base (map (λ f. f.raw) old))
      → (new ≡ map_enumerated (linked_item s) base.files old)
      × (after ≡ next_of (counted base (declarations base (map (λ f. f.raw) old))))
