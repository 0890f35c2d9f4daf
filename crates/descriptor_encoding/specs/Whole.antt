-- Messages that are read as they were written: their texts are UTF-8, their numbers have 32 bits,
-- what was read of options is what their bytes say, and enough levels are left for what is in them.
use Rattle.std.specs.Prelude.{◌≡◌, ℕ, ℤ, zero, suc, true, List, IfSome, Ok, FitsSigned}
use Rattle.std.specs.Int.{w32}
use Rattle.std.specs.Str.{is_utf8}
use Rattle.std.specs.List.{AllByRecursion}
use Rattle.proto_types.specs.declared.records.options.Options.{Options}
use Rattle.proto_types.specs.declared.records.options.Unread.{Unread}
use Rattle.proto_types.specs.declared.file.FileDescriptorSet.{FileDescriptorSet}
use Rattle.proto_types.specs.declared.file.FileDescriptorProto.{FileDescriptorProto}
use Rattle.proto_types.specs.declared.message.DescriptorProto.{DescriptorProto, out-DescriptorProto}
use Rattle.proto_types.specs.declared.message.DescriptorProto.TheOpen.{DescriptorProto-F}
use Rattle.proto_types.specs.declared.message.ExtensionRange.{ExtensionRange}
use Rattle.proto_types.specs.declared.message.ReservedRange.{ReservedRange}
use Rattle.proto_types.specs.declared.message.OneofDescriptorProto.{OneofDescriptorProto}
use Rattle.proto_types.specs.declared.records.field.FieldDescriptorProto.{FieldDescriptorProto}
use Rattle.proto_types.specs.declared.records.enumeration.EnumDescriptorProto.{EnumDescriptorProto}
use Rattle.proto_types.specs.declared.records.enumeration.EnumReservedRange.{EnumReservedRange}
use Rattle.proto_types.specs.declared.records.enumeration.EnumValueDescriptorProto.{EnumValueDescriptorProto}
use Rattle.proto_types.specs.declared.records.service.ServiceDescriptorProto.{ServiceDescriptorProto}
use Rattle.proto_types.specs.declared.records.service.MethodDescriptorProto.{MethodDescriptorProto}
use Rattle.proto_types.specs.declared.records.source.SourceCodeInfo.{SourceCodeInfo}
use Rattle.proto_types.specs.declared.records.source.Location.{Location}
use Rattle.descriptor_decoding.specs.Merging.{Merge, merged_from}
use Rattle.descriptor_decoding.specs.Options.{no_field_options, no_enum_options, unread}
use Rattle.descriptor_decoding.specs.Options.{field_options_merged, enum_options_merged}
use Rattle.descriptor_decoding.specs.Options.{unread_merged}

-- a number has 32 bits
abbrev pub IsInt32 : ℤ → Type 0
IsInt32 x = FitsSigned w32 x

-- a text is UTF-8
abbrev pub IsText : List ℕ → Type 0
IsText t = is_utf8 t ≡ true

-- a property of a message where so many levels are left, one level further in
abbrev pub Within : {A : Type 0} → ℕ → (ℕ → A → Type 0) → A → Type 0
Within zero P x = ⊥
Within (suc levels) P x = P levels x

-- what was read of options is what their bytes say
abbrev pub IsRead : {T : Type 0} → (ℕ → Merge T) → T → ℕ → Options T → Type 0
IsRead merged empty levels o =
    (ends : ℕ) → merged_from levels (merged levels) ends o.encoded empty ≡ Ok o.value

-- what was read of options of which nothing is read is what their bytes say
abbrev pub IsUnread : ℕ → Options Unread → Type 0
IsUnread = IsRead unread_merged unread

-- a whole value of an enum, within so many levels
pub record IsValue (levels : ℕ) (m : EnumValueDescriptorProto) : Type 0 where
  pub name : IfSome m.name IsText
  pub number : IfSome m.number IsInt32
  pub options : IfSome m.options (Within levels IsUnread)

-- a whole reserved range of an enum, within so many levels
pub record IsEnumRange (levels : ℕ) (m : EnumReservedRange) : Type 0 where
  pub start : IfSome m.start IsInt32
  pub «end» : IfSome m.«end» IsInt32

-- a whole enum, within so many levels
pub record IsEnum (levels : ℕ) (m : EnumDescriptorProto) : Type 0 where
  pub name : IfSome m.name IsText
  pub value : AllByRecursion (Within levels IsValue) m.value
  pub options : IfSome m.options (Within levels (IsRead enum_options_merged no_enum_options))
  pub reserved_range : AllByRecursion (Within levels IsEnumRange) m.reserved_range
  pub reserved_name : AllByRecursion IsText m.reserved_name

-- a whole field or extension, within so many levels
pub record IsField (levels : ℕ) (m : FieldDescriptorProto) : Type 0 where
  pub name : IfSome m.name IsText
  pub extendee : IfSome m.extendee IsText
  pub number : IfSome m.number IsInt32
  pub label : IfSome m.label IsInt32
  pub type_ : IfSome m.type_ IsInt32
  pub type_name : IfSome m.type_name IsText
  pub default_value : IfSome m.default_value IsText
  pub options : IfSome m.options (Within levels (IsRead field_options_merged no_field_options))
  pub oneof_index : IfSome m.oneof_index IsInt32
  pub json_name : IfSome m.json_name IsText

-- a whole oneof, within so many levels
pub record IsOneof (levels : ℕ) (m : OneofDescriptorProto) : Type 0 where
  pub name : IfSome m.name IsText
  pub options : IfSome m.options (Within levels IsUnread)

-- a whole range of extensions, within so many levels
pub record IsExtensionRange (levels : ℕ) (m : ExtensionRange) : Type 0 where
  pub start : IfSome m.start IsInt32
  pub «end» : IfSome m.«end» IsInt32
  pub options : IfSome m.options (Within levels IsUnread)

-- a whole reserved range of a message, within so many levels
pub record IsReservedRange (levels : ℕ) (m : ReservedRange) : Type 0 where
  pub start : IfSome m.start IsInt32
  pub «end» : IfSome m.«end» IsInt32

-- the parts of a message whose nested messages have a property
pub record IsLayer (levels : ℕ) (Nested : DescriptorProto → Type 0)
    (d : DescriptorProto-F DescriptorProto) : Type 0 where
  pub name : IfSome d.name IsText
  pub field : AllByRecursion (Within levels IsField) d.field
  pub nested_type : AllByRecursion Nested d.nested_type
  pub enum_type : AllByRecursion (Within levels IsEnum) d.enum_type
  pub extension_range : AllByRecursion (Within levels IsExtensionRange) d.extension_range
  pub extension : AllByRecursion (Within levels IsField) d.extension
  pub options : IfSome d.options (Within levels IsUnread)
  pub oneof_decl : AllByRecursion (Within levels IsOneof) d.oneof_decl
  pub reserved_range : AllByRecursion (Within levels IsReservedRange) d.reserved_range
  pub reserved_name : AllByRecursion IsText d.reserved_name

-- a whole message, of which those that stand in it are whole by a condition
abbrev pub IsMessageOf : ℕ → (DescriptorProto → Type 0) → DescriptorProto → Type 0
IsMessageOf levels Nested m = IsLayer levels Nested (out-DescriptorProto m)

-- a whole message, within so many levels
abbrev pub IsMessage : ℕ → DescriptorProto → Type 0
IsMessage zero m = IsMessageOf zero (λ _. ⊥) m
IsMessage (suc levels) m = IsMessageOf (suc levels) (IsMessage levels) m

-- a whole method, within so many levels
pub record IsMethod (levels : ℕ) (m : MethodDescriptorProto) : Type 0 where
  pub name : IfSome m.name IsText
  pub input_type : IfSome m.input_type IsText
  pub output_type : IfSome m.output_type IsText
  pub options : IfSome m.options (Within levels IsUnread)

-- a whole service, within so many levels
pub record IsService (levels : ℕ) (m : ServiceDescriptorProto) : Type 0 where
  pub name : IfSome m.name IsText
  pub method : AllByRecursion (Within levels IsMethod) m.method
  pub options : IfSome m.options (Within levels IsUnread)

-- a whole location, within so many levels
pub record IsLocation (levels : ℕ) (m : Location) : Type 0 where
  pub path : AllByRecursion IsInt32 m.path
  pub span : AllByRecursion IsInt32 m.span
  pub leading_comments : IfSome m.leading_comments IsText
  pub trailing_comments : IfSome m.trailing_comments IsText
  pub leading_detached_comments : AllByRecursion IsText m.leading_detached_comments

-- a whole source of a file, within so many levels
pub record IsSource (levels : ℕ) (m : SourceCodeInfo) : Type 0 where
  pub location : AllByRecursion (Within levels IsLocation) m.location

-- a whole file, within so many levels
pub record IsFile (levels : ℕ) (m : FileDescriptorProto) : Type 0 where
  pub name : IfSome m.name IsText
  pub «package» : IfSome m.«package» IsText
  pub dependency : AllByRecursion IsText m.dependency
  pub message_type : AllByRecursion (Within levels IsMessage) m.message_type
  pub enum_type : AllByRecursion (Within levels IsEnum) m.enum_type
  pub service : AllByRecursion (Within levels IsService) m.service
  pub extension : AllByRecursion (Within levels IsField) m.extension
  pub options : IfSome m.options (Within levels IsUnread)
  pub source_code_info : IfSome m.source_code_info (Within levels IsSource)
  pub public_dependency : AllByRecursion IsInt32 m.public_dependency
  pub weak_dependency : AllByRecursion IsInt32 m.weak_dependency
  pub syntax : IfSome m.syntax IsText

-- a whole set of files, within so many levels
pub record IsSet (levels : ℕ) (m : FileDescriptorSet) : Type 0 where
  pub file : AllByRecursion (Within levels IsFile) m.file
