-- Files that are read in another setting, linked or as they are: what relinking and splitting rest on.
use Rattle.std.specs.Prelude.{◌≡◌, ◌<◌, ℕ, ℤ, List, [], length}
use Rattle.std.specs.FinMap as finite
use Rattle.std.specs.List.{AllByRecursion, Contains}
use Rattle.std.specs.declared.option.Option.{Option}
use Rattle.std.specs.declared.option.Option.TheVariants.{None, Some}
use Rattle.proto_types.specs.declared.file.FileDescriptorProto.{FileDescriptorProto}
use Rattle.proto_types.specs.declared.message.DescriptorProto.{DescriptorProto, out-DescriptorProto}
use Rattle.proto_types.specs.declared.records.service.ServiceDescriptorProto.{ServiceDescriptorProto}
use Rattle.proto_types.specs.declared.records.field.FieldDescriptorProto.{FieldDescriptorProto}
use Rattle.plain_data.specs.Lists.{listed}
use Rattle.proto_types.specs.Readers.{text_of}
use Rattle.pool_types.specs.declared.default_value.DefaultValue.{DefaultValue}
use Rattle.pool_types.specs.declared.kinds.KindIndex.{KindIndex}
use Rattle.pool_types.specs.declared.contents.definition.Definition.{Definition}
use Rattle.pool_types.specs.declared.contents.extension.ExtensionDescriptorInner.{ExtensionDescriptorInner}
use Rattle.pool_types.specs.declared.contents.file.FileDescriptorInner.{FileDescriptorInner}
use Rattle.pool_types.specs.declared.contents.message.MessageDescriptorInner.{MessageDescriptorInner}
use Rattle.pool_types.specs.declared.contents.service.ServiceDescriptorInner.{ServiceDescriptorInner}
use Rattle.record_walk.specs.Changed.{Changes, changed_service}
use Rattle.record_walk.specs.Protos.{Proto, of_extension, of_file, of_message, of_service}
use Rattle.record_walk.specs.Shown.{Shown}
use Rattle.pool_types.specs.Syntaxes.{syntax_at}
use Rattle.name_resolution.specs.declared.filter.ResolveNameFilter.{ResolveNameFilter}
use Rattle.name_resolution.specs.References.{reference_fault}
use Rattle.name_resolution.specs.Resolution.{found}
use Rattle.proto_types.specs.File.{file_at}
use Rattle.reference_pass.specs.Defaults.{field_default, field_default_faults}
use Rattle.reference_pass.specs.Definitions.{enum_record, message_record}
use Rattle.reference_pass.specs.Types.{field_kind, type_faults}
use Rattle.reference_pass.specs.SecondPass.{extension_faults, message_faults, service_faults}
use Rattle.reference_pass.specs.Imports.{import_faults}
use Rattle.reference_pass.specs.Items.{extension_item, file_item, message_item, service_item}
use Rattle.reference_pass.specs.Linked.{linked_extension, linked_field, linking, resolved}
use Rattle.reference_pass.specs.References.{message_found, resolve_message}
use Rattle.reference_pass.specs.Setting.{Setting, resolve, seen_by}

-- each name that means a file means one of them
abbrev pub NamesFiles : List FileDescriptorProto → (List ℕ → Option ℕ) → Type 0
NamesFiles files naming = (name : List ℕ) (n : ℕ) → naming name ≡ Some n → n < length files

-- the imports of files mean the same under two namings
abbrev pub ImportsStay : List FileDescriptorProto → (List ℕ → Option ℕ) → (List ℕ → Option ℕ)
    → Type 0
ImportsStay files before after = (n : ℕ) → n < length files → (name : List ℕ)
    → Contains (file_at files n).dependency name → after name ≡ before name

-- names come, and each file sees what it saw
pub record Grows (s t : Setting) : Type 0 where
  pub names : (name : List ℕ) (def : Definition) → finite.get s.names name ≡ Some def
      → finite.get t.names name ≡ Some def
  pub sees : (n : ℕ) → n < length s.files → seen_by t n ≡ seen_by s n

-- the type of a field breaks nothing, its kind is this one, and linking makes this of the field
pub record IsTyped (t : Setting) (d : Shown) (kind : Option KindIndex)
    (made f : FieldDescriptorProto) : Type 0 where
  pub faults : type_faults t d f ≡ []
  pub kind_is : field_kind t d f ≡ kind
  pub linked_is : linked_field t d.file d.full_name f ≡ made

-- the name of a message that a declaration refers to breaks nothing, means the message with this
-- index, and linking makes this of it
pub record IsMessageName (t : Setting) (d : Shown) (path : List ℤ) (index : Option ℕ)
    (made name : Option (List ℕ)) : Type 0 where
  pub faults : listed
      (reference_fault t.files (text_of name) d.file path (resolve_message t d name)) ≡ []
  pub index_is : message_found (resolve_message t d name) ≡ index
  pub linked_is : resolved (resolve_message t d name) name ≡ made

-- each definition that a name meant has the record of an enum that it had
abbrev pub EnumsStay : Setting → Setting → Type 0
EnumsStay s t = (name : List ℕ) (def : Definition) → finite.get s.names name ≡ Some def
    → enum_record t def ≡ enum_record s def

-- the default value of a field is this one, and breaks nothing
pub record IsDefaulted (t : Setting) (d : Shown) (value : Option DefaultValue)
    (f : FieldDescriptorProto) : Type 0 where
  pub faults : field_default_faults t d f ≡ []
  pub value_is : field_default t d f ≡ value

-- records are left as they are
abbrev pub unchanged : Changes
unchanged = record { field = λ _ _ f. f; extension = λ _ _ x. x; method = λ _ _ m. m }

-- two records of a message with the same ranges
pub record SameRanges (m n : DescriptorProto) : Type 0 where
  pub reserved : (out-DescriptorProto n).reserved_range ≡ (out-DescriptorProto m).reserved_range
  pub extensions : (out-DescriptorProto n).extension_range ≡ (out-DescriptorProto m).extension_range

-- the records of a message, if it has one, have the same ranges
abbrev pub RangesStay : Option DescriptorProto → Option DescriptorProto → Type 0
RangesStay None None = Unit {0}
RangesStay (Some m) (Some n) = SameRanges m n
RangesStay _ _ = ⊥

-- names come, of files too; each file sees what it saw, and has the syntax that it had; what names
-- meant are enums with the records that they had, and messages with the ranges that they had
pub record Rereads (s t : Setting) : Type 0 where
  pub grows : Grows s t
  pub file_names : (name : List ℕ) (n : ℕ) → finite.get s.file_names name ≡ Some n
      → finite.get t.file_names name ≡ Some n
  pub syntaxes : (n : ℕ) → n < length s.files → syntax_at t.files n ≡ syntax_at s.files n
  pub enums : EnumsStay s t
  pub ranges : (name : List ℕ) (def : Definition) → finite.get s.names name ≡ Some def
      → RangesStay (message_record s def) (message_record t def)

-- a reference of a file means what it meant, and that has the record of an enum that it had, or of
-- a message with the same ranges
pub record ReferenceCarriesOver (s t : Setting) (file : ℕ) (scope written : List ℕ)
    (filter : ResolveNameFilter) (name : List ℕ) (def : Definition) : Type 0 where
  pub meaning_is : resolve t file scope filter written ≡ found name def
  pub enum_is : enum_record t def ≡ enum_record s def
  pub ranges : RangesStay (message_record s def) (message_record t def)

-- so do all references of the files below a number that found something; each such file has the
-- syntax that it had, and sees what it saw
pub record Stands (s t : Setting) (many : ℕ) : Type 0 where
  pub references : (file : ℕ) → file < many
      → (scope written : List ℕ) (filter : ResolveNameFilter) (name : List ℕ) (def : Definition)
      → resolve s file scope filter written ≡ found name def
      → ReferenceCarriesOver s t file scope written filter name def
  pub syntaxes : (n : ℕ) → n < many → syntax_at t.files n ≡ syntax_at s.files n
  pub sees : (n : ℕ) → n < many → seen_by t n ≡ seen_by s n

-- a message that is declared where another is
abbrev pub message_at_place : Shown → DescriptorProto → Shown
message_at_place d m = record d { proto = of_message m }

-- the fields of a message break nothing, and its item is this one
pub record IsMessage (t : Setting) (d : Shown) (item : MessageDescriptorInner)
    (m : DescriptorProto) : Type 0 where
  pub faults : message_faults t (message_at_place d m) m ≡ []
  pub item_is : message_item t (message_at_place d m) m ≡ item

-- an extension that is declared where another is
abbrev pub extension_at_place : Shown → FieldDescriptorProto → Shown
extension_at_place d x = record d { proto = of_extension x }

-- an extension breaks nothing behind earlier ones, its item is this one, and linking makes this of
-- it
pub record IsExtension (t : Setting) (earlier : List ExtensionDescriptorInner) (d : Shown)
    (item : ExtensionDescriptorInner) (made x : FieldDescriptorProto) : Type 0 where
  pub faults : extension_faults t earlier d x ≡ []
  pub item_is : extension_item t (extension_at_place d x) x ≡ item
  pub linked_is : linked_extension t d.file d.full_name x ≡ made

-- a service that is declared where another is
abbrev pub service_at_place : Shown → ServiceDescriptorProto → Shown
service_at_place d v = record d { proto = of_service v }

-- the methods of a service break nothing, its item is this one, and linking makes this of it
pub record IsService (t : Setting) (d : Shown) (item : ServiceDescriptorInner)
    (made v : ServiceDescriptorProto) : Type 0 where
  pub faults : service_faults t d v ≡ []
  pub item_is : service_item t (service_at_place d v) v ≡ item
  pub linked_is : changed_service (linking t) d.file d.full_name v ≡ made

-- the imports of a file break nothing, and its item is this one, with its linked record
pub record IsFile (t : Setting) (index : ℕ) (item : FileDescriptorInner)
    (f : FileDescriptorProto) : Type 0 where
  pub faults : import_faults t index f ≡ []
  pub item_is : file_item t index f ≡ item

-- each of these names of files means the file that it meant
abbrev pub NamesStay : Setting → Setting → List (List ℕ) → Type 0
NamesStay s t = AllByRecursion (λ name. (n : ℕ) → finite.get s.file_names name ≡ Some n
    → finite.get t.file_names name ≡ Some n)

-- so do the imports of a file; of other records nothing is asked
abbrev pub ImportsMean : Setting → Setting → Proto → Type 0
ImportsMean s t (of_file f) = NamesStay s t f.dependency
ImportsMean s t _ = Unit {0}
