-- Tables of names, by what they mean of files.
use Rattle.std.specs.Prelude.{◌≡◌, ℕ, Bool, false, true, is_some, List, [], ◌∷◌, ◌++◌}
use Rattle.std.specs.Prelude.{map as map_each, if◌then◌else◌}
use Rattle.std.specs.FinMap as map
use Rattle.std.specs.List.{filter, position_from}
use Rattle.std.specs.Option.{option_or}
use Rattle.std.specs.declared.option.Option.TheVariants.{None, Some}
use Rattle.pool_types.specs.Contents.{ByText}
use Rattle.proto_types.specs.Names.{join}
use Rattle.proto_types.specs.Readers.{text_of}
use Rattle.proto_types.specs.declared.file.FileDescriptorProto.{FileDescriptorProto}
use Rattle.proto_types.specs.declared.message.DescriptorProto.{DescriptorProto, out-DescriptorProto}
use Rattle.proto_types.specs.declared.records.enumeration.EnumDescriptorProto.{EnumDescriptorProto}
use Rattle.proto_types.specs.declared.tag.message.TheConstants as message
use Rattle.record_walk.specs.Counts.{no_counts}
use Rattle.record_walk.specs.Declarations.{messages_walk}
use Rattle.verdict_texts.specs.Known.{declares, has_name, is_among, site, type_names, types_of}
use Rattle.verdict_texts.specs.declared.known.DeclaredTypes.{DeclaredTypes}
use Rattle.verdict_texts.specs.declared.known.NamedFiles.{NamedFiles}

-- names have the positions of the first files that have them, and no others
abbrev pub AreFirst : ByText ℕ → List FileDescriptorProto → Type 0
AreFirst first files =
    (name : List ℕ) → map.get first name ≡ position_from (has_name name) 0 files

-- whether a list has two entries or more
abbrev pub are_several : {X : Type 0} → List X → Bool
are_several [] = false
are_several (x ∷ []) = false
are_several (x ∷ y ∷ ys) = true

-- names are those that several files have
abbrev pub AreSeveral : ByText ℕ → List FileDescriptorProto → Type 0
AreSeveral several files = (name : List ℕ) → is_some (map.get several name)
    ≡ are_several (filter (has_name name) files)

-- tables have the names of files: the first file of each, and those that several files have
pub record AreNamed (named : NamedFiles) (files : List FileDescriptorProto) : Type 0 where
  pub first : AreFirst named.first files
  pub several : AreSeveral named.several files

-- names have the positions of the first files that declare them, and no others
abbrev pub AreDeclaring : ByText ℕ → List FileDescriptorProto → Type 0
AreDeclaring names files =
    (name : List ℕ) → map.get names name ≡ position_from (declares name) 0 files

-- names of messages and enums are those that files declare
pub record AreDeclared (types : DeclaredTypes) (files : List FileDescriptorProto) : Type 0 where
  pub first : AreDeclaring types.first files
  pub names : types.names ≡ types_of files

-- names were entered with a position: each has it that had none
abbrev pub Enters : ByText ℕ → ByText ℕ → ℕ → List (List ℕ) → Type 0
Enters old new at names = (name : List ℕ) → map.get new name
    ≡ option_or (map.get old name) (if is_among name names then Some at else None)

-- the full names of enums in a scope
abbrev pub enum_names : List ℕ → List EnumDescriptorProto → List (List ℕ)
enum_names scope enums = map_each (λ e. join scope (text_of e.name)) enums

-- the full names of messages in a scope, and of all messages and enums in them
abbrev pub types_in : List ℕ → List DescriptorProto → List (List ℕ)
types_in scope messages =
    type_names (messages_walk (site [] scope) message.NESTED_TYPE 0 no_counts messages)

-- the full name of a message, and those of all messages and enums in it
abbrev pub message_types : List ℕ → DescriptorProto → List (List ℕ)
message_types full m = full ∷ (types_in full (out-DescriptorProto m).nested_type
    ++ enum_names full (out-DescriptorProto m).enum_type)
