-- What is told of each kind of fault, a row for each.
use Rattle.std.specs.Prelude.{ℕ, ℤ, ◌-◌, Bool, false, true, ◌==◌, ◌&&◌, ◌||◌, List, [], ◌++◌, codes}
use Rattle.std.specs.Prelude.{length, slice_get, if◌then◌else◌}
use Rattle.std.specs.Option.{option_map, option_map_or}
use Rattle.std.specs.Ordering.{int_eq}
use Rattle.std.specs.Str.{bytes_eq}
use Rattle.std.specs.declared.option.Option.{Option}
use Rattle.std.specs.declared.option.Option.TheVariants.{None, Some}
use Rattle.proto_types.specs.declared.tag.file.TheConstants as file
use Rattle.proto_types.specs.declared.tag.message.TheConstants as message
use Rattle.proto_types.specs.declared.tag.enum_.TheConstants as enumeration
use Rattle.pool_faults.specs.declared.label.Label.{Label}
use Rattle.pool_faults.specs.declared.fault.DescriptorErrorKind.{DescriptorErrorKind}
use Rattle.pool_faults.specs.declared.fault.DescriptorErrorKind.TheVariants as fault
use Rattle.verdict_texts.specs.declared.fault_kinds.FaultKind.{FaultKind}

-- what is told of a kind: its name, the words before its second place and the label of that, if it
-- has one, and what to do
pub record ToldKind : Type 0 where
  pub code : List ℕ
  pub second : Option (List ℕ × Label)
  pub remedy : List ℕ

-- the same, as code has it
abbrev pub told_kind : FaultKind → ToldKind
told_kind k = record {
  code = k.code.now;
  second = option_map (λ s. (s.words.now, s.label.now)) k.second;
  remedy = k.remedy.now;
}

-- a kind without a second place
abbrev pub alone : List ℕ → List ℕ → ToldKind
alone code remedy = record { code = code; second = None; remedy = remedy }

-- a kind with a second place, and with the words before it
abbrev pub beside : List ℕ → List ℕ → Label → List ℕ → ToldKind
beside code words label remedy =
    record { code = code; second = Some (words, label); remedy = remedy }

-- a kind whose second place is that of the first holder
abbrev pub held : List ℕ → Label → List ℕ → ToldKind
held code = beside code (codes "first declared at ")

-- a kind whose second place is that of a range
abbrev pub ranged : List ℕ → Label → List ℕ → ToldKind
ranged code = beside code (codes "the range is declared at ")

-- what to do about an index that is no position
abbrev pub no_such_index : List ℕ
no_such_index = codes "protoc makes no such index: look for it with `protoc --decode`"

-- what to do about a number that another part has
abbrev pub other_number : List ℕ
other_number = codes "take another number"

-- what to do about a number that is reserved
abbrev pub not_reserved : List ℕ
not_reserved = codes "take a number that is not reserved"

-- whether a number stands so many places before the end of a path
abbrev pub is_at : List ℤ → ℕ → ℤ → Bool
is_at path places number =
    option_map_or (λ found. int_eq found number) (slice_get path (length path - places)) false

-- whether what a path leads to belongs to a declaration of a list: by the number of that list in a
-- file, or else in a message
abbrev pub is_of_list : List ℤ → ℤ → ℤ → Bool
is_of_list path of_file of_message =
    is_at path 3 (if length path == 3 then of_file else of_message)

-- whether a path leads to the name of a package
abbrev pub is_of_package : List ℤ → Bool
is_of_package path = length path == 1

-- whether it leads to the name of a message
abbrev pub is_of_message : List ℤ → Bool
is_of_message path = is_of_list path file.MESSAGE_TYPE message.NESTED_TYPE

-- whether it leads to a part of an extension
abbrev pub is_of_extension : List ℤ → Bool
is_of_extension path = is_of_list path file.EXTENSION message.EXTENSION

-- whether it leads to the name of a oneof
abbrev pub is_of_oneof : List ℤ → Bool
is_of_oneof path = is_at path 3 message.ONEOF_DECL

-- whether it leads to the name of a method
abbrev pub is_of_method : List ℤ → Bool
is_of_method path = length path == 5 && is_at path 5 file.SERVICE

-- whether it leads to the name of a value of an enum, which stands in a file or in a message
abbrev pub is_of_value : List ℤ → Bool
is_of_value path =
    is_at path 5 (if length path == 5 then file.ENUM_TYPE else message.ENUM_TYPE)
    && is_at path 3 enumeration.VALUE

-- what to do about a name that is declared twice in one file, by the paths of both names
abbrev pub rename_words : List ℤ → List ℤ → List ℕ
rename_words first second =
    if is_of_value first || is_of_value second
    then codes "rename one; begin the name of a value with that of its enum, since values stand "
    ++ codes "beside their enum"
    else (if is_of_oneof first || is_of_oneof second
    then codes "rename one: a oneof stands among the fields of its message"
    else (if is_of_method first
    then codes "rename one: a service has one method of a name, whatever it takes"
    else (if is_of_message first && is_of_message second
    then codes "rename one: a group makes a message of its name, and a map one whose name ends "
    ++ codes "with `Entry`"
    else codes "rename one")))

-- what to do about a name that is declared twice: by a package and something else, in two files, or
-- in one
abbrev pub rename_remedy : Label → Label → List ℕ
rename_remedy first second =
    if is_of_package first.path || is_of_package second.path
    then codes "rename one: a package shares its name with nothing else"
    else (if bytes_eq first.file second.file then rename_words first.path second.path
    else codes "rename one; where all names of a file clash, it is given under two names")

-- what to do about a default value that is none of a type, by the word for the type
abbrev pub default_remedy : List ℕ → List ℕ
default_remedy kind = if bytes_eq kind (codes "message type")
    then codes "leave it out: a message has no default value" else codes "write a value of the type"

-- what to do about the number of an extension that no extension range has, or of a field that has
-- an extendee
abbrev pub range_remedy : Label → List ℕ
range_remedy found = if is_at found.path 3 message.FIELD
    then codes "leave its extendee out: it is a field, and no extension"
    else codes "take a number of an extension range of the message; where it has none, give it one "
    ++ codes "by `extensions`"

-- what to do about an empty name
abbrev pub empty_remedy : Label → List ℕ
empty_remedy found = if is_of_extension found.path
    then codes "say what it extends: an extension has an extendee"
    else codes "give the name: it is empty"

-- what to do about a name that nothing has
abbrev pub missing_remedy : List ℕ → Label → List ℕ
missing_remedy name found = if bytes_eq name [] then empty_remedy found
    else codes "mend the name, or give and import the file that declares it"

-- the kind of a fault
abbrev pub fault_kind : DescriptorErrorKind → ToldKind
fault_kind (fault.MissingRequiredField _) = alone (codes "MissingRequiredField")
    (codes "give the type name: a message, a group or an enum needs one")
fault_kind (fault.UnknownSyntax _ _) = alone (codes "UnknownSyntax")
    (codes "proto2 and proto3 are read; of a file of an edition nothing is")
fault_kind (fault.DuplicateFileName _) = alone (codes "DuplicateFileName")
    (codes "the sets have unequal files of that name: give one of them")
fault_kind (fault.FileNotFound _ _) = alone (codes "FileNotFound")
    (codes "give it too, as `protoc --include_imports` does, or under the name that is imported")
fault_kind fault.InvalidImportIndex = alone (codes "InvalidImportIndex") no_such_index
fault_kind fault.InvalidOneofIndex = alone (codes "InvalidOneofIndex") no_such_index
fault_kind (fault.DuplicateName _ first second) =
    held (codes "DuplicateName") first (rename_remedy first second)
fault_kind (fault.DuplicateFieldNumber _ first _) =
    held (codes "DuplicateFieldNumber") first other_number
fault_kind (fault.DuplicateFieldJsonName _ first _) = held (codes "DuplicateFieldJsonName") first
    (codes "set another json_name: protoc gives `user_id` and `userId` the same one")
fault_kind (fault.DuplicateFieldCamelCaseName _ _ first _) =
    held (codes "DuplicateFieldCamelCaseName") first
    (codes "rename one: in proto3 names differ by more than case and underscores")
fault_kind (fault.InvalidFieldNumber _ _) = alone (codes "InvalidFieldNumber")
    (codes "take a number from 1 to 536,870,911, but none from 19,000 to 19,999")
fault_kind (fault.FieldNumberInReservedRange _ _ _ defined _) =
    ranged (codes "FieldNumberInReservedRange") defined not_reserved
fault_kind (fault.FieldNumberInExtensionRange _ _ _ defined _) =
    ranged (codes "FieldNumberInExtensionRange") defined
    (codes "take a number that is not left to extensions")
fault_kind (fault.ExtensionNumberOutOfRange _ _ found) =
    alone (codes "ExtensionNumberOutOfRange") (range_remedy found)
fault_kind (fault.DuplicateExtensionNumber _ _ first _) =
    held (codes "DuplicateExtensionNumber") first other_number
fault_kind (fault.NameNotFound name found) =
    alone (codes "NameNotFound") (missing_remedy name found)
fault_kind (fault.NameShadowed _ _ _) = alone (codes "NameShadowed")
    (codes "a nearer scope has its first part: mend it, or write a leading dot and the full name")
fault_kind (fault.InvalidType _ _ _ defined) =
    beside (codes "InvalidType") (codes "it is declared at ") defined
    (codes "mend it; where a nearer name hides it, write a leading dot and the full name")
fault_kind (fault.InvalidFieldDefault _ kind _) =
    alone (codes "InvalidFieldDefault") (default_remedy kind)
fault_kind (fault.EmptyEnum _) = alone (codes "EmptyEnum") (codes "add a value")
fault_kind (fault.InvalidProto3EnumDefault _) =
    alone (codes "InvalidProto3EnumDefault") (codes "put the value with the number 0 first")
fault_kind (fault.DuplicateEnumNumber _ first _) = held (codes "DuplicateEnumNumber") first
    (codes "take another number, or set the option allow_alias")
fault_kind (fault.EnumNumberInReservedRange _ _ _ defined _) =
    ranged (codes "EnumNumberInReservedRange") defined not_reserved

-- the second place of a fault, if its kind has one
abbrev pub related_label : DescriptorErrorKind → Option Label
related_label f = option_map (λ s. s.1) (fault_kind f).second

-- whether a fault is of a reference
abbrev pub is_of_reference : DescriptorErrorKind → Bool
is_of_reference (fault.NameNotFound _ _) = true
is_of_reference (fault.NameShadowed _ _ _) = true
is_of_reference _ = false
