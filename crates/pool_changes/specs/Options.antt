-- Options of files that name code, read of their bytes.
use Rattle.std.specs.Prelude.{ℕ, Bool, true, false, List, [], ◌∷◌, length, Result, Ok, Err, Option}
use Rattle.std.specs.Prelude.{Some, None, option_map, option_and_then, unwrap_or, codes, ◌==◌}
use Rattle.std.specs.Prelude.{if◌then◌else◌}
use Rattle.std.specs.List.{flat_map}
use Rattle.std.specs.Str.{bytes_eq, is_utf8}
use Rattle.wire_format.specs.declared.fault.WireFault.{WireFault}
use Rattle.wire_format.specs.Tokens.{Value, Varint, Len}
use Rattle.descriptor_decoding.specs.Merging.{Merge, merged_from, by_number, row}
use Rattle.proto_types.specs.declared.file.FileDescriptorProto.{FileDescriptorProto}
use Rattle.pool_types.specs.Contents.{Contents}
use Rattle.pool_types.specs.declared.contents.file.FileDescriptorInner.{FileDescriptorInner}
use Rattle.verdict_texts.specs.declared.telling.ToldFault.{ToldFault}
use Rattle.pool_changes.specs.Sides.{Versions, Side, file_told, writer, reader, differing}
use Rattle.pool_changes.specs.declared.kinds.ElementChange.TheVariants as element
use Rattle.pool_changes.specs.declared.options.CodeOption.{CodeOption}
use Rattle.pool_changes.specs.declared.options.CodeOption.TheVariants as option

-- the options, in the order of their numbers
unfoldable pub code_options : List CodeOption
code_options =
    option.JavaPackage
    ∷ option.JavaOuterClassname
    ∷ option.JavaMultipleFiles
    ∷ option.GoPackage
    ∷ option.CcGenericServices
    ∷ option.JavaGenericServices
    ∷ option.PyGenericServices
    ∷ option.ObjcClassPrefix
    ∷ option.CsharpNamespace
    ∷ option.SwiftPrefix
    ∷ option.PhpClassPrefix
    ∷ option.PhpNamespace
    ∷ option.PhpGenericServices
    ∷ option.PhpMetadataNamespace
    ∷ option.RubyPackage ∷ []

-- the number of an option (descriptor.proto, `FileOptions`)
abbrev pub option_number : CodeOption → ℕ
option_number option.JavaPackage = 1
option_number option.JavaOuterClassname = 8
option_number option.JavaMultipleFiles = 10
option_number option.GoPackage = 11
option_number option.CcGenericServices = 16
option_number option.JavaGenericServices = 17
option_number option.PyGenericServices = 18
option_number option.ObjcClassPrefix = 36
option_number option.CsharpNamespace = 37
option_number option.SwiftPrefix = 39
option_number option.PhpClassPrefix = 40
option_number option.PhpNamespace = 41
option_number option.PhpGenericServices = 42
option_number option.PhpMetadataNamespace = 44
option_number option.RubyPackage = 45

-- whether the value of an option is a text; else it is a truth value
abbrev pub is_text : CodeOption → Bool
is_text option.JavaPackage = true
is_text option.JavaOuterClassname = true
is_text option.JavaMultipleFiles = false
is_text option.GoPackage = true
is_text option.CcGenericServices = false
is_text option.JavaGenericServices = false
is_text option.PyGenericServices = false
is_text option.ObjcClassPrefix = true
is_text option.CsharpNamespace = true
is_text option.SwiftPrefix = true
is_text option.PhpClassPrefix = true
is_text option.PhpNamespace = true
is_text option.PhpGenericServices = false
is_text option.PhpMetadataNamespace = true
is_text option.RubyPackage = true

-- the words for an option that is given: a text stands behind them
abbrev pub given_words : CodeOption → List ℕ
given_words option.JavaPackage = codes "java_package "
given_words option.JavaOuterClassname = codes "java_outer_classname "
given_words option.JavaMultipleFiles = codes "java_multiple_files"
given_words option.GoPackage = codes "go_package "
given_words option.CcGenericServices = codes "cc_generic_services"
given_words option.JavaGenericServices = codes "java_generic_services"
given_words option.PyGenericServices = codes "py_generic_services"
given_words option.ObjcClassPrefix = codes "objc_class_prefix "
given_words option.CsharpNamespace = codes "csharp_namespace "
given_words option.SwiftPrefix = codes "swift_prefix "
given_words option.PhpClassPrefix = codes "php_class_prefix "
given_words option.PhpNamespace = codes "php_namespace "
given_words option.PhpGenericServices = codes "php_generic_services"
given_words option.PhpMetadataNamespace = codes "php_metadata_namespace "
given_words option.RubyPackage = codes "ruby_package "

-- the words for one that is not given, or is false
abbrev pub missing_words : CodeOption → List ℕ
missing_words option.JavaPackage = codes "no java_package"
missing_words option.JavaOuterClassname = codes "no java_outer_classname"
missing_words option.JavaMultipleFiles = codes "no java_multiple_files"
missing_words option.GoPackage = codes "no go_package"
missing_words option.CcGenericServices = codes "no cc_generic_services"
missing_words option.JavaGenericServices = codes "no java_generic_services"
missing_words option.PyGenericServices = codes "no py_generic_services"
missing_words option.ObjcClassPrefix = codes "no objc_class_prefix"
missing_words option.CsharpNamespace = codes "no csharp_namespace"
missing_words option.SwiftPrefix = codes "no swift_prefix"
missing_words option.PhpClassPrefix = codes "no php_class_prefix"
missing_words option.PhpNamespace = codes "no php_namespace"
missing_words option.PhpGenericServices = codes "no php_generic_services"
missing_words option.PhpMetadataNamespace = codes "no php_metadata_namespace"
missing_words option.RubyPackage = codes "no ruby_package"

-- what a value makes of a text that was read: its bytes count
abbrev pub text_merged : Value → Option (List ℕ) → Option (List ℕ)
text_merged (Len bytes ends) part = Some bytes
text_merged _ part = part

-- what a value makes of a truth value that was read: a true one is no bytes
abbrev pub flag_merged : Value → Option (List ℕ) → Option (List ℕ)
flag_merged (Varint n) part = if n == 0 then None else Some []
flag_merged _ part = part

-- what a value makes of an option; one of another wire type than the option's counts nothing
abbrev pub option_merged : Bool → Value → Option (List ℕ) → Option (List ℕ)
option_merged is_text v part = if is_text then text_merged v part else flag_merged v part

-- of the values of an option the last one counts
unfoldable pub value_merged : CodeOption → Merge (Option (List ℕ))
value_merged o n v part =
    by_number n part (row (option_number o) (Ok (option_merged (is_text o) v part)) (λ x. x) ∷ [])

-- the bytes of an option that was read, or none where none was, or the first fault
abbrev pub option_of : CodeOption → List ℕ → Result (Option (List ℕ)) WireFault
option_of o bytes = merged_from 100 (value_merged o) (length bytes) bytes None

-- bytes as a text, if they are one
abbrev pub as_text : List ℕ → Option (List ℕ)
as_text bytes = if is_utf8 bytes then Some bytes else None

-- the text of an option that was read
abbrev pub text_read : Result (Option (List ℕ)) WireFault → Option (List ℕ)
text_read (Ok value) = option_and_then as_text value
text_read (Err f) = None

-- the bytes of the options of a file
abbrev pub encoded_options : FileDescriptorProto → List ℕ
encoded_options f = unwrap_or (option_map (λ o. o.encoded) f.options) []

-- an option with its text, or that there is none, as a side
abbrev pub given_side : Contents → FileDescriptorInner → CodeOption → Option (List ℕ) → Side
given_side p f o (Some text) = file_told p f (given_words o) text
given_side p f o None = file_told p f (missing_words o) []

-- an option of a file, as a side
abbrev pub option_side : Contents → FileDescriptorInner → CodeOption → Side
option_side p f o = given_side p f o (text_read (option_of o (encoded_options f.raw)))

-- what changes of an option of two files
abbrev pub option_changes : Versions → FileDescriptorInner → FileDescriptorInner → CodeOption
    → List ToldFault
option_changes v f g o =
    differing v element.OptionChanged (option_side (writer v) f o) (option_side (reader v) g o)

-- what changes of the options of two files that name code, if the bytes of the options differ
abbrev pub options_changes : Versions → FileDescriptorInner → FileDescriptorInner → List ToldFault
options_changes v f g = if bytes_eq (encoded_options f.raw) (encoded_options g.raw) then []
    else flat_map (option_changes v f g) code_options
