-- What is told beside a fault: where a name that is not seen is declared, how to write one that
-- nothing has, which index is no position, or else what to do.
use Rattle.std.specs.Prelude.{ℕ, Bool, false, ◌||◌, List, ◌++◌, codes, is_some, map, unwrap_or}
use Rattle.std.specs.Prelude.{if◌then◌else◌}
use Rattle.std.specs.List.{after_first, before_last, find, list_any}
use Rattle.std.specs.Option.{option_map, option_map_or, option_and_then, option_or}
use Rattle.std.specs.Str.{bytes_eq}
use Rattle.std.specs.declared.option.Option.{Option}
use Rattle.std.specs.declared.option.Option.TheVariants.{None, Some}
use Rattle.proto_types.specs.Names.{first_part, is_dot, join}
use Rattle.proto_types.specs.Readers.{text_of}
use Rattle.proto_types.specs.declared.file.FileDescriptorProto.{FileDescriptorProto}
use Rattle.pool_faults.specs.declared.label.Label.{Label}
use Rattle.pool_faults.specs.declared.fault.DescriptorErrorKind.{DescriptorErrorKind}
use Rattle.pool_faults.specs.declared.fault.DescriptorErrorKind.TheVariants as fault
use Rattle.name_resolution.specs.Parents.{outer}
use Rattle.verdict_texts.specs.FaultKinds.{fault_kind}
use Rattle.verdict_texts.specs.Indexes.{index_note}
use Rattle.verdict_texts.specs.Known.{declaring_file, has_package, only, types_of}
use Rattle.verdict_texts.specs.Scopes.{scope_of}
use Rattle.verdict_texts.specs.Suggestions.{last_part, suggested}

-- whether a file, if there is one, imports another
abbrev pub is_imported : Option FileDescriptorProto → List ℕ → Bool
is_imported importing file =
    option_map_or (λ f. list_any (λ own. bytes_eq own file) f.dependency) importing false

-- whether a file is another one, or imported by it
abbrev pub is_near : List FileDescriptorProto → List ℕ → List ℕ → Bool
is_near files from file = bytes_eq file from || is_imported (only files from) file

-- the name of a file, unless it is near
abbrev pub if_far : List FileDescriptorProto → List ℕ → List ℕ → Option (List ℕ)
if_far files from file = if is_near files from file then None else Some file

-- the first file that declares a name, unless it is near
abbrev pub far_file : List FileDescriptorProto → List ℕ → List ℕ → Option (List ℕ)
far_file files from name =
    option_and_then (λ f. if_far files from (text_of f.name))
    (declaring_file files name)

-- a name that is declared in a file that is not imported
abbrev pub import_words : List ℕ → List ℕ → List ℕ → List ℕ
import_words name from file =
    codes "'" ++ (name ++ (codes "' is declared in '" ++ (file ++ (codes "', which '" ++ (from
    ++ codes "' does not import")))))

-- what is told of a name that a file does not see
abbrev pub import_note : List FileDescriptorProto → List ℕ → List ℕ → Option (List ℕ)
import_note files from name =
    option_map (import_words name from) (far_file files from name)

-- the first name that a file declares, of those that a name could mean from a scope out
abbrev pub meant : List FileDescriptorProto → List ℕ → List ℕ → Option (List ℕ)
meant files scope name =
    find (λ n. is_some (declaring_file files n)) (map (λ s. join s name) (outer scope))

-- that a file is not imported, unless it is near
abbrev pub far_words : List FileDescriptorProto → List ℕ → List ℕ → List ℕ
far_words files from file = if is_near files from file then codes ""
    else codes ", which '" ++ (from ++ codes "' does not import")

-- how to write a name so that it means what a file declares
abbrev pub dotted_words : List ℕ → List ℕ → List ℕ → List ℕ
dotted_words name file far =
    codes "write '."
    ++ (name ++ (codes "' to mean what '" ++ (file ++ (codes "' declares" ++ far))))

-- the same, by the first file that declares it
abbrev pub dotted_note : List FileDescriptorProto → List ℕ → List ℕ → Option (List ℕ)
dotted_note files from name = option_map
    (λ f. dotted_words name (text_of f.name) (far_words files from (text_of f.name)))
    (declaring_file files name)

-- which scope hides what a name means, and how to write it
abbrev pub nearer_words : List ℕ → List ℕ → List ℕ → List ℕ
nearer_words scope name dotted = codes "'" ++ (scope ++ (codes "' has a nearer '"
    ++ (first_part name ++ (codes "': " ++ dotted))))

-- what is told of a name that means something nearer, by the full name that it resolves to
abbrev pub shadowed_note :
    List FileDescriptorProto → List ℕ → List ℕ → List ℕ → Option (List ℕ)
shadowed_note files from name full = option_and_then
    (λ scope. option_map (nearer_words scope name)
    (option_and_then (dotted_note files from) (meant files scope name)))
    (scope_of full name)

-- how to write a name that nothing has, so that it means what it could mean
abbrev pub suggestion_note :
    List FileDescriptorProto → List ℕ → List ℕ → Option (List ℕ)
suggestion_note files from name =
    option_and_then (dotted_note files from) (suggested (types_of files) name)

-- that something is there, and that it has no part of a name
abbrev pub lacking_words : List ℕ → List ℕ → List ℕ
lacking_words scope part =
    codes "'" ++ (scope ++ (codes "' is there, and has no '" ++ (part ++ codes "'")))

-- whether a package, a message or an enum has a full name
abbrev pub is_there : List FileDescriptorProto → List ℕ → Bool
is_there files name = list_any (has_package name) files || is_some (declaring_file files name)

-- what is there of a full name that nothing has: all but its last part, or else its first part
abbrev pub there_words : List FileDescriptorProto → List ℕ → List ℕ
there_words files name = if is_there files (before_last is_dot name)
    then lacking_words (before_last is_dot name) (last_part name)
    else lacking_words (first_part name) (after_first is_dot name)

-- words, and others behind a semicolon if there are some
abbrev pub with_words : List ℕ → Option (List ℕ) → List ℕ
with_words words more = option_map_or (λ m. words ++ (codes "; " ++ m)) more words

-- what is told of a name that resolves to itself
abbrev pub itself_note : List FileDescriptorProto → List ℕ → List ℕ → List ℕ
itself_note files from name =
    with_words (there_words files name) (suggestion_note files from name)

-- what is told of a name that resolves to a full name which isn't defined: to itself, or to one in
-- a nearer scope
unfoldable pub undefined_note :
    List FileDescriptorProto → List ℕ → List ℕ → List ℕ → Option (List ℕ)
undefined_note files from name full = if bytes_eq name full
    then Some (itself_note files from name) else shadowed_note files from name full

-- what a look at the files tells of a fault at a place
abbrev pub looked_up : List FileDescriptorProto → DescriptorErrorKind → Option Label
    → Option (List ℕ)
looked_up files (fault.NameNotFound name found) place =
    option_or (import_note files found.file name) (suggestion_note files found.file name)
looked_up files (fault.NameShadowed name full found) place =
    undefined_note files found.file name full
looked_up files fault.InvalidImportIndex place = option_and_then (index_note files) place
looked_up files fault.InvalidOneofIndex place = option_and_then (index_note files) place
looked_up files _ place = None

-- what is told beside a fault at a place
abbrev pub note : List FileDescriptorProto → DescriptorErrorKind → Option Label → List ℕ
note files f place = unwrap_or (looked_up files f place) (fault_kind f).remedy
