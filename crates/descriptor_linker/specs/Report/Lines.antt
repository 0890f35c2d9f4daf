-- What the commands of a script answer, each line with its end.
use Rattle.std.specs.Prelude.{ℕ, List, [], ◌∷◌, ◌++◌, length, map, codes}
use Rattle.std.specs.List.{flat_map, find}
use Rattle.std.specs.Fmt.{decimal}
use Rattle.std.specs.Option.{option_map_or}
use Rattle.std.specs.Str.{bytes_eq}
use Rattle.std.specs.declared.option.Option.{Option}
use Rattle.proto_types.specs.Readers.{text_of}
use Rattle.proto_types.specs.declared.file.FileDescriptorProto.{FileDescriptorProto}
use Rattle.pool_types.specs.declared.contents.definition.Definition.{Definition}
use Rattle.pool_types.specs.declared.contents.definition.DefinitionKind.{DefinitionKind}
use Rattle.pool_types.specs.declared.contents.definition.DefinitionKind.TheVariants as definition
use Rattle.pool_faults.specs.Fault.{path_text, labelled_text}
use Rattle.pool_faults.specs.declared.fault.DescriptorErrorKind.{DescriptorErrorKind}
use Rattle.record_walk.specs.declared.counts.Counts.{Counts}
use Rattle.record_walk.specs.declared.counts.CountKind.{CountKind}
use Rattle.record_walk.specs.declared.declaration.Declaration.{Declaration}
use Rattle.record_walk.specs.Counts.{no_counts}
use Rattle.record_walk.specs.Declarations.{declarations}
use Rattle.record_walk.specs.Declaration.{declaration_of}
use Rattle.record_walk.specs.Words.{alone, count_word, declared_word}
use Rattle.link_script.specs.declared.script.statement.ScriptFault.{ScriptFault}
use Rattle.link_script.specs.Script.Faults.{fault_words}
use Rattle.record_lists.specs.Reference.{Reference, references}

-- words with a space between each two, and the end of the line
abbrev pub line : List (List ℕ) → List ℕ
line [] = 10 ∷ []
line (w ∷ []) = w ++ 10 ∷ []
line (w ∷ v ∷ ws) = w ++ 32 ∷ line (v ∷ ws)

-- the line that tells how many files, messages, enums, services and extensions there are
abbrev pub counts_line : Counts → List ℕ
counts_line c =
    line (codes "ok" ∷ decimal c.files ∷ decimal c.messages ∷ decimal c.enums ∷ decimal c.services
    ∷ decimal c.extensions ∷ [])

-- the line that tells how many faults there are, and a line for each
abbrev pub refused_lines : List DescriptorErrorKind → List ℕ
refused_lines faults = line (codes "refused" ∷ decimal (length faults) ∷ [])
    ++ flat_map (λ f. line (labelled_text f ∷ [])) faults

-- the line that tells of what there is too much
abbrev pub too_many_line : CountKind → List ℕ
too_many_line kind = line (codes "too" ∷ codes "many" ∷ count_word kind ∷ [])

-- the words for the kind of a definition and the index that it holds
abbrev pub kind_words : DefinitionKind → List ℕ
kind_words definition.Package = codes "package"
kind_words (definition.Message m) = codes "message " ++ decimal m
kind_words (definition.Field m) = codes "field " ++ decimal m
kind_words (definition.Oneof m) = codes "oneof " ++ decimal m
kind_words (definition.Service s) = codes "service " ++ decimal s
kind_words (definition.Method s) = codes "method " ++ decimal s
kind_words (definition.Enum e) = codes "enum " ++ decimal e
kind_words (definition.EnumValue e) = codes "value " ++ decimal e
kind_words (definition.Extension x) = codes "extension " ++ decimal x

-- the line of an answer where there is nothing
abbrev pub none_line : List ℕ
none_line = line (codes "none" ∷ [])

-- the line of a definition: its kind, the name of its file, and its path
abbrev pub definition_line : List ℕ → Definition → List ℕ
definition_line file def = line (kind_words def.kind ∷ alone file ∷ path_text def.path ∷ [])

-- the line of an extension: its index and its full name
abbrev pub extension_line : ℕ → List ℕ → List ℕ
extension_line index name = line (codes "extension" ∷ decimal index ∷ alone name ∷ [])

-- the line of a declaration: its kind, its own index, its full name and its path
abbrev pub declaration_line : Declaration → List ℕ
declaration_line d =
    line (declared_word d.kind ∷ decimal d.index ∷ alone d.full_name ∷ path_text d.path ∷ [])

-- the line that tells how many declarations there are, and a line for each
abbrev pub declaration_lines : List Declaration → List ℕ
declaration_lines ds = line (codes "walk" ∷ decimal (length ds) ∷ [])
    ++ flat_map declaration_line ds

-- the answer of `walk`: how many declarations the files have, and a line for each
abbrev pub walk_answer : List FileDescriptorProto → List ℕ
walk_answer files = declaration_lines (map declaration_of (declarations no_counts files))

-- the line of a reference: the full name of the declaration that refers, the part of its record,
-- and the text there
abbrev pub reference_line : Reference → List ℕ
reference_line r = line (alone r.full_name ∷ r.part ∷ r.text ∷ [])

-- the line that tells how many references there are, and a line for each
abbrev pub reference_lines : List Reference → List ℕ
reference_lines rs = line (codes "refs" ∷ decimal (length rs) ∷ []) ++ flat_map reference_line rs

-- the first file with a name
abbrev pub file_named : List FileDescriptorProto → List ℕ → Option FileDescriptorProto
file_named files name = find (λ f. bytes_eq (text_of f.name) name) files

-- the answer of `refs`: the references of the linked record of the first file with a name, or
-- `none`
abbrev pub refs_answer : List FileDescriptorProto → List ℕ → List ℕ
refs_answer files name = option_map_or (λ f. reference_lines (references (f ∷ [])))
    (file_named files name) none_line

-- the last line of a report, where the script has a fault
abbrev pub fault_line : ℕ × ScriptFault → List ℕ
fault_line f = codes "line " ++ (decimal f.0 ++ (codes ": " ++ line (fault_words f.1 ∷ [])))
