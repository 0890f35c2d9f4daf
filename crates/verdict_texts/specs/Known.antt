-- What is known of files by names: the file of a name, and the file that declares one.
use Rattle.std.specs.Prelude.{ℕ, ℤ, Bool, ◌||◌, is_some, List, [], ◌∷◌}
use Rattle.std.specs.List.{filter, find, flat_map, list_any}
use Rattle.std.specs.Str.{bytes_eq}
use Rattle.std.specs.declared.option.Option.{Option}
use Rattle.std.specs.declared.option.Option.TheVariants.{None, Some}
use Rattle.proto_types.specs.Readers.{text_of}
use Rattle.proto_types.specs.declared.file.FileDescriptorProto.{FileDescriptorProto}
use Rattle.record_walk.specs.Counts.{no_counts}
use Rattle.record_walk.specs.Declarations.{declarations}
use Rattle.record_walk.specs.Protos.{Proto, of_enum, of_message}
use Rattle.record_walk.specs.Shown.{Shown, Surrounding}
use Rattle.verdict_texts.specs.Scopes.{behind}

-- the entry of a list that has no other
abbrev pub only_one : {X : Type 0} → List X → Option X
only_one [] = None
only_one (x ∷ []) = Some x
only_one (x ∷ y ∷ ys) = None

-- whether a file has a name
abbrev pub has_name : List ℕ → FileDescriptorProto → Bool
has_name name f = bytes_eq (text_of f.name) name

-- the first file with a name
abbrev pub file_named : List FileDescriptorProto → List ℕ → Option FileDescriptorProto
file_named files name = find (has_name name) files

-- the only file with a name: none where no file has it, or where several have it
abbrev pub only : List FileDescriptorProto → List ℕ → Option FileDescriptorProto
only files name = only_one (filter (has_name name) files)

-- a full name, where the record that has it is of a message or of an enum
abbrev pub type_name : List ℕ → Proto → List (List ℕ)
type_name name (of_message _) = name ∷ []
type_name name (of_enum _) = name ∷ []
type_name name _ = []

-- the full names of the messages and enums among declarations
abbrev pub type_names : List Shown → List (List ℕ)
type_names ds = flat_map (λ d. type_name d.full_name d.proto) ds

-- the full names of the messages and enums that files declare
abbrev pub types_of : List FileDescriptorProto → List (List ℕ)
types_of files = flat_map (λ f. type_names (declarations no_counts (f ∷ []))) files

-- whether a name is one of some names
abbrev pub is_among : List ℕ → List (List ℕ) → Bool
is_among name names = list_any (λ own. bytes_eq own name) names

-- whether a file declares a message or an enum of a full name
abbrev pub declares : List ℕ → FileDescriptorProto → Bool
declares name f = is_among name (type_names (declarations no_counts (f ∷ [])))

-- the first file that declares a message or an enum of a full name
abbrev pub declaring_file : List FileDescriptorProto → List ℕ → Option FileDescriptorProto
declaring_file files name = find (declares name) files

-- whether the package of a file is a full name or stands in it
abbrev pub has_package : List ℕ → FileDescriptorProto → Bool
has_package name f =
    bytes_eq (text_of f.«package») name || is_some (behind name (text_of f.«package»))

-- what declarations stand in, by a path and a scope alone
abbrev pub site : List ℤ → List ℕ → Surrounding
site path scope = record { file = 0; path = path; scope = scope; parent = None }
