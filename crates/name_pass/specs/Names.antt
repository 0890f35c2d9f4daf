-- The names that declarations enter: a file its package, the packages around it and its own name,
-- and any other its full name.
use Rattle.std.specs.Prelude.{ℕ, ℤ, List, [], ◌∷◌, ◌++◌, map, unwrap_or, if◌then◌else◌}
use Rattle.std.specs.List.{flat_map}
use Rattle.proto_types.specs.declared.tag.file.TheConstants as file
use Rattle.proto_types.specs.declared.tag.message.TheConstants as message
use Rattle.pool_types.specs.declared.contents.definition.DefinitionKind.{DefinitionKind}
use Rattle.pool_types.specs.declared.contents.definition.DefinitionKind.TheVariants as definition
use Rattle.pool_types.specs.declared.contents.definition.Definition.{Definition}
use Rattle.pool_types.specs.Definition.{is_package}
use Rattle.name_tables.specs.Entries.{Entry}
use Rattle.proto_types.specs.Names.{fronts}
use Rattle.proto_types.specs.Readers.{text_of}
use Rattle.record_walk.specs.Protos.{of_file, of_message, of_field, of_oneof, of_service, of_method}
use Rattle.record_walk.specs.Protos.{of_enum, of_value, of_extension}
use Rattle.record_walk.specs.Shown.{Shown}

-- what the name of a declaration means: a message, enum, service or extension holds its own index,
-- and any other the index of what it stands in
abbrev pub definition_kind : Shown → DefinitionKind
definition_kind d = elim d.proto [
  | of_file _ ↦ definition.Package
  | of_message _ ↦ definition.Message d.index
  | of_field _ ↦ definition.Field (unwrap_or d.parent 0)
  | of_oneof _ ↦ definition.Oneof (unwrap_or d.parent 0)
  | of_service _ ↦ definition.Service d.index
  | of_method _ ↦ definition.Method (unwrap_or d.parent 0)
  | of_enum _ ↦ definition.Enum d.index
  | of_value _ ↦ definition.EnumValue (unwrap_or d.parent 0)
  | of_extension _ ↦ definition.Extension d.index
]

-- the number of the field of a record that names what it declares: of a file that of its package
abbrev pub naming_field : DefinitionKind → ℤ
naming_field kind = if is_package kind then file.PACKAGE else message.NAME

-- what the name means that a record at a path declares
abbrev pub definition_at : ℕ → List ℤ → DefinitionKind → Definition
definition_at n path kind =
    record { file = n; path = path ++ naming_field kind ∷ []; kind = kind }

-- the entry of a package's name, at the package of its file
abbrev pub package_entry : ℕ → List ℕ → Entry
package_entry n name =
    (name, record { file = n; path = file.PACKAGE ∷ []; kind = definition.Package })

-- the package of a file and those around it, from the outermost in; the empty package has none
abbrev pub packages : List ℕ → List (List ℕ)
packages [] = []
packages (c ∷ cs) = fronts (c ∷ cs) ++ (c ∷ cs) ∷ []

-- the entry of a declaration's full name, at the name of its record
abbrev pub own_entry : Shown → Entry
own_entry d = (
  d.full_name,
  record {
    file = d.file;
    path = d.path ++ message.NAME ∷ [];
    kind = definition_kind d;
  },
)

-- the entries of a declaration: of a file its packages, of any other its full name
abbrev pub entries_of : Shown → List Entry
entries_of d = elim d.proto [
  | of_file f ↦ map (package_entry d.file) (packages (text_of f.«package»))
  | _ ↦ own_entry d ∷ []
]

-- the entries of all declarations, in a row
abbrev pub entries : List Shown → List Entry
entries ds = flat_map entries_of ds

-- the entry of a file's own name, which means its index; any other declaration has none
abbrev pub file_entries_of : Shown → List (List ℕ × ℕ)
file_entries_of d = elim d.proto [ of_file f ↦ (text_of f.name, d.file) ∷ [] | _ ↦ [] ]

-- the entries of the names of files among declarations, in a row
abbrev pub file_entries : List Shown → List (List ℕ × ℕ)
file_entries ds = flat_map file_entries_of ds
