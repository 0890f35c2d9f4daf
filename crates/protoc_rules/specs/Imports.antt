-- What files may not be, and what they may not import (protobuf's `BuildFile`).
use Rattle.std.specs.Prelude.{◌≡◌, ◌↔◌, ℕ, zero, suc, nat_eq, nat_lt, Bool, true, false, ◌==◌}
use Rattle.std.specs.Prelude.{List, [], ◌∷◌, ◌++◌, length, map, position, slice_index_or, take}
use Rattle.std.specs.List.{Contains, IsDistinct, list_any}
use Rattle.std.specs.declared.option.Option.{Option}
use Rattle.plain_data.specs.Lists.{only_if}
use Rattle.proto_types.specs.Readers.{text_of}
use Rattle.proto_types.specs.declared.tag.file.TheConstants.{DEPENDENCY, NAME}
use Rattle.pool_types.specs.declared.contents.definition.Identity.{Identity}
use Rattle.pool_types.specs.declared.contents.file.FileDescriptorInner.{FileDescriptorInner}
use Rattle.protoc_rules.specs.declared.faults.StrictFault.{StrictFault}
use Rattle.protoc_rules.specs.declared.faults.StrictKind.TheVariants as kind
use Rattle.protoc_rules.specs.Faults.{at_part, each_told, entry, entry_at, pair_faults}
use Rattle.protoc_rules.specs.Packages.{package_faults}

-- a file as an item: its index, and the empty path
abbrev pub file_id : ℕ → Identity
file_id n = record { file = n; path = []; full_name = []; name_index = 0 }

-- that the import with a position is of the file that is imported at an earlier one, if there is one
abbrev pub import_with : Identity → ℕ → Option ℕ → List StrictFault
import_with id n first = pair_faults kind.DuplicateImport id (entry DEPENDENCY n)
    (entry_at DEPENDENCY first)

-- that the import with a position is of a file that is imported before
abbrev pub import_faults : Identity → List ℕ → ℕ → ℕ → List StrictFault
import_faults id imports n f = import_with id n (position (nat_eq f) (take n imports))

-- the files that each file imports, by their indexes
abbrev pub imports : List FileDescriptorInner → List (List ℕ)
imports files = map (λ f. f.dependencies) files

-- the files that a file imports
abbrev pub imports_of : List (List ℕ) → ℕ → List ℕ
imports_of fs n = slice_index_or fs n []

-- whether there is a chain of so many imports from a file
abbrev pub has_chain : List (List ℕ) → ℕ → ℕ → Bool
has_chain fs zero n = nat_lt n (length fs)
has_chain fs (suc k) n = list_any (has_chain fs k) (imports_of fs n)

-- whether a chain of imports from a file has as many as there are files, so that one comes twice
abbrev pub comes_back : List (List ℕ) → ℕ → Bool
comes_back fs n = has_chain fs (length fs) n

-- whether each of some files imports the next one
abbrev pub IsChain : List (List ℕ) → List ℕ → Type 0
IsChain fs [] = Unit {0}
IsChain fs (n ∷ []) = Unit {0}
IsChain fs (n ∷ (m ∷ rest)) = Contains (imports_of fs n) m × IsChain fs (m ∷ rest)

-- law: a chain of imports from a file comes back exactly where there is a chain from it in which a
-- file comes twice
abbrev pub ChainsComeBack : Type 0
ChainsComeBack = (fs : List (List ℕ)) (n : ℕ) → (comes_back fs n ≡ true)
    ↔ ((rest : List ℕ) × IsChain fs (n ∷ rest) × (¬ (IsDistinct nat_eq (n ∷ rest))))

-- whether a file is marked
abbrev pub is_marked : List Bool → ℕ → Bool
is_marked marks n = slice_index_or marks n false

-- marks hold each file from which a chain of imports comes back
abbrev pub HoldsBack : List (List ℕ) → List Bool → Type 0
HoldsBack fs marks = (n : ℕ) → comes_back fs n ≡ true → is_marked marks n ≡ true

-- what a file may not be: without a name, in a package that is none, with a chain of imports that
-- comes back, nor with an import twice
abbrev pub file_faults : (ℕ → Bool) → ℕ → FileDescriptorInner → List StrictFault
file_faults is_back n f =
    only_if (length (text_of f.raw.name) == 0) (at_part kind.MissingFileName (file_id n) NAME)
    ++ (package_faults (file_id n) (text_of f.raw.«package»)
    ++ (only_if (is_back n) (at_part kind.ImportCycle (file_id n) DEPENDENCY)
    ++ each_told (import_faults (file_id n) f.dependencies) f.dependencies))

-- what files may not be
abbrev pub files_faults : List FileDescriptorInner → List StrictFault
files_faults files = each_told (file_faults (comes_back (imports files))) files
