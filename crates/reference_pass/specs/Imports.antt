-- What the imports of a file break (descriptor.proto on `dependency`, `public_dependency` and
-- `weak_dependency`).
use Rattle.std.specs.Prelude.{ℕ, ℤ, not, is_some, List, [], ◌++◌}
use Rattle.std.specs.FinMap as finite
use Rattle.std.specs.List.{flat_map}
use Rattle.proto_types.specs.declared.tag.file.TheConstants as file
use Rattle.plain_data.specs.Lists.{at, only_if}
use Rattle.proto_types.specs.declared.file.FileDescriptorProto.{FileDescriptorProto}
use Rattle.proto_types.specs.Paths.{entry_path}
use Rattle.pool_faults.specs.Labels.{label_in}
use Rattle.pool_faults.specs.declared.fault.DescriptorErrorKind.{DescriptorErrorKind}
use Rattle.pool_faults.specs.declared.fault.DescriptorErrorKind.TheVariants.{FileNotFound}
use Rattle.pool_faults.specs.declared.fault.DescriptorErrorKind.TheVariants.{InvalidImportIndex}
use Rattle.plain_data.specs.Each.{map_enumerated}
use Rattle.reference_pass.specs.Setting.{Setting}

-- the fault of an import of the file with an index that names no file, at 3 and the place of the
-- import
abbrev pub missing_file : Setting → ℕ → ℕ → List ℕ → List DescriptorErrorKind
missing_file s index place name =
    only_if (not (is_some (finite.get s.file_names name)))
    (FileNotFound name (label_in s.files index (entry_path [] file.DEPENDENCY place)))

-- the faults of imports that name no file, one after another
abbrev pub missing_files : Setting → ℕ → List (List ℕ) → List DescriptorErrorKind
missing_files s index names =
    flat_map (λ faults. faults) (map_enumerated (missing_file s index) 0 names)

-- the fault of an index that is no place of the imports
abbrev pub index_fault : List (List ℕ) → ℤ → List DescriptorErrorKind
index_fault names n = only_if (not (is_some (at names n))) InvalidImportIndex

-- the faults of a file's imports, then of its public indexes, and then of its weak ones
abbrev pub import_faults : Setting → ℕ → FileDescriptorProto → List DescriptorErrorKind
import_faults s index f =
    missing_files s index f.dependency ++ flat_map (index_fault f.dependency) f.public_dependency
    ++ flat_map (index_fault f.dependency) f.weak_dependency
