use Rattle.std.proofs.Common.{◌≡◌, take}
use Rattle.std.specs.FinMap as finite
use Rattle.std.specs.List.{filter_map}
use Rattle.name_resolution.proofs.imports.imported_files.Given as goal

-- the files of the imports so far
abbrev pub invariant-loop-name : goal.invariant-loop-name
invariant-loop-name l = l.files ≡ filter_map (finite.get l.file_names) (take l.name-index l.imports)
