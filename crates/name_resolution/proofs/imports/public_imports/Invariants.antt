use Rattle.std.proofs.Common.{◌≡◌, take}
use Rattle.std.specs.FinMap as finite
use Rattle.std.specs.List.{filter_map}
use Rattle.plain_data.specs.Lists.{at}
use Rattle.name_resolution.proofs.imports.public_imports.Given as goal

-- the files of the public imports so far
abbrev pub invariant-loop-place : goal.invariant-loop-place
invariant-loop-place l = l.files ≡ filter_map (finite.get l.file_names) (filter_map (at l.file.dependency) (take l.place-index l.file.public_dependency))
