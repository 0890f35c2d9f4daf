use Rattle.std.proofs.Common.{◌≡◌, ◌++◌, take}
use Rattle.protoc_rules.specs.Faults.{each_told}
use Rattle.protoc_rules.specs.Imports.{file_faults, is_marked}
use Rattle.protoc_rules.proofs.imports.tell_each_file.Given as goal

abbrev pub invariant-loop-index : goal.invariant-loop-index
invariant-loop-index l = l.found ≡ l.initial.found ++ each_told (file_faults (is_marked l.marks)) (take l.index l.files)
