use Rattle.std.proofs.Common.{◌≡◌, true, map, take}
use Rattle.protoc_rules.specs.Imports.{imports}
use Rattle.protoc_rules.proofs.cycles.all_files.Given as goal

abbrev pub invariant-loop-file : goal.invariant-loop-file
invariant-loop-file l = l.marks ≡ map (λ _. true) (imports (take l._file-index l.files))
