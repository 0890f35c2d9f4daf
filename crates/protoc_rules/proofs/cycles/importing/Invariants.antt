use Rattle.std.proofs.Common.{◌≡◌, map, take}
use Rattle.std.specs.List.{list_any}
use Rattle.protoc_rules.specs.Imports.{imports, is_marked}
use Rattle.protoc_rules.proofs.cycles.importing.Given as goal

abbrev pub invariant-loop-file : goal.invariant-loop-file
invariant-loop-file l = l.next ≡ map (list_any (is_marked l.marks)) (imports (take l.file-index l.files))
