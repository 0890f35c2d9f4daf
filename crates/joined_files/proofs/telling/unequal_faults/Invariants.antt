use Rattle.std.proofs.Common.{◌≡◌, map, take}
use Rattle.joined_files.specs.Telling.{unequal_fault}
use Rattle.joined_files.proofs.telling.unequal_faults.Given as goal

-- the files so far are told
abbrev pub invariant-loop-file : goal.invariant-loop-file
invariant-loop-file l = l.told ≡ map unequal_fault (take l.file-index l.unequal)
