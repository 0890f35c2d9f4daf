use Rattle.std.proofs.Common.{take}
use Rattle.std.specs.List.{flat_map}
use Rattle.record_walk.specs.Faults.{Tells}
use Rattle.reference_pass.specs.Imports.{index_fault}
use Rattle.reference_pass.proofs.imports.check_indexes.Given as goal

-- what the indexes so far break is told
abbrev pub invariant-loop-index : goal.invariant-loop-index
invariant-loop-index l = Tells l.initial.faults l.faults (flat_map (index_fault l.imports) (take l.index-index l.indexes))
