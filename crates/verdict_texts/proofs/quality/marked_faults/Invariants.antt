use Rattle.std.proofs.Common.{◌≡◌, map, take}
use Rattle.verdict_texts.specs.Fingerprints.{marked}
use Rattle.verdict_texts.specs.Quality.{marked_fault}
use Rattle.verdict_texts.proofs.quality.marked_faults.Given as goal

-- the faults so far are marked
abbrev pub invariant-loop-fault : goal.invariant-loop-fault
invariant-loop-fault l = map marked l.all.items ≡ map marked_fault (take l.fault-index l.told)
