use Rattle.std.proofs.Common.{◌≡◌, Some, take}
use Rattle.record_walk.proofs.Saturated.{in_64}
use Rattle.record_walk.proofs.Tallies.{files_tally}
use Rattle.record_walk.proofs.counts.totals.Totals.of_files.Given as goal

-- the files so far are summed
abbrev pub invariant-loop-file : goal.invariant-loop-file
invariant-loop-file l = in_64 (files_tally (take l.file-index l.files)) ≡ Some l.sum
