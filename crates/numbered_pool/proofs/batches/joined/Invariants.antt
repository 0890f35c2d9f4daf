use Rattle.std.proofs.Common.{◌≡◌, map}
use Rattle.joined_files.specs.Joining.{joined_all}
use Rattle.numbered_pool.specs.Batches.{called}
use Rattle.numbered_pool.proofs.batches.joined.Given as goal

-- the files so far are joined
abbrev pub invariant-loop-position : goal.invariant-loop-position
invariant-loop-position l = l.joining ≡ joined_all (map called l.yielded)
