use Rattle.std.proofs.Common.{◌≡◌, ◌+◌, [], drop}
use Rattle.numbered_pool.specs.Reading.{files_behind}
use Rattle.numbered_pool.proofs.reading.read_each.Given as goal

-- the files so far, and those that are left
abbrev pub invariant-loop-position : goal.invariant-loop-position
invariant-loop-position l =
    files_behind l.files (l.position + 1) l.rest (drop l.position l.lengths)
    ≡ files_behind [] 1 l.fn.bytes l.fn.lengths
