use Rattle.std.proofs.Common.{take}
use Rattle.name_resolution.specs.Seen.{SeesEach}
use Rattle.name_resolution.proofs.seen.Seen.see_each.Given as goal

abbrev pub invariant-loop-file : goal.invariant-loop-file
invariant-loop-file l = SeesEach (take l.file-index l.files) l.fn.self l.self
