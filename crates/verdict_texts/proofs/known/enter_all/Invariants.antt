use Rattle.std.proofs.Common.{take}
use Rattle.verdict_texts.specs.Named.{Enters}
use Rattle.verdict_texts.proofs.known.enter_all.Given as goal

-- the names so far are entered
abbrev pub invariant-loop-name : goal.invariant-loop-name
invariant-loop-name l = Enters l.initial.names l.names l.at (take l.name-index l.entered)
