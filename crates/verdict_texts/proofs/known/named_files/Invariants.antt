use Rattle.std.proofs.Common.{map, take}
use Rattle.verdict_texts.specs.Named.{AreNamed}
use Rattle.verdict_texts.proofs.known.named_files.Given as goal

-- the files so far are known by their names
abbrev pub invariant-loop-at : goal.invariant-loop-at
invariant-loop-at l = AreNamed l.named (map (λ f. f.now) (take l.at l.files))
