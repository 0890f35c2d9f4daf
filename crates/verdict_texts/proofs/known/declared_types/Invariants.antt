use Rattle.std.proofs.Common.{map, take}
use Rattle.verdict_texts.specs.Named.{AreDeclared}
use Rattle.verdict_texts.proofs.known.declared_types.Given as goal

-- the names are those of the files so far
abbrev pub invariant-loop-at : goal.invariant-loop-at
invariant-loop-at l = AreDeclared l.types (map (λ f. f.now) (take l.at l.files))
