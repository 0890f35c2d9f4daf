use Rattle.std.proofs.Common.{◌≡◌, ◌++◌, take}
use Rattle.verdict_texts.specs.Places.{outside_imports}
use Rattle.verdict_texts.proofs.places.add_imports.Given as goal

-- the indexes so far are looked at
abbrev pub invariant-loop-position : goal.invariant-loop-position
invariant-loop-position l = l.paths.items ≡ l.initial.paths.items ++ outside_imports l.imports l.tag (take l.position l.indexes)
