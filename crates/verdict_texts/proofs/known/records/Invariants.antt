use Rattle.std.proofs.Common.{◌≡◌, ◌++◌, map, take}
use Rattle.verdict_texts.proofs.known.records.Given as goal

-- the records of the pool, and those of the new files so far
abbrev pub invariant-loop-file : goal.invariant-loop-file
invariant-loop-file l = map (λ f. f.now) l.records.items ≡ map (λ f. f.raw) l.linked ++ take l.file-index l.files
