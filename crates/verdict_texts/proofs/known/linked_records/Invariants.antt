use Rattle.std.proofs.Common.{◌≡◌, map, take}
use Rattle.verdict_texts.proofs.known.linked_records.Given as goal

-- the records so far
abbrev pub invariant-loop-file : goal.invariant-loop-file
invariant-loop-file l = map (λ f. f.now) l.records.items ≡ map (λ f. f.raw) (take l.file-index l.linked)
