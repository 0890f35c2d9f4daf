use Rattle.std.proofs.Common.{◌≡◌, ◌++◌, map, take}
use Rattle.verdict_texts.specs.Changes.{marks, marked_changes}
use Rattle.verdict_texts.specs.Fingerprints.{marked}
use Rattle.verdict_texts.proofs.changes.ChangeMarks.push_marked.Given as goal

-- the changes so far are appended
abbrev pub invariant-loop-change : goal.invariant-loop-change
invariant-loop-change l =
    map marked l.all.items ≡ map marked l.initial.all.items
    ++ marked_changes (marks l.self) (take l.change-index l.told)
