use Rattle.std.proofs.Common.{◌≡◌, ◌++◌, map, take, flat_map}
use Rattle.pool_changes.specs.ChangeKinds.{levels}
use Rattle.pool_changes.specs.Texts.{changes_of}
use Rattle.verdict_texts.specs.Changes.{marked_changes}
use Rattle.verdict_texts.specs.Fingerprints.{marked}
use Rattle.descriptor_check.specs.ChangeFormats.{marks_at}
use Rattle.descriptor_check.proofs.change_formats.push_marked.Given as goal

-- the changes at the levels so far are appended
abbrev pub invariant-loop-level : goal.invariant-loop-level
invariant-loop-level l =
    map marked l.all.items ≡ map marked l.initial.all.items
    ++ flat_map (λ level. marked_changes (marks_at l.changes level) (changes_of l.changes level)) (take l.level-index levels)
