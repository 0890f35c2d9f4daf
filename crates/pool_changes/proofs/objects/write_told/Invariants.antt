use Rattle.std.proofs.Common.{◌≡◌, ◌++◌, string_bytes, take, flat_map}
use Rattle.pool_changes.specs.ChangeKinds.{levels}
use Rattle.pool_changes.specs.Texts.{json_changes_at}
use Rattle.pool_changes.proofs.objects.write_told.Given as goal

-- the changes at the levels so far are told
abbrev pub invariant-loop-level : goal.invariant-loop-level
invariant-loop-level l =
    string_bytes l.text ≡ string_bytes l.initial.text
    ++ flat_map (json_changes_at l.changes) (take l.level-index levels)
