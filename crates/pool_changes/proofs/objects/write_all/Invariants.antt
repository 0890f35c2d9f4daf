use Rattle.std.proofs.Common.{◌≡◌, ◌++◌, string_bytes, take, flat_map}
use Rattle.pool_changes.specs.Texts.{json_changes}
use Rattle.pool_changes.proofs.objects.write_all.Given as goal

-- the changes against the older versions so far are told
abbrev pub invariant-loop-changes : goal.invariant-loop-changes
invariant-loop-changes l =
    string_bytes l.text ≡ string_bytes l.initial.text ++ flat_map json_changes (take l.changes-index l.all)
