use Rattle.std.proofs.Common.{◌≡◌, ◌++◌, string_bytes, take, flat_map}
use Rattle.pool_changes.specs.Texts.{changes_lines}
use Rattle.descriptor_check.proofs.change_formats.write_each.Given as goal

-- the comparisons so far are told
abbrev pub invariant-loop-changes : goal.invariant-loop-changes
invariant-loop-changes l =
    string_bytes l.text ≡ string_bytes l.initial.text ++ flat_map changes_lines (take l.changes-index l.told)
