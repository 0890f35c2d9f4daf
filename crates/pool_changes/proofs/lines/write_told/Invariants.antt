use Rattle.std.proofs.Common.{◌≡◌, ◌++◌, string_bytes, take, flat_map}
use Rattle.verdict_texts.specs.PlainFaults.{fault_lines}
use Rattle.pool_changes.proofs.lines.write_told.Given as goal

-- the changes so far are told
abbrev pub invariant-loop-change : goal.invariant-loop-change
invariant-loop-change l =
    string_bytes l.text ≡ string_bytes l.initial.text ++ flat_map fault_lines (take l.change-index l.told)
