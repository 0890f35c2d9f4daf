use Rattle.std.proofs.Common.{◌≡◌, ◌++◌, string_bytes, map, take}
use Rattle.std.specs.List.{flat_map}
use Rattle.descriptor_linker.specs.Report.Lines.{reference_line}
use Rattle.record_lists.specs.Code.{reference_of}
use Rattle.descriptor_linker.proofs.report.lines.write_references.Given as goal

-- the references so far are told
abbrev pub invariant-loop-reference : goal.invariant-loop-reference
invariant-loop-reference l =
    string_bytes l.report ≡ string_bytes l.initial.report ++ flat_map reference_line (map reference_of (take l.reference-index l.list))
