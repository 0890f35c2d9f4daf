use Rattle.std.proofs.Common.{◌≡◌, ◌++◌, string_bytes, take}
use Rattle.std.specs.List.{flat_map}
use Rattle.descriptor_linker.specs.Report.Lines.{declaration_line}
use Rattle.descriptor_linker.proofs.report.lines.write_declarations.Given as goal

-- the declarations so far are told
abbrev pub invariant-loop-declaration : goal.invariant-loop-declaration
invariant-loop-declaration l =
    string_bytes l.report ≡ string_bytes l.initial.report ++ flat_map declaration_line (take l.declaration-index l.list)
