use Rattle.std.proofs.Common.{◌≡◌, ◌++◌, [], ◌∷◌, string_bytes, take}
use Rattle.std.specs.List.{flat_map}
use Rattle.pool_faults.specs.Fault.{labelled_text}
use Rattle.descriptor_linker.specs.Report.Lines.{line}
use Rattle.descriptor_linker.proofs.report.lines.write_refused.Given as goal

abbrev pub invariant-loop-fault : goal.invariant-loop-fault
invariant-loop-fault l =
    string_bytes l.report ≡ string_bytes l.initial.report ++ flat_map (λ f. line (labelled_text f ∷ [])) (take l.fault-index l.faults)
