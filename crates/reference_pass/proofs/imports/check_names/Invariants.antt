use Rattle.std.proofs.Common.{take}
use Rattle.reference_pass.specs.Imports.{missing_files}
use Rattle.reference_pass.specs.Reading.{ReadingTells, setting_of}
use Rattle.reference_pass.proofs.imports.check_names.Given as goal

-- what the imports so far break is told
abbrev pub invariant-loop-position : goal.invariant-loop-position
invariant-loop-position l = ReadingTells l.initial.reading l.reading (missing_files (setting_of l.initial.reading) l.index (take l.position l.imports))
