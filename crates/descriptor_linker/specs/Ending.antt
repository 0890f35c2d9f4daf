-- The exit status of each way in which a run ends.
use Rattle.std.specs.Prelude.{ℕ}
use Rattle.descriptor_linker.specs.declared.ending.Ending.{Ending}
use Rattle.descriptor_linker.specs.declared.ending.Ending.TheVariants as ending

-- the exit status
abbrev pub ending_number : Ending → ℕ
ending_number ending.Whole = 0
ending_number ending.ScriptFault = 2
ending_number ending.OutOfMemory = 3
ending_number ending.Device = 4
