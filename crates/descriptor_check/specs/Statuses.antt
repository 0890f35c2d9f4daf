-- The exit status of each way in which a run ends.
use Rattle.std.specs.Prelude.{ℕ}
use Rattle.descriptor_check.specs.declared.answer.Status.{Status}
use Rattle.descriptor_check.specs.declared.answer.Status.TheVariants as status

-- the exit status
abbrev pub status_number : Status → ℕ
status_number status.Accepted = 0
status_number status.Refused = 1
status_number status.NoVerdict = 2
status_number status.OutOfMemory = 3
status_number status.Device = 4
