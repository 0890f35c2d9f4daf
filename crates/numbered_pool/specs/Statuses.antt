-- The numbers of statuses.
use Rattle.std.specs.Prelude.{ℕ}
use Rattle.numbered_pool.specs.declared.status.Status.{Status}
use Rattle.numbered_pool.specs.declared.status.Status.TheVariants as status

-- the number of a status; 4 is the program's alone
abbrev pub status_number : Status → ℕ
status_number status.Done = 0
status_number status.Refused = 1
status_number status.Fault = 2
status_number status.OutOfMemory = 3
status_number status.TooMany = 5
