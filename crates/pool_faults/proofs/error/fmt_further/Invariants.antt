use Rattle.std.proofs.Common.{take}
use Rattle.std.specs.Fmt.{HasWritten, IsPlainFormatter}
use Rattle.std.specs.List.{flat_map}
use Rattle.pool_faults.specs.Fault.{further_line}
use Rattle.pool_faults.proofs.error.fmt_further.Given as goal

-- the faults so far are written
abbrev pub invariant-loop-fault : goal.invariant-loop-fault
invariant-loop-fault g l =
    IsPlainFormatter l.initial.f
    → HasWritten g.W.Write.write_str_gives l.initial.f (flat_map further_line (take l.fault-index l.faults)) l.f
