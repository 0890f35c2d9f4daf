use Rattle.std.proofs.Common.{◌≡◌, ◌++◌, string_bytes, take, length, codes}
use Rattle.std.specs.List.{flat_map}
use Rattle.std.specs.Fmt.{decimal}
use Rattle.pool_descriptions.specs.Faults.{fault_lines}
use Rattle.pool_descriptions.proofs.faults.faults_text.Given as goal

-- the faults so far are told
abbrev pub invariant-loop-fault : goal.invariant-loop-fault
invariant-loop-fault l =
    string_bytes l.text ≡ codes "refused " ++ (decimal (length l.faults) ++ (codes "\n" ++ flat_map fault_lines (take l.fault-index l.faults)))
