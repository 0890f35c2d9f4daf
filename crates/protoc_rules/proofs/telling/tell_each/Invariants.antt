use Rattle.std.proofs.Common.{◌≡◌, take, flat_map}
use Rattle.protoc_rules.specs.Telling.{told_strict}
use Rattle.protoc_rules.proofs.telling.tell_each.Given as goal

-- the faults so far are told
abbrev pub invariant-loop-fault : goal.invariant-loop-fault
invariant-loop-fault l =
    l.told ≡ flat_map (told_strict l.files) (take l.fault-index l.faults)
