use Rattle.std.proofs.Common.{◌≡◌, ◌++◌, take}
use Rattle.protoc_rules.specs.Faults.{each_told}
use Rattle.protoc_rules.specs.Oneofs.{placed_faults}
use Rattle.protoc_rules.proofs.oneofs.tell_oneofs.Given as goal

abbrev pub invariant-loop-position : goal.invariant-loop-position
invariant-loop-position l = l.found ≡ l.initial.found ++ each_told (placed_faults l.fields l.first) (take l.position l.oneofs)
