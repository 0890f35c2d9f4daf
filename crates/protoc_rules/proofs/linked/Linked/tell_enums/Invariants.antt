use Rattle.std.proofs.Common.{◌≡◌, ◌++◌, take}
use Rattle.std.specs.List.{flat_map}
use Rattle.protoc_rules.specs.Linked.{linked}
use Rattle.protoc_rules.specs.Enums.{enum_faults}
use Rattle.protoc_rules.proofs.linked.Linked.tell_enums.Given as goal

abbrev pub invariant-loop-enumeration : goal.invariant-loop-enumeration
invariant-loop-enumeration l = l.found ≡ l.initial.found ++ flat_map (enum_faults (linked l.self)) (take l.enumeration-index l.enums)
