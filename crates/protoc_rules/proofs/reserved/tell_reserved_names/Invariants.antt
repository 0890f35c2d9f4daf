use Rattle.std.proofs.Common.{◌≡◌, ◌++◌, take}
use Rattle.protoc_rules.specs.Faults.{each_told}
use Rattle.protoc_rules.specs.Firsts.{HasFirsts}
use Rattle.protoc_rules.specs.Reserved.{name_faults, reserved_names}
use Rattle.protoc_rules.proofs.reserved.tell_reserved_names.Given as goal

-- the names so far have their first positions, and what they break is told
abbrev pub invariant-loop-position : goal.invariant-loop-position
invariant-loop-position l = record {
  firsts : HasFirsts l.firsts (take l.position l.names);
  found : l.found ≡ l.initial.found ++ each_told (name_faults l.id (reserved_names l.reserved)) (take l.position l.names);
}
