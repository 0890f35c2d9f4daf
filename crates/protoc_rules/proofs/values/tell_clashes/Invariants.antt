use Rattle.std.proofs.Common.{◌≡◌, ◌++◌, take}
use Rattle.protoc_rules.specs.Faults.{each_told}
use Rattle.protoc_rules.specs.Firsts.{HasFirsts}
use Rattle.protoc_rules.specs.Values.{clash_faults}
use Rattle.protoc_rules.proofs.values.tell_clashes.Given as goal

-- the plain names so far have their first positions, and the clashes with those are told
abbrev pub invariant-loop-position : goal.invariant-loop-position
invariant-loop-position l = record {
  firsts : HasFirsts l.firsts (take l.position l.names);
  found : l.found ≡ l.initial.found ++ each_told (clash_faults l.enumeration l.names) (take l.position l.names);
}
