use Rattle.std.proofs.Common.{◌≡◌, ◌++◌, take}
use Rattle.protoc_rules.specs.Faults.{each_told}
use Rattle.protoc_rules.specs.Types.{field_type_faults}
use Rattle.protoc_rules.proofs.types.tell_field_types.Given as goal

abbrev pub invariant-loop-position : goal.invariant-loop-position
invariant-loop-position l = l.found ≡ l.initial.found ++ each_told (field_type_faults l.types) (take l.position l.fields)
