use Rattle.std.proofs.Common.{◌≡◌, ◌++◌, take}
use Rattle.std.specs.List.{flat_map}
use Rattle.protoc_rules.specs.Names.{value_name_faults}
use Rattle.protoc_rules.proofs.names.tell_value_names.Given as goal

abbrev pub invariant-loop-value : goal.invariant-loop-value
invariant-loop-value l = l.found ≡ l.initial.found ++ flat_map value_name_faults (take l.value-index l.values)
