use Rattle.std.proofs.Common.{◌≡◌, ◌++◌, take}
use Rattle.std.specs.List.{flat_map}
use Rattle.protoc_rules.specs.Names.{method_name_faults}
use Rattle.protoc_rules.proofs.names.tell_method_names.Given as goal

abbrev pub invariant-loop-method : goal.invariant-loop-method
invariant-loop-method l = l.found ≡ l.initial.found ++ flat_map method_name_faults (take l.method-index l.methods)
