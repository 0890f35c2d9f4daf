use Rattle.std.proofs.Common.{◌≡◌, ◌++◌, take}
use Rattle.protoc_rules.specs.Faults.{each_told}
use Rattle.protoc_rules.specs.Strict.{extension_type_faults}
use Rattle.protoc_rules.proofs.linked.Linked.tell_extension_types.Given as goal

abbrev pub invariant-loop-index : goal.invariant-loop-index
invariant-loop-index l = l.found ≡ l.initial.found ++ each_told (extension_type_faults l.types) (take l.index l.extensions)
