use Rattle.std.proofs.Common.{◌≡◌, ◌++◌, take}
use Rattle.std.specs.List.{flat_map}
use Rattle.protoc_rules.specs.Names.{service_faults}
use Rattle.protoc_rules.proofs.linked.Linked.tell_services.Given as goal

abbrev pub invariant-loop-service : goal.invariant-loop-service
invariant-loop-service l = l.found ≡ l.initial.found ++ flat_map service_faults (take l.service-index l.services)
