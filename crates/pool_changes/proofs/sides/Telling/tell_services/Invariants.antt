use Rattle.std.proofs.Common.{◌≡◌, ◌++◌, take, flat_map}
use Rattle.pool_changes.specs.Services.{service_changes, service_named}
use Rattle.pool_changes.specs.Sides.{reader, versions, writer}
use Rattle.pool_changes.proofs.sides.Telling.tell_services.Given as goal

-- the services so far are told
abbrev pub invariant-loop-service : goal.invariant-loop-service
invariant-loop-service l = l.told ≡ l.initial.told ++ flat_map (λ s. service_changes (versions l.self) s (service_named (reader (versions l.self)) s.id.full_name)) (take l.service-index (writer (versions l.self)).services)
