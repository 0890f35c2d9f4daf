use Rattle.std.proofs.Common.{◌≡◌, ◌++◌, string_bytes, take}
use Rattle.std.specs.List.{flat_map}
use Rattle.pool_descriptions.specs.Items.{service_text}
use Rattle.pool_descriptions.proofs.service.write_services.Given as goal

-- the services so far are told
abbrev pub invariant-loop-service : goal.invariant-loop-service
invariant-loop-service l =
    string_bytes l.text ≡ string_bytes l.initial.text ++ flat_map (service_text l.pool) (take l.service-index l.pool.services)
