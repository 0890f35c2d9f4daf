use Rattle.std.proofs.Common.{◌≡◌, true, take}
use Rattle.std.specs.List.{list_all}
use Rattle.record_walk.proofs.Tallies.{service_fits}
use Rattle.record_walk.proofs.counts.totals.service_lists_fit.Given as goal

-- the services so far have short lists
abbrev pub invariant-loop-service : goal.invariant-loop-service
invariant-loop-service l = list_all service_fits (take l.service-index l.services) ≡ true
