use Rattle.std.proofs.Common.{◌≡◌, true, take}
use Rattle.std.specs.List.{list_all}
use Rattle.record_walk.proofs.Tallies.{enum_fits}
use Rattle.record_walk.proofs.counts.totals.enum_lists_fit.Given as goal

-- the enums so far have short lists
abbrev pub invariant-loop-each : goal.invariant-loop-each
invariant-loop-each l = list_all enum_fits (take l.each-index l.enums) ≡ true
