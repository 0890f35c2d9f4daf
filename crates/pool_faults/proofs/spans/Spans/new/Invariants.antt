use Rattle.std.proofs.Common.{take}
use Rattle.pool_faults.specs.Spans.{HasFirstSpans}
use Rattle.pool_faults.proofs.spans.Spans.new.Given as goal

abbrev pub invariant-loop-location : goal.invariant-loop-location
invariant-loop-location l = HasFirstSpans l.table (take l.location-index l.locations)
