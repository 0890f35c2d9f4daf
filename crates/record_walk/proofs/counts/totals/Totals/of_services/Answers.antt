use Rattle.std.proofs.Common.{rules}
use Rattle.record_walk.proofs.Saturated.{services-saturated}
use Rattle.record_walk.proofs.counts.totals.Totals.of_services.Goals as goal

pub returns : goal.returns
returns c = search (rules, services-saturated)
