use Rattle.std.proofs.Common.{rules}
use Rattle.record_walk.proofs.Saturated.{enums-saturated}
use Rattle.record_walk.proofs.counts.totals.Totals.of_enums.Goals as goal

pub returns : goal.returns
returns c = search (rules, enums-saturated)
