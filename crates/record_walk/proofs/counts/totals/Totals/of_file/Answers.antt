use Rattle.std.proofs.Common.{rules}
use Rattle.record_walk.proofs.Saturated.{file-saturated}
use Rattle.record_walk.proofs.counts.totals.Totals.of_file.Goals as goal

pub returns-in_err-messages : goal.returns-in_err-messages
returns-in_err-messages c = search (rules, file-saturated)

pub returns-in_err-enums : goal.returns-in_err-enums
returns-in_err-enums c = search (rules, file-saturated)

pub returns-in_err-services : goal.returns-in_err-services
returns-in_err-services c = search (rules, file-saturated)

pub returns : goal.returns
returns c = search (rules, file-saturated)
