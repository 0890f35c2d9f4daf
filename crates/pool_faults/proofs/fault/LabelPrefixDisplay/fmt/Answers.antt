use Rattle.std.proofs.Common.{rules}
use Rattle.pool_faults.proofs.fault.LabelPrefixDisplay.fmt.Goals as goal

pub returns-in-Some-clause-writes : goal.returns-in-Some-clause-writes
returns-in-Some-clause-writes g c =
    search (rules, c.fmt_place.ensures, c.from.ensures, c.from-in-Some.ensures, c.in-Some.ensures, c.file-file.ensures, c.span.ensures)
