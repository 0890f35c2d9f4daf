-- What a handle shows.
use Rattle.std.specs.Prelude.{ℕ}
use Rattle.std.specs.declared.option.Option.{Option}
use Rattle.std.specs.declared.option.Option.TheVariants.{None, Some}
use Rattle.pool_types.specs.Contents.{Contents}
use Rattle.numbered_pool.specs.Added.{no_answers}
use Rattle.numbered_pool.specs.declared.answers.Answers.{Answers}
use Rattle.numbered_pool.specs.declared.known.Added.{Added}
use Rattle.numbered_pool.specs.declared.report.Report.{Report}
use Rattle.protolink_c.specs.declared.lent.Lent.{Lent}
use Rattle.protolink_c.specs.declared.lent.Lent.TheVariants.{Parted, Empty}
use Rattle.protolink_c.specs.Seen.{Seen, read_in, shown_by}

-- the same pool and its report, with another limit of faults
abbrev pub limited : ℕ → Answers → Answers
limited most answers = record answers { max_faults = most }

-- the pool of a handle with its report; a handle that owns nothing shows an empty pool
abbrev pub answers_of : Option Answers → Answers
answers_of None = no_answers
answers_of (Some answers) = answers

-- the pool that is read through a view with its report
abbrev pub answers_in : Option (Seen Answers) → Answers
answers_in shown = answers_of (read_in shown)

-- the pool of a handle
abbrev pub pool_of : Option Answers → Contents
pool_of shown = (answers_of shown).pool

-- the report of a handle
abbrev pub report_of : Option Answers → Report
report_of shown = (answers_of shown).report

-- the pool that is read through a view
abbrev pub pool_in : Option (Seen Answers) → Contents
pool_in shown = pool_of (read_in shown)

-- the report that is read through a view
abbrev pub report_in : Option (Seen Answers) → Report
report_in shown = report_of (read_in shown)

-- what became of the files of the last call, as it is read through a view
abbrev pub added_in : Option (Seen Answers) → Added
added_in shown = (answers_in shown).added

-- a pool with its report, while it is lent
abbrev pub lent_answers : Lent → Answers
lent_answers (Parted part) = part.content
lent_answers (Empty answers) = answers

-- what the view shows to which it goes back
abbrev pub lent_shown : Lent → Option (Seen Answers)
lent_shown (Parted part) = shown_by (Some part)
lent_shown (Empty answers) = None
