use Rattle.plain_data.specs.TextRows.{IsRun}
use Rattle.plain_data.proofs.text_rows.ascends.Given as goal

-- the texts so far rise
abbrev pub invariant-loop-at : goal.invariant-loop-at
invariant-loop-at l = IsRun l.fn.bytes l.fn.rows l.fn.from l.at
