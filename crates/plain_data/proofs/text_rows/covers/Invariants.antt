use Rattle.plain_data.specs.TextRows.{Covers}
use Rattle.plain_data.proofs.text_rows.covers.Given as goal

-- the map has all rows so far
abbrev pub invariant-loop-at : goal.invariant-loop-at
invariant-loop-at l = Covers l.fn.bytes l.fn.rows l.at l.fn.map
