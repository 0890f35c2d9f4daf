use Rattle.plain_data.specs.TextRows.{LacksFrom}
use Rattle.plain_data.proofs.text_rows.find_from.Given as goal

-- no row so far has the text
abbrev pub invariant-loop-at : goal.invariant-loop-at
invariant-loop-at l = LacksFrom l.fn.bytes l.fn.rows l.fn.key l.fn.from l.at
