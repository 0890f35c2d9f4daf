use Rattle.std.proofs.Common.{◌≡◌}
use Rattle.plain_data.specs.TextRows.{bound, LacksFrom}
use Rattle.plain_data.proofs.text_rows.find.Given as goal

-- no run so far has the text
abbrev pub invariant-loop-to : goal.invariant-loop-to
invariant-loop-to l = (l.from ≡ bound l.fn.runs l.to-index) × LacksFrom l.fn.bytes l.fn.rows l.fn.key 0 l.from
