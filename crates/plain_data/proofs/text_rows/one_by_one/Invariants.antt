use Rattle.std.proofs.Common.{◌≡◌, take}
use Rattle.plain_data.specs.Maps.{inserted}
use Rattle.plain_data.specs.TextRows.{entries_of}
use Rattle.plain_data.proofs.text_rows.one_by_one.Given as goal

-- the rows so far are put in
abbrev pub invariant-loop-at : goal.invariant-loop-at
invariant-loop-at l = l.made ≡ inserted (entries_of l.fn.bytes (take l.at l.fn.rows))
