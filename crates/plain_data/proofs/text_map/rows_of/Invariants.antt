use Rattle.std.proofs.Common.{◌≡◌, take}
use Rattle.plain_data.specs.Maps.{inserted}
use Rattle.plain_data.proofs.text_map.rows_of.Given as goal

-- the entries so far are put in
abbrev pub invariant-loop-entry : goal.invariant-loop-entry
invariant-loop-entry l = l.made ≡ inserted (take l.entry-index l.entries)
