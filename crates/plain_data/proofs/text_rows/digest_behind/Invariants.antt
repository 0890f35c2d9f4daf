use Rattle.std.proofs.Common.{◌≡◌, take}
use Rattle.plain_data.specs.TextRows.{AreDigested, AreWithin, entries_of}
use Rattle.plain_data.proofs.text_rows.digest_behind.Given as goal

-- the rows so far have their digests, and no text or number is another
abbrev pub invariant-loop-at : goal.invariant-loop-at
invariant-loop-at l =
    AreWithin l.fn.bytes l.rows.items × AreDigested l.fn.bytes l.rows.items l.at
    × (entries_of l.fn.bytes l.rows.items ≡ entries_of l.fn.bytes l.fn.rows.items)
    × (take l.fn.from l.rows.items ≡ take l.fn.from l.fn.rows.items)
