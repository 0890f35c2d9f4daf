use Rattle.std.proofs.Common.{length, rules}
use Rattle.plain_data.specs.TextEntries.{AreApart}
use Rattle.plain_data.proofs.TextEntries.{distinct-looked, entries-inserted}
use Rattle.plain_data.proofs.text_map.map_of.Goals as goal

pub invariant_of-result-2 : goal.invariant_of-result-2
invariant_of-result-2 c =
    let entries = c.args.entries.items in
    let apart : AreApart entries (length entries) = rw (← c.as_slice.ensures.value) (c.are_apart.ensures (search rules)) in
    distinct-looked entries apart

pub returns : goal.returns
returns c =
    let entries = c.args.entries.items in
    let apart : AreApart entries (length entries) = rw (← c.as_slice.ensures.value) (c.are_apart.ensures (search rules)) in
    entries-inserted entries (distinct-looked entries apart)
