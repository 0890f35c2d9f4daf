use Rattle.plain_data.specs.TextEntries.{AreApart}
use Rattle.plain_data.proofs.text_map.differ_by_pairs.Given as goal

-- no later entry has the text of one so far
abbrev pub invariant-loop-at : goal.invariant-loop-at
invariant-loop-at l = AreApart l.fn.entries l.at
