use Rattle.verdict_texts.proofs.grouped.+grouped.Given as goal

-- the number gets smaller
abbrev pub decreases-grouped : goal.decreases-grouped
decreases-grouped l = l.number
