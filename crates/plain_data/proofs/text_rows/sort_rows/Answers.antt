use Rattle.std.proofs.lemmas.List.Sorted.{IsPermutation-trans}
use Rattle.plain_data.proofs.text_rows.sort_rows.Goals as goal

pub returns-then-have_ties : goal.returns-then-have_ties
returns-then-have_ties c = IsPermutation-trans _ _ _ c.sort_unstable_by_key.ensures.permutation c.sort_by.ensures.permutation
