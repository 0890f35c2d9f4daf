use Rattle.std.proofs.Common.{rules}
use Rattle.std.proofs.lemmas.List.Sorted.{answers_always}
use Rattle.plain_data.proofs.NumberRows.{placed}
use Rattle.plain_data.proofs.number_map.place_of.Goals as goal

pub returns : goal.returns
returns c = placed c.args.entries.now c.args.key c.binary_search_by_key.result c.requires c.binary_search_by_key.ensures.bound (c.binary_search_by_key.ensures.position (λ e. e.0) (search (rules, answers_always)))
