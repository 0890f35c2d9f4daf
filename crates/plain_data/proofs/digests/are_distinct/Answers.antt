use Rattle.std.specs.List.Sorted.{IsNonDecreasing}
use Rattle.std.proofs.lemmas.List.Sorted.{IsNonDecreasingBy-from_sort}
use Rattle.plain_data.proofs.Distinct.{distinct, rising}
use Rattle.plain_data.proofs.digests.are_distinct.Goals as goal

pub returns-clause-distinct : goal.returns-clause-distinct
returns-clause-distinct c =
    let moved = c.sort_unstable.ensures.permutation in
    let order : IsNonDecreasing c.sort_unstable.new.self = IsNonDecreasingBy-from_sort (λ n. n) c.sort_unstable.new.self c.sort_unstable.ensures.sorted in
    ((λ yes. distinct _ _ moved (c.is_rising.ensures.0 yes)), (λ apart. c.is_rising.ensures.1 (rising _ _ moved order apart)))

pub returns-clause-order : goal.returns-clause-order
returns-clause-order c = IsNonDecreasingBy-from_sort (λ n. n) c.sort_unstable.new.self c.sort_unstable.ensures.sorted
