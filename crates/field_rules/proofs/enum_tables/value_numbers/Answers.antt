use Rattle.std.proofs.Common.{rules}
use Rattle.field_rules.proofs.Sorting.{sorted_is}
use Rattle.field_rules.proofs.enum_tables.value_numbers.Goals as goal

-- a sort makes the sorted pairs
pub returns : goal.returns
returns c = rw (← c.in_ok-pairs.ensures) (search (rules, sorted_is))
