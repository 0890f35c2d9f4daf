use Rattle.std.proofs.Common.{◌∙◌, ◌++◌, ap, subst, List, ℤ}
use Rattle.std.proofs.lemmas.Result.{on_ok_weaker}
use Rattle.std.specs.List.Sorted.{IsPermutation}
use Rattle.field_rules.specs.RangeTables.{IsTableBehind}
use Rattle.field_rules.proofs.Halves.{table-made}
use Rattle.field_rules.proofs.range_tables.+push_table.Goals as goal

-- the numbers in order, and behind them the tables of the halves
pub returns : goal.returns
returns t c =
    let numbers = c.args.numbers.now in
    let own = c.sort_unstable.new.self.items in
    let before = c.args.table.now.items in
    let same : IsPermutation numbers own = subst (λ (l : List ℤ). IsPermutation l own) c.in_ok-sorted.ensures.items c.sort_unstable.ensures.permutation in
    let pushed = c.in_ok-extend_from_slice.ensures.items ∙ ap (λ l. before ++ l) c.deref.ensures.value in
    let first : IsTableBehind c.in-Some.below c.split_at.result.0.now (before ++ own) c.push_table.new.table.items = subst (λ (l : List ℤ). IsTableBehind c.in-Some.below c.split_at.result.0.now l c.push_table.new.table.items) pushed c.in_ok-push_table.ensures in
    on_ok_weaker c.push_table-2.result
    (table-made c.args.levels c.in-Some.below numbers own before c.push_table.new.table.items c.push_table-2.new.table.items c.split_at.result.0.now c.split_at.result.1.now
    c.in-Some.ensures.0 c.in-Some.ensures.1 same c.sort_unstable.ensures.sorted c.split_at.ensures.front c.split_at.ensures.back first)
    c.push_table-2.ensures
