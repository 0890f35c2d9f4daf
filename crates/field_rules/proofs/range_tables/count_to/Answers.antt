use Rattle.std.proofs.Common.{◌≡◌, ℤ, true, false, get_or, arith, rules}
use Rattle.std.specs.Prelude.{int_le}
use Rattle.std.specs.Ordering.{int_cmp, is_lt}
use Rattle.std.specs.List.Sorted.{IsPartitionedBy}
use Rattle.std.proofs.lemmas.Int.{ints}
use Rattle.std.proofs.lemmas.Cmp.{int_cmp_total}
use Rattle.std.proofs.lemmas.List.Sorted.{IsPartitionPoint-from_clause, ranks_by, sorted_far}
use Rattle.field_rules.proofs.Counts.{point}
use Rattle.field_rules.proofs.range_tables.count_to.Goals as goal

lower : (n x y : ℤ) → is_lt (int_cmp y x) ≡ false → int_le y n ≡ true → int_le x n ≡ true
lower n x y order le = grind (arith, ints)

pub returns : goal.returns
returns c =
    let n = c.args.number in
    let xs = c.args.sorted.now in
    let parted : IsPartitionedBy (λ x. int_le x n) xs = λ i j d le below passes. lower n (get_or xs i d) (get_or xs j d) (sorted_far (λ x y. is_lt (int_cmp x y)) (ranks_by int_cmp_total (λ x. x)) xs c.requires i j d le below) passes in
    let at = IsPartitionPoint-from_clause (λ x. int_le x n) xs c.partition_point.result c.partition_point.ensures.partitioned parted (λ a r q k. search rules) in
    point (λ x. int_le x n) xs c.partition_point.result c.partition_point.ensures.bound at.0 at.1
