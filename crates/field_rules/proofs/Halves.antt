-- Ranges by their tables, and by their halves.
use Rattle.std.proofs.Common.{◌≡◌, ◌≤◌, ◌+◌, ◌-◌, ◌*◌, ◌/◌, ℕ, ℤ, suc, Bool, List, ◌++◌, Some, None, length, map, take, drop, sym, ap, subst, ◌∙◌, append_assoc, arith}
use Rattle.std.specs.Prelude.{int_le}
use Rattle.std.specs.List.{count_by}
use Rattle.std.specs.Option.{option_map}
use Rattle.std.proofs.lemmas.List.{length-take-le, length-map, take-append-drop, length-drop, length-append}
use Rattle.std.proofs.lemmas.List.Sorted.{sum_by-IsPermutation, length_permutation}
use Rattle.std.specs.List.Sorted.{IsPermutation, IsSorted}
use Rattle.std.specs.Ordering.{int_cmp}
use Rattle.std.proofs.Math.Seq.{take-append_seam, drop-append_seam}
use Rattle.field_rules.specs.NumberRanges.{holds, first_from}
use Rattle.field_rules.specs.RangeTables.{AreTables, IsInOrder, IsTable, IsTableBehind, end_of}
use Rattle.field_rules.proofs.Counts.{begun}
use Rattle.field_rules.proofs.Firsts.{first-none, first-front, first-back}

-- the first numbers of a table are those of the list, in order
pub in-order : (f : ℤ × ℤ → ℤ) (below : ℕ) (table : List ℤ) (ranges : List (ℤ × ℤ)) → IsTable (suc below) table (map f ranges) → IsInOrder (take (length ranges) table) (map f ranges)
in-order f below table ranges tables =
    let same : length (map f ranges) ≡ length ranges = length-map ranges f in
    subst (λ n. IsInOrder (take n table) (map f ranges)) same tables.1

-- one level less than some
pub next-level : (levels below : ℕ) (starts ends : List ℤ) (ranges : List (ℤ × ℤ)) → 1 ≤ levels → below ≡ levels - 1 → AreTables levels starts ends ranges → AreTables (suc below) starts ends ranges
next-level levels below starts ends ranges some is tables =
    let same : levels ≡ suc below = omega arith in
    subst (λ l. AreTables l starts ends ranges) same tables

counted : (n : ℤ) (sorted numbers : List ℤ) → IsInOrder sorted numbers → count_by (λ x. int_le x n) sorted ≡ count_by (λ x. int_le x n) numbers
counted n sorted numbers order = sum_by-IsPermutation _ numbers sorted order.same

-- where as many have ended as have begun, none holds the number
pub none-holds : (n : ℤ) (below from : ℕ) (starts ends : List ℤ) (ranges : List (ℤ × ℤ)) → AreTables (suc below) starts ends ranges
    → count_by (λ x. int_le x n) (take (length ranges) ends) ≡ count_by (λ x. int_le x n) (take (length ranges) starts) → first_from (holds n) from ranges ≡ None
none-holds n below from starts ends ranges tables same =
    let begin = counted n (take (length ranges) starts) (map (λ r. r.0) ranges) (in-order (λ r. r.0) below starts ranges tables.of_starts) in
    let end = counted n (take (length ranges) ends) (map end_of ranges) (in-order end_of below ends ranges tables.of_ends) in
    let held : count_by (holds n) ranges ≡ 0 = omega (arith, begin, end, begun n ranges, same) in
    first-none (holds n) ranges from held

module _ {X : Type 0} (test : X → Bool) (xs : List X) (half : ℕ) (le : half ≤ length xs) where
  -- the first is in the first half
  pub first-in-front : (from i : ℕ) → first_from test from (take half xs) ≡ Some i → first_from test from xs ≡ Some i
  first-in-front from i is =
      subst (λ ys. first_from test from ys ≡ Some i) (take-append-drop half xs) (first-front test (take half xs) (drop half xs) from i is)

  -- or else behind it
  pub first-in-back : (from : ℕ) → first_from test from (take half xs) ≡ None → first_from test from xs ≡ option_map (λ k. half + k) (first_from test (from - half) (drop half xs))
  first-in-back from is =
      let count : length (take half xs) ≡ half = length-take-le half xs le in
      subst (λ n. first_from test from xs ≡ option_map (λ k. n + k) (first_from test (from - n) (drop half xs))) count
      (subst (λ ys. first_from test from ys ≡ option_map (λ k. length (take half xs) + k) (first_from test (from - length (take half xs)) (drop half xs))) (take-append-drop half xs)
      (first-back test (take half xs) (drop half xs) from is))

-- the tables of the halves behind the numbers in order
pub table-made : (levels below : ℕ) (numbers own before between after front back : List ℤ) → 1 ≤ levels → below ≡ levels - 1 → IsPermutation numbers own → IsSorted int_cmp own
    → front ≡ take (length numbers / 2) numbers → back ≡ drop (length numbers / 2) numbers
    → IsTableBehind below front (before ++ own) between → IsTableBehind below back between after → IsTableBehind levels numbers before after
table-made levels below numbers own before between after front back some is same order in_front in_back first second =
    let count = length numbers in
    let half = count / 2 in
    let one = first.0 in
    let two = second.0 in
    let rest = one ++ two in
    let table = own ++ rest in
    let level : suc below ≡ levels = omega arith in
    let le : half ≤ count = omega arith in
    let owned : length own ≡ count = length_permutation numbers own same in
    let front_count : length front ≡ half = ap length in_front ∙ length-take-le half numbers le in
    let back_count : length back ≡ count - half = ap length in_back ∙ length-drop half numbers in
    let one_count : half * below ≡ length one = sym (first.2 ∙ ap (λ k. k * below) front_count) in
    let parts : count * below ≡ (half + length back) * below = ap (λ k. k * below) (let all : count ≡ half + length back = omega (arith, le, back_count) in all) in
    let counted : length table ≡ count + count * below = omega (arith, length-append own rest, length-append one two, owned, second.2, one_count, parts) in
    let whole : count * levels ≡ count * suc below = ap (λ k. count * k) (sym level) in
    let taken : take count table ≡ own = ap (λ k. take k table) (sym owned) ∙ take-append_seam own rest in
    let dropped : drop count table ≡ rest = ap (λ k. drop k table) (sym owned) ∙ drop-append_seam own rest in
    let in_one : take (half * below) (drop count table) ≡ one = ap (take (half * below)) dropped ∙ ap (λ k. take k rest) one_count ∙ take-append_seam one two in
    let in_two : drop (half * below) (drop count table) ≡ two = ap (drop (half * below)) dropped ∙ ap (λ k. drop k rest) one_count ∙ drop-append_seam one two in
    let In : List ℤ → Type 0 = λ sorted. IsInOrder sorted numbers in
    let made : IsTable (suc below) table numbers = (
      counted,
      subst In (sym taken) (record { order = order; same = same }),
      subst (λ t. IsTable below t (take half numbers)) (sym in_one) (subst (λ l. IsTable below one l) in_front first.3),
      subst (λ t. IsTable below t (drop half numbers)) (sym in_two) (subst (λ l. IsTable below two l) in_back second.3),
    ) in (
      table,
      second.1 ∙ ap (λ l. l ++ two) first.1 ∙ append_assoc (before ++ own) one two ∙ append_assoc before own rest,
      omega (arith, counted, whole),
      subst (λ l. IsTable l table numbers) level made,
    )
