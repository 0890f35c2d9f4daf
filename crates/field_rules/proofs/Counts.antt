-- How many numbers are at most a number, and how many ranges hold it.
use Rattle.std.proofs.Common.{◌≡◌, ◌≤◌, ◌+◌, ℕ, ℤ, zero, suc, Bool, true, false, cond, List, [], ◌∷◌, length, map, refl, ap, arith}
use Rattle.std.specs.Prelude.{int_le, int_lt, ◌&&◌}
use Rattle.std.specs.List.{count_by, AllWithin}
use Rattle.std.specs.Int.{int_max}
use Rattle.std.proofs.lemmas.Int.{ints}
use Rattle.std.proofs.lemmas.List.Sums.{sum_by-cons}
use Rattle.field_rules.specs.NumberRanges.{holds}
use Rattle.field_rules.specs.RangeTables.{end_of}

-- a range that has begun has ended, or holds the number
one : (a b n : ℤ) → cond (int_le a n) 1 0 ≡ cond (int_le (int_max a b) n) 1 0 + cond (int_le a n && int_lt n b) 1 0
one a b n = grind (arith, ints)

pub begun : (n : ℤ) (ranges : List (ℤ × ℤ)) → count_by (λ x. int_le x n) (map (λ r. r.0) ranges) ≡ count_by (λ x. int_le x n) (map end_of ranges) + count_by (holds n) ranges
begun n [] = refl
begun n (r ∷ rs) =
    let here = one r.0 r.1 n in
    let rest = begun n rs in
    let starts = sum_by-cons (λ x. cond (int_le x n) 1 0) r.0 (map (λ r. r.0) rs) in
    let ends = sum_by-cons (λ x. cond (int_le x n) 1 0) (end_of r) (map end_of rs) in
    let held = sum_by-cons (λ x. cond (holds n x) 1 0) r rs in
    omega (arith, here, rest, starts, ends, held)

module _ {X : Type 0} (test : X → Bool) where
  -- where those that pass stand before the others, they are as many as stand there
  pub point : (xs : List X) (i : ℕ) → i ≤ length xs → AllWithin (λ x. test x ≡ true) xs 0 i → AllWithin (λ x. test x ≡ false) xs i (length xs) → i ≡ count_by test xs
  point [] i le before behind = omega arith
  point (x ∷ xs) zero le before behind =
      let here : test x ≡ false = behind 0 x (omega arith) (omega arith) in
      let rest : 0 ≡ count_by test xs = point xs 0 (omega arith) (λ k d low high. absurd (omega arith)) (λ k d low high. behind (suc k) d (omega arith) (omega arith)) in
      let value : ◌≡◌ {A = ℕ} (cond (test x) 1 0) 0 = ap (λ b. cond {A = ℕ} b 1 0) here in
      omega (arith, value, rest, sum_by-cons (λ y. cond (test y) 1 0) x xs)
  point (x ∷ xs) (suc i) le before behind =
      let here : test x ≡ true = before 0 x (omega arith) (omega arith) in
      let rest : i ≡ count_by test xs = point xs i (omega arith) (λ k d low high. before (suc k) d (omega arith) (omega arith)) (λ k d low high. behind (suc k) d (omega arith) (omega arith)) in
      let value : ◌≡◌ {A = ℕ} (cond (test x) 1 0) 1 = ap (λ b. cond {A = ℕ} b 1 0) here in
      omega (arith, value, rest, sum_by-cons (λ y. cond (test y) 1 0) x xs)
