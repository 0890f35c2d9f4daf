-- Numbers of which each is less than the next differ, in whatever order they stand, and so do lists whose numbers differ.
use Rattle.std.proofs.Common.{◌≡◌, ℕ, ◌<◌, Bool, true, false, nat_eq, List, [], ◌∷◌, ◌++◌, get_or, map, refl, ap, ◌∙◌, arith}
use Rattle.std.specs.List.{AllByRecursion, IsDistinct}
use Rattle.std.specs.List.Sorted.{IsNonDecreasing, IsPermutation, IsStrictlyIncreasing}
use Rattle.std.specs.Cmp.{nat_eq_equiv}
use Rattle.std.specs.Cmp.Lexicographic.{nat_list_eq_equiv}
use Rattle.std.specs.Str.{bytes_eq}
use Rattle.std.proofs.lemmas.Bool.Decides.{nat_tests}
use Rattle.std.proofs.lemmas.List.Kept.{AllPairs-from_increasing}
use Rattle.std.proofs.lemmas.List.Sorted.{IsPermutation-sym}
use Rattle.std.proofs.lemmas.Map.Keys.{IsDistinct-IsPermutation, IsDistinct-from_apart, IsStrictlyIncreasing-from_distinct}
use Rattle.std.proofs.lemmas.Slice.Eq.{bytes_eq-Decides}

-- numbers that rise where they are put in order
pub distinct : (xs ys : List ℕ) → IsPermutation xs ys → IsStrictlyIncreasing ys → IsDistinct nat_eq xs
distinct xs ys moved rising =
    let pairs = AllPairs-from_increasing ys rising in
    let apart : IsDistinct nat_eq ys = IsDistinct-from_apart nat_eq ys (λ i j d below within.
    let less : get_or ys i d < get_or ys j d = pairs i j d below within in
    grind (arith, nat_tests)) in
    IsDistinct-IsPermutation nat_eq nat_eq_equiv.symm ys xs (IsPermutation-sym xs ys moved) apart

-- and the other way round
pub rising : (xs ys : List ℕ) → IsPermutation xs ys → IsNonDecreasing ys → IsDistinct nat_eq xs → IsStrictlyIncreasing ys
rising xs ys moved order apart = IsStrictlyIncreasing-from_distinct ys order (IsDistinct-IsPermutation nat_eq nat_eq_equiv.symm xs ys moved apart)

-- keys whose numbers differ
pub distinct-keys : (digest : List ℕ → ℕ) (keys : List (List ℕ)) → IsDistinct nat_eq (map digest keys) → IsDistinct bytes_eq keys
unfolding IsDistinct
distinct-keys digest [] apart = tt
distinct-keys digest (key ∷ keys) apart = (others keys apart.0, distinct-keys digest keys apart.1)
  where
    others : (rest : List (List ℕ)) → AllByRecursion (λ y. nat_eq (digest key) y ≡ false) (map digest rest) → AllByRecursion (λ y. bytes_eq key y ≡ false) rest
    others [] differ = tt
    others (k ∷ rest) differ = (by (bytes_eq key k) refl, others rest differ.1)
      where
        by : (b : Bool) → bytes_eq key k ≡ b → bytes_eq key k ≡ false
        by false is = is
        by true is =
            let same : digest key ≡ digest k = ap digest ((bytes_eq-Decides key k).0 is) in
            let no : nat_eq (digest key) (digest k) ≡ false = differ.0 in
            absurd (grind (arith, nat_tests))

-- of keys that differ, one behind others is none of them
pub apart-before : (before rest : List (List ℕ)) (key : List ℕ) → IsDistinct bytes_eq (before ++ key ∷ rest) → AllByRecursion (λ k. bytes_eq key k ≡ false) before
unfolding IsDistinct
apart-before [] rest key apart = tt
apart-before (k ∷ before) rest key apart = (nat_list_eq_equiv.symm key k ∙ behind before apart.0, apart-before before rest key apart.1)
  where
    behind : (ks : List (List ℕ)) → AllByRecursion (λ y. bytes_eq k y ≡ false) (ks ++ key ∷ rest) → bytes_eq k key ≡ false
    behind [] differ = differ.0
    behind (x ∷ ks) differ = behind ks differ.1
