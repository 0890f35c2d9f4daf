-- Sorting by insertion: what it makes ascends, and has the same elements.
use Rattle.std.proofs.Common.{Ordering, Less, Equal, Greater, ◌≡◌, ℕ, ℤ, ◌+◌, Bool, true, false, cond, List, [], ◌∷◌, refl, sym, ◌∙◌, ap, arith}
use Rattle.std.proofs.lemmas.List.Sorted.{sum_by-IsPermutation, ranks_by}
use Rattle.std.proofs.lemmas.List.Sums.{sum_by-cons}
use Rattle.std.proofs.lemmas.Map.Lookups.{exact_signed, exact_unsigned, exact_pairs}
use Rattle.std.specs.Cmp.{IsStrictWeakOrder, IsTotalOrder, then_total, on_total, int_cmp_total, nat_cmp_total}
use Rattle.std.specs.List.{sum_by}
use Rattle.std.specs.List.Sorted.{IsPermutation, IsSortedBy}
use Rattle.std.specs.Ordering.{int_cmp, nat_cmp, ordering_then, ordering_reverse, is_lt, is_le}
use Rattle.field_rules.specs.EnumItems.{is_before, put, sorted}
use Rattle.field_rules.proofs.Ascending.{Each, Ascends, ascends-sorted, same-ascending}

abbrev Pair : Type 0
Pair = ℤ × ℕ

abbrev pair_cmp : Pair → Pair → Ordering
pair_cmp a b = ordering_then (int_cmp a.0 b.0) (nat_cmp a.1 b.1)

abbrev less : Pair → Pair → Bool
less a b = is_lt (pair_cmp a b)

pairs-total : IsTotalOrder pair_cmp
pairs-total = then_total (on_total (λ p. p.0) int_cmp_total) (on_total (λ p. p.1) nat_cmp_total)

pairs-order : IsStrictWeakOrder less
pairs-order = ranks_by pairs-total (λ p. p)

level : (o r : Ordering) → o ≡ ordering_reverse r → is_lt o ≡ false → is_lt r ≡ false → o ≡ Equal
level Equal r turned low high = refl
level Less r turned low high = absurd (cc)
level Greater Less turned low high = absurd (cc)
level Greater Equal turned low high = absurd (cc)
level Greater Greater turned low high = absurd (cc)

pairs-exact : (p q : Pair) → less p q ≡ false → less q p ≡ false → p ≡ q
pairs-exact p q low high = exact_pairs int_cmp nat_cmp exact_signed exact_unsigned p q (level (pair_cmp p q) (pair_cmp q p) (pairs-total.antisymm p q) low high)

turned-up : (o r : Ordering) → o ≡ ordering_reverse r → is_le o ≡ true → is_lt r ≡ false
turned-up Less Greater turned up = refl
turned-up Equal Equal turned up = refl
turned-up o Less turned up = absurd (cc)
turned-up o Equal turned up = refl
turned-up o Greater turned up = refl

not-less : (o : Ordering) → is_le o ≡ false → is_lt o ≡ false
not-less Less up = absurd (cc)
not-less Equal up = refl
not-less Greater up = refl

-- one pair put among others
put-sum : (f : Pair → ℕ) (p : Pair) (qs : List Pair) → sum_by f (put p qs) ≡ f p + sum_by f qs
put-sum f p [] = sum_by-cons f p []
put-sum f p (q ∷ qs) = by (is_before p q) (put-sum f p qs)
  where
    by : (b : Bool) → sum_by f (put p qs) ≡ f p + sum_by f qs → sum_by f (cond b (p ∷ q ∷ qs) (q ∷ put p qs)) ≡ f p + sum_by f (q ∷ qs)
    by true rest = sum_by-cons f p (q ∷ qs)
    by false rest = omega (arith, rest, sum_by-cons f q (put p qs), sum_by-cons f q qs)

put-low : (x p : Pair) (qs : List Pair) → less p x ≡ false → Each (λ y. less y x ≡ false) qs → Each (λ y. less y x ≡ false) (put p qs)
put-low x p [] first low = (first, tt)
put-low x p (q ∷ qs) first low = by (is_before p q) (put-low x p qs first low.1)
  where
    by : (b : Bool) → Each (λ y. less y x ≡ false) (put p qs) → Each (λ y. less y x ≡ false) (cond b (p ∷ q ∷ qs) (q ∷ put p qs))
    by true rest = (first, low)
    by false rest = (low.0, rest)

all-lower : (p q : Pair) (qs : List Pair) → less q p ≡ false → Each (λ y. less y q ≡ false) qs → Each (λ y. less y p ≡ false) qs
all-lower p q [] up low = tt
all-lower p q (r ∷ qs) up low = (pairs-order.chain r q p low.0 up, all-lower p q qs up low.1)

put-ascends : (p : Pair) (qs : List Pair) → Ascends less qs → Ascends less (put p qs)
put-ascends p [] up = (tt, tt)
put-ascends p (q ∷ qs) up = by (is_before p q) refl (put-ascends p qs up.1)
  where
    by : (b : Bool) → is_before p q ≡ b → Ascends less (put p qs) → Ascends less (cond b (p ∷ q ∷ qs) (q ∷ put p qs))
    by true is rest = let low = turned-up (pair_cmp p q) (pair_cmp q p) (pairs-total.antisymm p q) is in ((low, all-lower p q qs low up.0), up)
    by false is rest = (put-low q p qs (not-less (pair_cmp p q) is) up.0, rest)

sorted-sum : (f : Pair → ℕ) (ps : List Pair) → sum_by f (sorted ps) ≡ sum_by f ps
sorted-sum f [] = refl
sorted-sum f (p ∷ ps) = put-sum f p (sorted ps) ∙ ap (λ n. f p + n) (sorted-sum f ps) ∙ sym (sum_by-cons f p ps)

sorted-ascends : (ps : List Pair) → Ascends less (sorted ps)
sorted-ascends [] = tt
sorted-ascends (p ∷ ps) = put-ascends p (sorted ps) (sorted-ascends ps)

-- what a sort of the library makes is what sorting by insertion makes
pub sorted_is : (ps qs : List Pair) → IsPermutation ps qs → IsSortedBy less qs → qs ≡ sorted ps
sorted_is ps qs moved up =
    same-ascending less pairs-order pairs-exact qs (sorted ps) (ascends-sorted less pairs-order pairs-exact qs up) (sorted-ascends ps)
    (λ f. sum_by-IsPermutation f ps qs moved ∙ sym (sorted-sum f ps))
