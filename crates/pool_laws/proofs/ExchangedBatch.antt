-- A list in another order comes of exchanges of parts that stand next to each other.
use Rattle.std.proofs.Common.{◌≡◌, ◌<◌, inl, inr, ℕ, zero, suc, List, [], ◌∷◌, ◌++◌, length, take, drop, set, get_or, append_assoc, ap, subst, subst₂, sym, ◌∙◌, arith}
use Rattle.std.proofs.lemmas.Bool.{cases_order}
use Rattle.std.proofs.lemmas.List.{set_comm, set_split, set-get_or, set-set}
use Rattle.std.proofs.lemmas.List.Sorted.{IsPermutation-keeps}
use Rattle.std.specs.List.{swap}
use Rattle.std.specs.List.Sorted.{IsPermutation}

-- two entries of a list in each other's place
record SwapsTwo {X : Type 0} (xs ys : List X) : Type 0 where
  front : List X
  first : X
  middle : List X
  second : X
  rest : List X
  was : xs ≡ front ++ (first ∷ (middle ++ (second ∷ rest)))
  is : ys ≡ front ++ (second ∷ (middle ++ (first ∷ rest)))

swaps-two : {X : Type 0} (d : X) (xs : List X) (i j : ℕ) → i < j → j < length xs → SwapsTwo xs (set (set xs i (get_or xs j d)) j (get_or xs i d))
swaps-two d [] i j before below = absurd (omega (arith, below))
swaps-two d (x ∷ xs) zero zero before below = absurd (omega (arith, before))
swaps-two d (x ∷ xs) zero (suc j) before below =
    let y = get_or xs j d in
    record {
      front = [];
      first = x;
      middle = take j xs;
      second = y;
      rest = drop (suc j) xs;
      was = ap (λ ys. x ∷ ys) (sym (set-get_or xs j d) ∙ set_split xs j y (omega (arith, below)));
      is = ap (λ ys. y ∷ ys) (set_split xs j x (omega (arith, below)));
    }
swaps-two d (x ∷ xs) (suc i) zero before below = absurd (omega (arith, before))
swaps-two d (x ∷ xs) (suc i) (suc j) before below =
    let inner = swaps-two d xs i j (omega (arith, before)) (omega (arith, below)) in
    record {
      front = x ∷ inner.front;
      first = inner.first;
      middle = inner.middle;
      second = inner.second;
      rest = inner.rest;
      was = ap (λ ys. x ∷ ys) inner.was;
      is = ap (λ ys. x ∷ ys) inner.is;
    }

-- a relation of lists that holds of equal ones, passes on, and holds where two parts are exchanged
module _ {X : Type 0} (P : List X → List X → Type 0) (same : (xs : List X) → P xs xs) (chain : (xs ys zs : List X) → P xs ys → P ys zs → P xs zs)
    (exchange : (front first second rest : List X) → P (front ++ first ++ second ++ rest) (front ++ second ++ first ++ rest)) where
  of-two : (front : List X) (f : X) (middle : List X) (g : X) (rest : List X) → P (front ++ (f ∷ (middle ++ (g ∷ rest)))) (front ++ (g ∷ (middle ++ (f ∷ rest))))
  of-two front f middle g rest =
      let one : List X = f ∷ [] in
      let other : List X = g ∷ [] in
      let start : front ++ one ++ (middle ++ other) ++ rest ≡ front ++ (f ∷ (middle ++ (g ∷ rest))) =
      append_assoc (front ++ one) (middle ++ other) rest ∙ append_assoc front one (middle ++ other ++ rest) ∙ ap (λ ys. front ++ (f ∷ ys)) (append_assoc middle other rest) in
      let between : front ++ (middle ++ other) ++ one ++ rest ≡ front ++ middle ++ other ++ (f ∷ rest) =
      append_assoc (front ++ (middle ++ other)) one rest ∙ ap (λ ys. ys ++ (f ∷ rest)) (sym (append_assoc front middle other)) in
      let end : front ++ other ++ middle ++ (f ∷ rest) ≡ front ++ (g ∷ (middle ++ (f ∷ rest))) =
      append_assoc (front ++ other) middle (f ∷ rest) ∙ append_assoc front other (middle ++ (f ∷ rest)) in
      chain _ _ _ (subst₂ P start between (exchange front one (middle ++ other) rest)) (subst (P (front ++ middle ++ other ++ (f ∷ rest))) end (exchange front middle other (f ∷ rest)))

  of-swapped : (xs ys : List X) → SwapsTwo xs ys → P xs ys
  of-swapped xs ys two = subst₂ P (sym two.was) (sym two.is) (of-two two.front two.first two.middle two.second two.rest)

  of-ascending : (xs : List X) (i j : ℕ) → i < j → j < length xs → P xs (swap xs i j)
  of-ascending [] i j before below = same []
  of-ascending (x ∷ xs) i j before below = of-swapped (x ∷ xs) (swap (x ∷ xs) i j) (swaps-two x (x ∷ xs) i j before below)

  of-swap : (xs : List X) (i j : ℕ) → i < length xs → j < length xs → P xs (swap xs i j)
  of-swap [] i j below_i below_j = same []
  of-swap (x ∷ xs) i j below_i below_j = elim (cases_order i j) [
    | inl equal ↦ subst (P (x ∷ xs)) (swapped-itself i j equal) (same (x ∷ xs))
    | inr (inl before) ↦ of-ascending (x ∷ xs) i j before below_j
    | inr (inr after) ↦
        let back = set_comm (x ∷ xs) j i (get_or (x ∷ xs) i x) (get_or (x ∷ xs) j x) (λ e. omega (arith, after, e)) in
        subst (P (x ∷ xs)) back (of-ascending (x ∷ xs) j i after below_i)
  ]
    where
      swapped-itself : (i j : ℕ) → i ≡ j → x ∷ xs ≡ swap (x ∷ xs) i j
      swapped-itself i j equal =
          let y = get_or (x ∷ xs) i x in
          sym (set-get_or (x ∷ xs) i x) ∙ sym (set-set (x ∷ xs) i y y) ∙ ap (λ k. set (set (x ∷ xs) i (get_or (x ∷ xs) k x)) k y) equal

  -- then it holds of a list and the same in another order
  pub by-exchanges : (xs ys : List X) → IsPermutation xs ys → P xs ys
  by-exchanges xs ys moved = IsPermutation-keeps xs (P xs) (same xs) (λ zs i j below_i below_j holds. chain xs zs (swap zs i j) holds (of-swap zs i j below_i below_j)) ys moved
