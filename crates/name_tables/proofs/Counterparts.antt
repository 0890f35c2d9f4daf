-- Branches with the same names in two trees.
use Rattle.std.proofs.Common.{◌≡◌, ◌≢◌, ◌<◌, ℕ, zero, suc, List, [], ◌∷◌, ◌++◌, length, Option, Some, refl, sym, ap, ◌∙◌, subst, IfSome, append_assoc, arith}
use Rattle.std.specs.List.{slice_get}
use Rattle.std.proofs.lemmas.Option.{IfSome_then, same_Some}
use Rattle.name_tables.specs.Tree.{Branch, HasParent, HasPart, IsChild, IsTree, IsDescendant, path}
use Rattle.name_tables.specs.Within.{IsAbove}
use Rattle.name_tables.proofs.Paths.{child-inside, descendant-append, descendant-one, descendant-split, path-step}

module _ (branches : List Branch) (tree : IsTree branches) where
  -- the name of any branch but the root is that of its parent, and its part
  parent-path : (at : ℕ) (b : Branch) → at ≢ 0 → slice_get branches at ≡ Some b → path branches at ≡ path branches b.parent ++ b.part ∷ []
  parent-path zero b some is = absurd (some refl)
  parent-path (suc k) b some is = path-step branches tree k b is

  -- and the parent stands before it
  pub parent-before : (at parent : ℕ) → at ≢ 0 → HasParent branches at parent → parent < at
  parent-before zero parent some above = absurd (some refl)
  parent-before (suc k) parent some above = subst (λ p. p < suc k) above.2 (tree.rising k above.0 above.1)

  -- where parent and part of a branch are read
  pub read-path : (at parent : ℕ) (part : List ℕ) → at ≢ 0 → HasParent branches at parent → HasPart branches at part
      → path branches at ≡ path branches parent ++ part ∷ []
  read-path at parent part some above named =
      let same = same_Some named.0 above.0 (sym named.1 ∙ above.1) in
      parent-path at above.0 some above.1
      ∙ (λ i. path branches (above.2 i) ++ (ap (λ b. b.part) (sym same) ∙ named.2) i ∷ [])

module _ (others : List Branch) (tree : IsTree others) (front whole : List (List ℕ)) (part : List ℕ) (is : whole ≡ front ++ part ∷ []) where
  -- the branch of one part more
  pub found-more : (from : ℕ) (found : Option ℕ) → IsDescendant others 0 front from → IfSome found (λ k. IsChild others from part k) → IfSome found (λ k. IsDescendant others 0 whole k)
  found-more from found down here =
      IfSome_then found here (λ k below. subst (λ ps. IsDescendant others 0 ps k) (sym is) (descendant-append others front (part ∷ []) 0 from k down (k, below, refl)))

  -- no child of the branch of the parts before it has that
  pub none-more : (from : ℕ) → IsDescendant others 0 front from → ((k : ℕ) → IsChild others from part k → ⊥) → (k : ℕ) → IsDescendant others 0 whole k → ⊥
  none-more from down none k all =
      let way = descendant-split others front (part ∷ []) 0 k (subst (λ ps. IsDescendant others 0 ps k) is all) in
      none way.2.0 (subst (λ j. IsChild others j part way.2.0) (descendant-one others tree front 0 way.0 from way.1 down) way.2.1)

module _ (branches others : List Branch) (tree : IsTree branches) (at other : ℕ) (some : at ≢ 0) (down : IsDescendant others 0 (path branches at) other) where
  -- the name of a branch leads by that of its parent, and then by its part
  last-step : (b : Branch) → slice_get branches at ≡ Some b → (j : ℕ) × IsDescendant others 0 (path branches b.parent) j × IsDescendant others j (b.part ∷ []) other
  last-step b is =
      descendant-split others (path branches b.parent) (b.part ∷ []) 0 other (subst (λ ps. IsDescendant others 0 ps other) (parent-path branches tree at b some is) down)

  -- where the name of a branch leads, a branch stands
  pub pair-inside : (parent : ℕ) → HasParent branches at parent → other < length others
  pair-inside parent above =
      let way = last-step above.0 above.1 in
      subst (λ k. k < length others) way.2.2 (child-inside others way.0 above.0.part way.2.0 way.2.1)

  -- the parents of a pair are a pair
  pub pair-parents : (parent above : ℕ) → HasParent branches at parent → HasParent others other above
      → IsDescendant others 0 (path branches parent) above
  pair-parents parent above has there =
      let way = last-step has.0 has.1 in
      let below = way.2.1 in
      let same = same_Some below.1 there.0 (sym below.2 ∙ ap (slice_get others) way.2.2 ∙ there.1) in
      let is : way.0 ≡ above = sym below.3 ∙ ap (λ b. b.parent) same ∙ there.2 in
      subst (λ j. IsDescendant others 0 (path branches parent) j) is (subst (λ k. IsDescendant others 0 (path branches k) way.0) has.2 way.1)

-- where no branch has some parts, none has more
pub none-behind : (others : List Branch) (front rest whole : List (List ℕ)) → whole ≡ front ++ rest → ((k : ℕ) → IsDescendant others 0 front k → ⊥) → (k : ℕ) → IsDescendant others 0 whole k → ⊥
none-behind others front rest whole is none k all =
    let way = descendant-split others front rest 0 k (subst (λ ps. IsDescendant others 0 ps k) is all) in none way.0 way.1

module _ (branches : List Branch) (tree : IsTree branches) where
  -- the parent of a branch stands above it
  pub over-next : (at parent : ℕ) → at ≢ 0 → HasParent branches at parent → IsAbove branches parent at
  over-next at parent some above =
      (parent-before branches tree at parent some above, above.0.part ∷ [], read-path branches tree at parent above.0.part some above (above.0, above.1, refl))

  -- and so does the parent of a branch above it
  pub over-more : (at end parent : ℕ) → end ≢ 0 → IsAbove branches end at → HasParent branches end parent → IsAbove branches parent at
  over-more at end parent some over above =
      let next = over-next end parent some above in
      let before : parent < end = next.0 in
      let is = over.2 ∙ ap (λ ps. ps ++ over.1) next.2 ∙ append_assoc (path branches parent) next.1 over.1 in
      (omega (arith, over.0), next.1 ++ over.1, is)
