-- Trees of names with more branches, and with less.
use Rattle.std.proofs.Common.{◌≡◌, ◌<◌, ◌≤◌, ◌⊎◌, ℕ, zero, suc, List, [], ◌∷◌, ◌++◌, length, take, drop, Some, refl, sym, ap, ◌∙◌, subst, inl, inr, append_assoc, append-nil, length-append, arith}
use Rattle.std.specs.List.{slice_get}
use Rattle.std.proofs.lemmas.List.{take-append-drop}
use Rattle.std.proofs.lemmas.Option.{none-some}
use Rattle.name_tables.specs.Tree.{Branch, branch, IsChild, InsertsChild, IsDescendant, IsTree, KeepsBranches, path, with_root}
use Rattle.name_tables.proofs.NameParts.{IsPart}
use Rattle.name_tables.proofs.Lists.{got-front, got-pushed}
use Rattle.name_tables.proofs.Paths.{child-inside, descendant-append, descendant-path, path-descendant}

module _ (bs more : List Branch) where
  -- a child is one with more branches
  pub child-front : (from : ℕ) (part : List ℕ) (k : ℕ) → IsChild bs from part k → IsChild (bs ++ more) from part k
  child-front from part k below = (below.0, below.1, got-front bs more k below.1 below.2, below.3, below.4)

  -- what leads down to a branch does so with more branches
  pub descendant-front : (ps : List (List ℕ)) (from k : ℕ) → IsDescendant bs from ps k → IsDescendant (bs ++ more) from ps k
  descendant-front [] from k is = is
  descendant-front (p ∷ ps) from k down = (down.0, child-front from p down.0 down.1, descendant-front ps down.0 k down.2)

  -- the first branches of a tree are one
  tree-front : IsTree (bs ++ more) → IsTree bs
  tree-front tree = record {
    rising = λ k x is. tree.rising k x (got-front bs more (suc k) x is);
    single = λ parent part k j here there. tree.single parent part k j (child-front parent part k here) (child-front parent part j there);
    whole = λ k x is. tree.whole k x (got-front bs more (suc k) x is);
  }

-- branches keep themselves
pub keeps-all : (bs : List Branch) → KeepsBranches bs bs
keeps-all bs = ([], sym (append-nil bs))

-- what keeps others keeps what these keep
pub keeps-more : (old mid new : List Branch) → KeepsBranches old mid → KeepsBranches mid new → KeepsBranches old new
keeps-more old mid new front back = (front.0 ++ back.0, back.1 ∙ ap (λ bs. bs ++ back.0) front.1 ∙ append_assoc old front.0 back.0)

-- branches keep the first of them
pub keeps-first : (bs : List Branch) (n : ℕ) → KeepsBranches (take n bs) bs
keeps-first bs n = (drop n bs, sym (take-append-drop n bs))

module _ (old new : List Branch) (keeps : KeepsBranches old new) where
  -- a child is kept
  pub child-kept : (from : ℕ) (part : List ℕ) (k : ℕ) → IsChild old from part k → IsChild new from part k
  child-kept from part k below = subst (λ bs. IsChild bs from part k) (sym keeps.1) (child-front old keeps.0 from part k below)

  -- and so is each descendant
  pub descendant-kept : (ps : List (List ℕ)) (from k : ℕ) → IsDescendant old from ps k → IsDescendant new from ps k
  descendant-kept ps from k down = subst (λ bs. IsDescendant bs from ps k) (sym keeps.1) (descendant-front old keeps.0 ps from k down)

  -- the branches that a tree keeps are one
  pub tree-kept : IsTree new → IsTree old
  tree-kept tree = tree-front old keeps.0 (subst IsTree keeps.1 tree)

  -- there are no fewer
  pub length-kept : length old ≤ length new
  length-kept = omega (arith, ap length keeps.1, length-append old keeps.0)

  -- each branch is kept
  pub get-kept : (k : ℕ) (b : Branch) → slice_get old k ≡ Some b → slice_get new k ≡ Some b
  get-kept k b is = ap (λ bs. slice_get bs k) keeps.1 ∙ got-front old keeps.0 k b is

  -- and has the name that it had
  pub path-kept : IsTree new → (k : ℕ) → k < length old → path new k ≡ path old k
  path-kept tree k inside = descendant-path new tree (path old k) 0 k (descendant-kept (path old k) 0 k (path-descendant old (tree-kept tree) k inside))

module _ (bs : List Branch) (b : Branch) where
  -- a child was one, or is the last branch
  pub child-pushed : (from : ℕ) (part : List ℕ) (k : ℕ) → IsChild (bs ++ b ∷ []) from part k → IsChild bs from part k ⊎ ((k ≡ length bs) × (b.parent ≡ from) × (b.part ≡ part))
  child-pushed from part k below = elim (got-pushed bs b k below.1 below.2) [
    | inl was ↦ inl (below.0, below.1, was, below.3, below.4)
    | inr last ↦ inr (last.0, ap (λ x. x.parent) last.1 ∙ below.3, ap (λ x. x.part) last.1 ∙ below.4)
  ]

  -- a tree with a new branch behind all others is one
  pub tree-pushed : IsTree bs → b.parent < length bs → IsPart b.part → ((k : ℕ) → IsChild bs b.parent b.part k → ⊥) → IsTree (bs ++ b ∷ [])
  tree-pushed tree inside whole none = record {
    rising = λ k x is. elim (got-pushed bs b (suc k) x is) [
      | inl was ↦ tree.rising k x was
      | inr last ↦ subst (λ n. x.parent < n) (sym last.0) (subst (λ y. y.parent < length bs) last.1 inside)
    ];
    single = λ parent part k j here there. elim (child-pushed parent part k here) [
      | inl was ↦ elim (child-pushed parent part j there) [
        | inl also ↦ tree.single parent part k j was also
        | inr last ↦ absurd (none k (was.0, was.1, was.2, was.3 ∙ sym last.1, was.4 ∙ sym last.2))
      ]
      | inr last ↦ elim (child-pushed parent part j there) [
        | inl also ↦ absurd (none j (also.0, also.1, also.2, also.3 ∙ sym last.1, also.4 ∙ sym last.2))
        | inr too ↦ last.0 ∙ sym too.0
      ]
    ];
    whole = λ k x is. elim (got-pushed bs b (suc k) x is) [
      | inl was ↦ tree.whole k x was
      | inr last ↦ subst (λ y. IsPart y.part) last.1 whole
    ];
  }

module _ (old new : List Branch) (parent : ℕ) (part : List ℕ) (k : ℕ) (inserts : InsertsChild old new parent part k) where
  -- the child that is found or inserted is inside
  pub inserted-inside : k < length new
  inserted-inside = child-inside new parent part k inserts.0

  -- the tree with the child is one
  pub tree-inserted : IsTree old → parent < length old → IsPart part → IsTree new
  tree-inserted tree inside whole = elim inserts.1 [
    | inl is ↦ subst IsTree (sym is) tree
    | inr more ↦ subst IsTree (sym more.0) (tree-pushed old (branch parent part) tree inside whole more.1)
  ]

  -- the others are kept
  pub keeps-inserted : KeepsBranches old new
  keeps-inserted = elim inserts.1 [
    | inl is ↦ ([], is ∙ sym (append-nil old))
    | inr more ↦ (branch parent part ∷ [], more.0)
  ]

  -- the part leads on to the child
  pub descendant-inserted : (ps : List (List ℕ)) (from : ℕ) → IsDescendant old from ps parent → IsDescendant new from (ps ++ part ∷ []) k
  descendant-inserted ps from down = descendant-append new ps (part ∷ []) from parent k (descendant-kept old new keeps-inserted ps from parent down) (k, inserts.0, refl)

-- no branches are a tree
pub tree-none : IsTree []
tree-none = record {
  rising = λ k b is. absurd (none-some b is);
  single = λ parent part k j here there. absurd (none-some here.1 here.2);
  whole = λ k b is. absurd (none-some b is);
}

-- the root alone has no child
child-root : (parent : ℕ) (part : List ℕ) (k : ℕ) → IsChild (branch 0 [] ∷ []) parent part k → ⊥
child-root parent part zero below = omega (arith, below.0)
child-root parent part (suc k) below = none-some below.1 below.2

tree-root : IsTree (branch 0 [] ∷ [])
tree-root = record {
  rising = λ k b is. absurd (none-some b is);
  single = λ parent part k j here there. absurd (child-root parent part k here);
  whole = λ k b is. absurd (none-some b is);
}

-- a tree with a root where there was none is one
pub tree-with_root : (bs : List Branch) → IsTree bs → IsTree (with_root bs)
tree-with_root [] tree = tree-root
tree-with_root (b ∷ bs) tree = tree

-- all branches are kept
pub keeps-with_root : (bs : List Branch) → KeepsBranches bs (with_root bs)
keeps-with_root [] = (branch 0 [] ∷ [], refl)
keeps-with_root (b ∷ bs) = keeps-all (b ∷ bs)

-- and there are some
pub length-with_root : (bs : List Branch) → 0 < length (with_root bs)
length-with_root [] = omega arith
length-with_root (b ∷ bs) = omega arith
