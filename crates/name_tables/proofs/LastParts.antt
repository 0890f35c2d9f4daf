-- The last parts of names, and what stands before them.
use Rattle.std.proofs.Common.{◌≡◌, ◌≢◌, ◌+◌, ◌-◌, ◌⊎◌, ℕ, zero, suc, List, [], ◌∷◌, ◌++◌, Some, length, get_or, take, ap, sym, subst, refl, inl, inr, ◌∙◌, arith}
use Rattle.std.proofs.Math.Seq.{get_or-append_seam, take-append_seam}
use Rattle.std.proofs.lemmas.List.{length-append}
use Rattle.std.specs.Str.{IsCharBoundary, IsUtf8}
use Rattle.std.proofs.lemmas.Str.{IsCharBoundary-before_ascii, IsCharBoundary-start}
use Rattle.name_tables.specs.Tree.{Branch, HasParent, HasPart, IsTree, IsDescendant, path}
use Rattle.name_tables.specs.Scopes.{IsAround, IsBranchOf}
use Rattle.name_tables.specs.Parts.{parts, name_of}
use Rattle.name_tables.proofs.Counterparts.{parent-before, read-path}
use Rattle.name_tables.proofs.NameParts.{IsPart, name_of-last, name_of-parts, part-between, parts-name_of, parts-some}
use Rattle.name_tables.proofs.Paths.{descendant-path, descendant-some, path-descendant, path-whole}

module _ (bs : List Branch) (tree : IsTree bs) (at parent : ℕ) (part : List ℕ) (above : HasParent bs at parent)
    (named : HasPart bs at part) (below : parent ≢ 0) where
  -- the name of a branch is that of its parent, a dot, and its part, unless the parent is the root
  pub outer-name : (text : List ℕ) → IsDescendant bs 0 (parts text) at → (outer : List ℕ) × (text ≡ outer ++ 46 ∷ part) × IsDescendant bs 0 (parts outer) parent
  outer-name text down =
      let stands = descendant-some bs (parts text) 0 at (parts-some text) down in
      let apart : at ≢ 0 = λ is. omega (arith, stands.0) in
      let before = parent-before bs tree at parent apart above in
      let front = path bs parent in
      let there = path-descendant bs tree parent (omega (arith, before, stands.1)) in
      let some : front ≢ [] = λ none. below (sym (subst (λ ps. IsDescendant bs 0 ps parent) none there)) in
      let are : parts text ≡ front ++ part ∷ [] = sym (descendant-path bs tree (parts text) 0 at down) ∙ read-path bs tree at parent part apart above named in (
        name_of front,
        sym (name_of-parts text) ∙ ap name_of are ∙ name_of-last front part some,
        subst (λ ps. IsDescendant bs 0 ps parent) (sym (parts-name_of front some (path-whole bs tree parent))) there,
      )

-- a text is one part, or has it behind a dot
abbrev pub EndsWithPart : List ℕ → List ℕ → Type 0
EndsWithPart text part = (text ≡ part) ⊎ ((outer : List ℕ) × (text ≡ outer ++ 46 ∷ part))

module _ (bs : List Branch) (tree : IsTree bs) (at : ℕ) (part text : List ℕ) (named : HasPart bs at part) (down : IsDescendant bs 0 (parts text) at) where
  apart : at ≢ 0
  apart is = omega (arith, (descendant-some bs (parts text) 0 at (parts-some text) down).0)

  are : parts text ≡ path bs named.0.parent ++ part ∷ []
  are = sym (descendant-path bs tree (parts text) 0 at down) ∙ read-path bs tree at named.0.parent part apart (named.0, named.1, refl) named

  -- the part of a branch is one part
  pub last-one : IsPart part
  last-one = part-between text (path bs named.0.parent) part [] (sym are)

  -- a name ends with the part of its branch
  pub last-part : EndsWithPart text part
  last-part = elim named.0.parent as (λ parent. named.0.parent ≡ parent → EndsWithPart text part) [
    | zero ↦ λ is. inl (sym (name_of-parts text) ∙ ap name_of are ∙ ap (λ k. name_of (path bs k ++ part ∷ [])) is)
    | suc k ↦ λ is. let outer = outer-name bs tree at (suc k) part (named.0, named.1, is) named (λ none. omega (arith, none)) text down in inr (outer.0, outer.1)
  ] refl

module _ (text part : List ℕ) (n : ℕ) (is : n ≡ length text - (length part + 1)) where
  -- what stands before the last part is a text
  pub before-boundary : IsUtf8 text → EndsWithPart text part → IsCharBoundary text n
  before-boundary utf8 (inl one) = subst (IsCharBoundary text) (sym (omega (arith, is, ap length one))) (IsCharBoundary-start text utf8)
  before-boundary utf8 (inr dot) =
      let left : n ≡ length dot.0 = omega (arith, is, ap length dot.1 ∙ length-append dot.0 (46 ∷ part)) in
      let byte : get_or text n 0 ≡ 46 = (λ i. get_or (dot.1 i) (left i) 0) ∙ get_or-append_seam dot.0 46 part 0 in
      IsCharBoundary-before_ascii text n (omega (arith, left, ap length dot.1 ∙ length-append dot.0 (46 ∷ part))) (omega (arith, byte))

  -- it is that of the scope around
  pub before-around : EndsWithPart text part → IsPart part → IsAround text (take n text)
  before-around (inl one) whole =
      let none : n ≡ 0 = omega (arith, is, ap length one) in
      inr (ap (λ n. take n text) none, ap parts one ∙ whole ∙ ap (λ p. p ∷ []) (sym one))
  before-around (inr dot) whole =
      let left : n ≡ length dot.0 = omega (arith, is, ap length dot.1 ∙ length-append dot.0 (46 ∷ part)) in
      inl (part, dot.1 ∙ ap (λ outer. outer ++ 46 ∷ part) (sym (ap (λ n. take n text) left ∙ ap (take (length dot.0)) dot.1 ∙ take-append_seam dot.0 (46 ∷ part))), whole)

-- the branch of a scope that is not the empty one is that of its text
pub scope-descendant : (bs : List Branch) (text : List ℕ) (at : ℕ) → text ≢ [] → IsBranchOf bs text (Some at) → IsDescendant bs 0 (parts text) at
scope-descendant bs [] at some down = absurd (some refl)
scope-descendant bs (c ∷ cs) at some down = down
