-- Trees of names: which parts lead down to a branch, and that these make its name.
use Rattle.std.proofs.Common.{◌≡◌, ◌≤◌, ◌<◌, ◌≢◌, ℕ, zero, suc, List, [], ◌∷◌, ◌++◌, length, Option, Some, None, refl, sym, ap, ◌∙◌, subst, append_assoc, append-nil, le_refl, ne_eqb, if◌then◌else◌, arith}
use Rattle.std.specs.List.{slice_get, All}
use Rattle.std.specs.Option.{option_map_or}
use Rattle.std.proofs.lemmas.Option.{slice_get_within}
use Rattle.std.proofs.lemmas.List.Elements.{All-nil, All-push}
use Rattle.name_tables.specs.Tree.{Branch, IsChild, IsDescendant, path_of, path, IsTree}
use Rattle.name_tables.specs.Parts.{name_of, parts}
use Rattle.name_tables.proofs.Lists.{some_at}
use Rattle.name_tables.proofs.NameParts.{IsPart, name_of-parts}

module _ (bs : List Branch) where
  -- parts behind those that lead down to a branch
  pub descendant-append : (ps qs : List (List ℕ)) (i j k : ℕ) → IsDescendant bs i ps j → IsDescendant bs j qs k → IsDescendant bs i (ps ++ qs) k
  descendant-append [] qs i j k is down = subst (λ at. IsDescendant bs at qs k) (sym is) down
  descendant-append (p ∷ ps) qs i j k to down = (to.0, to.1, descendant-append ps qs to.0 j k to.2 down)

  -- the branch to which the first parts lead
  pub descendant-split : (ps qs : List (List ℕ)) (i k : ℕ) → IsDescendant bs i (ps ++ qs) k → (j : ℕ) × IsDescendant bs i ps j × IsDescendant bs j qs k
  descendant-split [] qs i k down = (i, refl, down)
  descendant-split (p ∷ ps) qs i k down =
      let rest = descendant-split ps qs down.0 k down.2 in
      (rest.0, (down.0, down.1, rest.1), rest.2)

  -- a child is inside
  pub child-inside : (from : ℕ) (part : List ℕ) (k : ℕ) → IsChild bs from part k → k < length bs
  child-inside from part k below = slice_get_within bs k below.1 below.2

  -- some parts lead down to a branch that is inside, and is not the root
  pub descendant-some : (ps : List (List ℕ)) (i k : ℕ) → ps ≢ [] → IsDescendant bs i ps k → (0 < k) × (k < length bs)
  descendant-some [] i k some down = absurd (some refl)
  descendant-some (p ∷ []) i k some down =
      subst (λ at. (0 < at) × (at < length bs)) down.2 (down.1.0, child-inside i p down.0 down.1)
  descendant-some (p ∷ q ∷ ps) i k some down = descendant-some (q ∷ ps) down.0 k (λ none. cc) down.2

  -- parts lead from a branch that is inside to one that is
  pub descendant-inside : (ps : List (List ℕ)) (from k : ℕ) → from < length bs → IsDescendant bs from ps k → k < length bs
  descendant-inside [] from k inside is = subst (λ at. at < length bs) is inside
  descendant-inside (p ∷ ps) from k inside down = (descendant-some (p ∷ ps) from k (λ none. cc) down).1

-- the parts of the name of a branch that was looked up, where no more than n stand before its own
abbrev parts_to : List Branch → ℕ → Option Branch → List (List ℕ)
parts_to bs n found = option_map_or (λ b. path_of bs n b.parent ++ b.part ∷ []) found []

-- the name of a branch that is not the root
pub path_of-suc : (bs : List Branch) (n k : ℕ) → path_of bs (suc n) (suc k) ≡ parts_to bs n (slice_get bs (suc k))
path_of-suc bs n k = ap (λ is. if is then [] else parts_to bs n (slice_get bs (suc k))) (ne_eqb (suc k) 0 (λ e. omega arith))

module _ (bs : List Branch) (tree : IsTree bs) where
  -- as many parts as the number of a branch are enough for its name
  path_of-enough : (n m k : ℕ) → k ≤ n → k ≤ m → path_of bs n k ≡ path_of bs m k
  path_of-enough zero zero k low high = refl
  path_of-enough zero (suc m) zero low high = refl
  path_of-enough zero (suc m) (suc k) low high = absurd (omega arith)
  path_of-enough (suc n) zero zero low high = refl
  path_of-enough (suc n) zero (suc k) low high = absurd (omega arith)
  path_of-enough (suc n) (suc m) zero low high = refl
  path_of-enough (suc n) (suc m) (suc k) low high =
      path_of-suc bs n k
      ∙ (elim (slice_get bs (suc k)) as (λ o. slice_get bs (suc k) ≡ o → parts_to bs n o ≡ parts_to bs m o) [
        | None ↦ λ is. refl
        | Some b ↦ λ is. let before = tree.rising k b is in ap (λ p. p ++ b.part ∷ []) (path_of-enough n m b.parent (omega (arith, before)) (omega (arith, before)))
      ] refl)
      ∙ sym (path_of-suc bs m k)

  -- the root has no parts
  pub path-root : path bs 0 ≡ []
  path-root = refl

  -- the parts of a name are those of the parent, and its own
  pub path-step : (k : ℕ) (b : Branch) → slice_get bs (suc k) ≡ Some b → path bs (suc k) ≡ path bs b.parent ++ b.part ∷ []
  path-step k b is =
      path_of-suc bs k k ∙ ap (parts_to bs k) is
      ∙ ap (λ p. p ++ b.part ∷ []) (path_of-enough k b.parent b.parent (omega (arith, tree.rising k b is)) (le_refl b.parent))

  -- the same of a child
  pub path-child : (from : ℕ) (part : List ℕ) (k : ℕ) → IsChild bs from part k → path bs k ≡ path bs from ++ part ∷ []
  path-child from part zero below = absurd (omega (arith, below.0))
  path-child from part (suc k) below = path-step k below.1 below.2 ∙ (λ i. path bs (below.3 i) ++ below.4 i ∷ [])

  -- parts lead from a branch to one of whose name they are the last
  pub descendant-path : (ps : List (List ℕ)) (from k : ℕ) → IsDescendant bs from ps k → path bs k ≡ path bs from ++ ps
  descendant-path [] from k is = ap (path bs) (sym is) ∙ sym (append-nil (path bs from))
  descendant-path (p ∷ ps) from k down =
      descendant-path ps down.0 k down.2 ∙ ap (λ q. q ++ ps) (path-child from p down.0 down.1) ∙ append_assoc (path bs from) (p ∷ []) ps

  -- parts lead to one branch
  pub descendant-one : (ps : List (List ℕ)) (from k j : ℕ) → IsDescendant bs from ps k → IsDescendant bs from ps j → k ≡ j
  descendant-one [] from k j is also = sym is ∙ also
  descendant-one (p ∷ ps) from k j down also =
      descendant-one ps down.0 k j down.2 (subst (λ at. IsDescendant bs at ps j) (tree.single from p also.0 down.0 also.1 down.1) also.2)

  -- the parts of its name lead to each of the first branches
  path-descendant_upto : (n k : ℕ) → k ≤ n → k < length bs → IsDescendant bs 0 (path bs k) k
  path-descendant_upto n zero low inside = refl
  path-descendant_upto zero (suc k) low inside = absurd (omega arith)
  path-descendant_upto (suc n) (suc k) low inside =
      let here = some_at bs (suc k) inside in
      let before = tree.rising k here.0 here.1 in
      let down = path-descendant_upto n here.0.parent (omega (arith, before)) (omega (arith, before)) in
      let below : IsChild bs here.0.parent here.0.part (suc k) = (omega arith, here.0, here.1, refl, refl) in
      subst (λ ps. IsDescendant bs 0 ps (suc k)) (sym (path-step k here.0 here.1))
      (descendant-append bs (path bs here.0.parent) (here.0.part ∷ []) 0 here.0.parent (suc k) down (suc k, below, refl))

  -- the parts of its name lead to each branch
  pub path-descendant : (k : ℕ) → k < length bs → IsDescendant bs 0 (path bs k) k
  path-descendant k inside = path-descendant_upto k k (le_refl k) inside

  -- the parts of the names of the first branches are whole
  path-whole_upto : (n k : ℕ) → k ≤ n → All IsPart (path bs k)
  path-whole_upto n zero low = All-nil IsPart
  path-whole_upto zero (suc k) low = absurd (omega arith)
  path-whole_upto (suc n) (suc k) low =
      elim (slice_get bs (suc k)) as (λ o. slice_get bs (suc k) ≡ o → All IsPart (path bs (suc k))) [
        | None ↦ λ is. subst (All IsPart) (sym (path_of-suc bs k k ∙ ap (parts_to bs k) is)) (All-nil IsPart)
        | Some b ↦ λ is. subst (All IsPart) (sym (path-step k b is))
            (All-push IsPart (path bs b.parent) b.part (path-whole_upto n b.parent (omega (arith, tree.rising k b is))) (tree.whole k b is))
      ] refl

  -- the parts of each name are whole
  pub path-whole : (k : ℕ) → All IsPart (path bs k)
  path-whole k = path-whole_upto k k (le_refl k)

  -- the name whose parts lead down to a branch is the name of that branch
  pub name-descendant : (name : List ℕ) (k : ℕ) → IsDescendant bs 0 (parts name) k → name ≡ name_of (path bs k)
  name-descendant name k down = sym (ap name_of (descendant-path (parts name) 0 k down) ∙ name_of-parts name)
