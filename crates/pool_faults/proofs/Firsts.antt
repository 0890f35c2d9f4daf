-- The first entry of a list that has a path, where one more entry comes.
use Rattle.std.proofs.Common.{◌≡◌, ℤ, Bool, true, false, cond, List, [], ◌∷◌, ◌++◌, Option, None, Some, refl, ap, sym, ◌∙◌, find, is_some, subst}
use Rattle.std.specs.Cmp.Lexicographic.{pointwise, pointwise_decides}
use Rattle.std.specs.Cmp.{signed_Decides}
use Rattle.std.specs.Option.{option_map, option_or, option_and_then}
use Rattle.std.specs.Ordering.{int_eq}
use Rattle.std.proofs.lemmas.List.Folds.{find-append}

no-none : false ≡ true → ⊥
no-none e = cc

module _ {X Y : Type 0} (path_of : X → List ℤ) (value : X → Y) where
  abbrev first_at : List X → List ℤ → Option X
  first_at xs path = find (λ x. pointwise int_eq (path_of x) path) xs

  one-kept : (b : Bool) (x : X) (was : Option X) → (b ≡ true → is_some was ≡ true) → option_or was (cond b (Some x) None) ≡ was
  one-kept b x (Some y) has = refl
  one-kept true x None has = absurd (no-none (has refl))
  one-kept false x None has = refl

  same-path : (x : X) (path : List ℤ) → pointwise int_eq (path_of x) path ≡ true → path_of x ≡ path
  same-path x path same = (pointwise_decides signed_Decides (path_of x) path).0 same

  -- one whose path is there already
  pub first-kept : (xs : List X) (x : X) (path : List ℤ) → is_some (first_at xs (path_of x)) ≡ true → first_at (xs ++ x ∷ []) path ≡ first_at xs path
  first-kept xs x path has =
      find-append (λ y. pointwise int_eq (path_of y) path) xs (x ∷ [])
      ∙ one-kept (pointwise int_eq (path_of x) path) x (first_at xs path) (λ same. subst (λ p. is_some (first_at xs p) ≡ true) (same-path x path same) has)

  one-put : (b : Bool) (x : X) (was : Option X) → (b ≡ true → was ≡ None) → option_map value (option_or was (cond b (Some x) None)) ≡ cond b (Some (value x)) (option_map value was)
  one-put true x was none = ap (λ found. option_map value (option_or found (Some x))) (none refl)
  one-put false x None none = refl
  one-put false x (Some y) none = refl

  -- one whose path is new
  pub first-put : (xs : List X) (x : X) (path : List ℤ) → first_at xs (path_of x) ≡ None
      → option_map value (first_at (xs ++ x ∷ []) path) ≡ cond (pointwise int_eq (path_of x) path) (Some (value x)) (option_map value (first_at xs path))
  first-put xs x path none =
      ap (option_map value) (find-append (λ y. pointwise int_eq (path_of y) path) xs (x ∷ []))
      ∙ one-put (pointwise int_eq (path_of x) path) x (first_at xs path) (λ same. subst (λ p. first_at xs p ≡ None) (same-path x path same) none)

-- what was looked up, one level less
pub joined-none : {X Y : Type 0} (h : X → Option Y) (found : Option X) (r : Option (Option Y)) → r ≡ option_map h found → r ≡ None → None ≡ option_and_then h found
joined-none h None r is none = refl
joined-none h (Some x) r is none = absurd (let e = sym none ∙ is in cc)

pub joined-some : {X Y : Type 0} (h : X → Option Y) (found : Option X) (r : Option (Option Y)) (y : Option Y) → r ≡ option_map h found → r ≡ Some y → y ≡ option_and_then h found
joined-some h None r y is some = absurd (let e = sym some ∙ is in cc)
joined-some h (Some x) r y is some = let e = sym some ∙ is in cc

-- whether a path is there, as a look-up tells it
pub is-there : {X Y : Type 0} (h : X → Y) (found : Option X) → is_some (option_map h found) ≡ true → is_some found ≡ true
is-there h None there = there
is-there h (Some x) there = refl

pub is-absent : {X Y : Type 0} (h : X → Y) (found : Option X) → is_some (option_map h found) ≡ false → found ≡ None
is-absent h None there = refl
is-absent h (Some x) there = absurd (let e = there in cc)
