-- What is in lists of indexes.
use Rattle.std.proofs.Common.{◌≡◌, ◌⊎◌, ℕ, zero, suc, Bool, true, List, [], ◌∷◌, Option, None, Some, refl, ap, ◌∙◌, inl, inr, eqb, arith}
use Rattle.std.specs.Cmp.{nat_eq_equiv}
use Rattle.std.specs.List.{list_any, filter_map, cons_option, Contains}
use Rattle.std.proofs.lemmas.List.Elements.{Contains-append_right}
use Rattle.std.proofs.lemmas.Map.Views.{Contains-from_any, list_any-from_Contains, exact_unsigned_eq}

-- whether a list has an index
abbrev pub has : List ℕ → ℕ → Bool
has xs q = list_any (eqb q) xs

pub Contains-from_has : (xs : List ℕ) (q : ℕ) → has xs q ≡ true → Contains xs q
Contains-from_has xs q is = Contains-from_any exact_unsigned_eq q xs is

pub has-from_Contains : (xs : List ℕ) (q : ℕ) → Contains xs q → has xs q ≡ true
has-from_Contains xs q is = list_any-from_Contains nat_eq_equiv q xs is

module _ {Y : Type 0} where
  -- what is in a list with an element before it
  pub Contains-cons_cases : (y : Y) (ys : List Y) (z : Y) → Contains (y ∷ ys) z → (y ≡ z) ⊎ Contains ys z
  Contains-cons_cases y ys z (zero, below, is) = inl is
  Contains-cons_cases y ys z (suc k, below, is) = inr (k, omega arith, is)

  option_cases : (o : Option Y) (ys : List Y) (y : Y) → Contains (cons_option o ys) y → (o ≡ Some y) ⊎ Contains ys y
  option_cases None ys y found = inr found
  option_cases (Some z) ys y found = elim (Contains-cons_cases z ys y found) [ inl is ↦ inl (ap Some is) | inr more ↦ inr more ]

  option_first : (o : Option Y) (ys : List Y) (y : Y) → o ≡ Some y → Contains (cons_option o ys) y
  option_first None ys y is = cc
  option_first (Some z) ys y is = (0, omega arith, cc)

  option_rest : (o : Option Y) (ys : List Y) (y : Y) → Contains ys y → Contains (cons_option o ys) y
  option_rest None ys y found = found
  option_rest (Some z) ys y found = Contains-append_right (z ∷ []) ys y found

module _ {X Y : Type 0} (h : X → Option Y) where
  -- what is in a filtered list comes from an element
  pub Contains-filter_map : (xs : List X) (y : Y) → Contains (filter_map h xs) y → (x : X) × Contains xs x × (h x ≡ Some y)
  Contains-filter_map [] y (k, below, is) = absurd (omega arith)
  Contains-filter_map (x ∷ xs) y found = elim (option_cases (h x) (filter_map h xs) y found) [
    | inl is ↦ (x, (0, omega arith, refl), is)
    | inr more ↦ let from = Contains-filter_map xs y more in (from.0, Contains-append_right (x ∷ []) xs from.0 from.1, from.2)
  ]

  -- and what an element gives is in it
  pub filter_map-Contains : (xs : List X) (x : X) (y : Y) → Contains xs x → h x ≡ Some y → Contains (filter_map h xs) y
  filter_map-Contains [] x y (k, below, same) is = absurd (omega arith)
  filter_map-Contains (w ∷ xs) x y found is = elim (Contains-cons_cases w xs x found) [
    | inl same ↦ option_first (h w) (filter_map h xs) y (ap h same ∙ is)
    | inr more ↦ option_rest (h w) (filter_map h xs) y (filter_map-Contains xs x y more is)
  ]
