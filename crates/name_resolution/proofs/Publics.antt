-- The files of a list's names or places, one after another.
use Rattle.std.proofs.Common.{◌≡◌, ◌+◌, ◌<◌, ℕ, List, [], ◌∷◌, ◌++◌, Option, None, Some, refl, ap, sym, ◌∙◌, length, take, get_or}
use Rattle.std.specs.List.{filter_map, cons_option}
use Rattle.std.specs.Option.{option_and_then}
use Rattle.std.proofs.lemmas.List.{take_more, append-nil}
use Rattle.std.proofs.lemmas.List.Elements.{filter_map-append}
use Rattle.plain_data.specs.Lists.{listed}

module _ {X Y : Type 0} (h : X → Option Y) where
  one : (x : X) → filter_map h (x ∷ []) ≡ listed (h x)
  one x = elim (h x) as (λ o. cons_option o [] ≡ listed o) [ None ↦ refl | Some y ↦ refl ]

  filter_map_more : (xs : List X) (i : ℕ) (x : X) → i < length xs → x ≡ get_or xs i x → filter_map h (take (i + 1) xs) ≡ filter_map h (take i xs) ++ listed (h x)
  filter_map_more xs i x below is =
      ap (filter_map h) (take_more xs i x below ∙ ap (λ y. take i xs ++ y ∷ []) (sym is))
      ∙ filter_map-append h (take i xs) (x ∷ [])
      ∙ ap (λ ys. filter_map h (take i xs) ++ ys) (one x)

-- the step of a loop over places of names
module _ {X Y Z : Type 0} (g : X → Option Y) (h : Y → Option Z) (xs : List X) (i : ℕ) (x : X) (below : i < length xs) (is : x ≡ get_or xs i x) where
  abbrev so_far : ℕ → List Z
  so_far n = filter_map h (filter_map g (take n xs))

  by_place : (o : Option Y) → filter_map h (filter_map g (take i xs) ++ listed o) ≡ so_far i ++ listed (option_and_then h o)
  by_place None = ap (filter_map h) (append-nil (filter_map g (take i xs))) ∙ sym (append-nil (so_far i))
  by_place (Some y) = filter_map-append h (filter_map g (take i xs)) (y ∷ []) ∙ ap (λ ys. so_far i ++ ys) (one h y)

  pub placed_more : so_far (i + 1) ≡ so_far i ++ listed (option_and_then h (g x))
  placed_more = ap (filter_map h) (filter_map_more g xs i x below is) ∙ by_place (g x)
