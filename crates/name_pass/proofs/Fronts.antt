-- The texts before each dot of a text that grows at its end.
use Rattle.std.proofs.Common.{◌≡◌, ℕ, Bool, true, false, List, [], ◌∷◌, ◌++◌, map, cond, refl, ap, ◌∙◌}
use Rattle.std.proofs.lemmas.List.{map-append}
use Rattle.proto_types.specs.Names.{fronts, is_dot}

map-cond : (f : List ℕ → List ℕ) (b : Bool) (x : List ℕ) → map f (cond b (x ∷ []) []) ≡ cond b (f x ∷ []) []
map-cond f true x = refl
map-cond f false x = refl

-- behind the texts so far comes the whole, where a dot follows
pub fronts_push : (xs : List ℕ) (c : ℕ) → fronts (xs ++ c ∷ []) ≡ fronts xs ++ cond (is_dot c) (xs ∷ []) []
fronts_push [] c = elim (is_dot c) as (λ b. cond {A = List (List ℕ)} b ([] ∷ []) [] ≡ [] ++ cond {A = List (List ℕ)} b ([] ∷ []) []) [ true ↦ refl | false ↦ refl ]
fronts_push (x ∷ xs) c =
    let longer : List ℕ → List ℕ = λ front. x ∷ front in
    let here : List (List ℕ) = map longer (fronts (xs ++ c ∷ [])) in
    let before : List (List ℕ) = map longer (fronts xs) in
    let last : List (List ℕ) = cond (is_dot c) ((x ∷ xs) ∷ []) [] in
    let deeper : here ≡ before ++ last =
    ap (map longer) (fronts_push xs c) ∙ map-append longer (fronts xs) _ ∙ ap (λ ys. before ++ ys) (map-cond longer (is_dot c) xs) in
    elim (is_dot x) as (λ b. cond b ([] ∷ here) here ≡ cond b ([] ∷ before) before ++ last) [ true ↦ ap (λ ys. [] ∷ ys) deeper | false ↦ deeper ]
