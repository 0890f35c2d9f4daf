-- What is told of each element by its position: nothing where nothing was told, also of elements that were changed.
use Rattle.std.proofs.Common.{◌≡◌, ℕ, suc, false, is_some, Option, None, Some, List, [], ◌∷◌, ◌++◌, map, refl, ap, sym, ◌∙◌}
use Rattle.std.proofs.lemmas.List.{map-id}
use Rattle.std.specs.List.{flat_map}
use Rattle.std.specs.Option.{option_map}
use Rattle.plain_data.specs.Each.{map_enumerated}
use Rattle.plain_data.specs.Lists.{listed}
use Rattle.reference_pass.proofs.Unbroken.{both-empty}

-- what is listed of nothing, and what nothing lists
pub nothing-of : {X Y : Type 0} (o : Option X) (f : X → Y) → listed (option_map f o) ≡ [] → is_some o ≡ false
nothing-of None f none = refl
nothing-of (Some x) f none = absurd (cc)

pub lists-nothing : {X Y : Type 0} (o : Option X) (f : X → Y) → is_some o ≡ false → listed (option_map f o) ≡ []
lists-nothing None f none = refl
lists-nothing (Some x) f none = absurd (cc)

-- nothing, whatever is listed
pub listed-still : {X Y : Type 0} (o : Option X) (f g : X → Y) → listed (option_map f o) ≡ [] → listed (option_map g o) ≡ []
listed-still o f g none = lists-nothing o g (nothing-of o f none)

-- what is told of elements from a position on
abbrev pub told : {X Y : Type 0} → (ℕ → X → List Y) → ℕ → List X → List Y
told f i xs = flat_map (λ ys. ys) (map_enumerated f i xs)

module _ {X Y : Type 0} (f : ℕ → X → List Y) where
  -- nothing of the first, and nothing of the others
  pub told-parts : (i : ℕ) (x : X) (xs : List X) → told f i (x ∷ xs) ≡ [] → (f i x ≡ []) × (told f (suc i) xs ≡ [])
  told-parts i x xs = both-empty (f i x) (told f (suc i) xs)

  -- nothing of changed ones
  pub told-changed : (g : ℕ → X → List Y) (change : X → X) → ((i : ℕ) (x : X) → f i x ≡ [] → g i (change x) ≡ [])
      → (i : ℕ) (xs : List X) → told f i xs ≡ [] → told g i (map change xs) ≡ []
  told-changed g change each i [] none = refl
  told-changed g change each i (x ∷ xs) none =
      let parts = told-parts i x xs none in
      λ j. each i x parts.0 j ++ told-changed g change each (suc i) xs parts.1 j

  -- nothing of the same ones
  pub told-still : (g : ℕ → X → List Y) → ((i : ℕ) (x : X) → f i x ≡ [] → g i x ≡ []) → (i : ℕ) (xs : List X) → told f i xs ≡ [] → told g i xs ≡ []
  told-still g each i xs none = ap (told g i) (sym (map-id xs)) ∙ told-changed g (λ x. x) each i xs none

  -- what is made of changed ones by their positions is what was made of them
  pub made-again : {Z : Type 0} (new old : ℕ → X → Z) (change : X → X) → ((i : ℕ) (x : X) → f i x ≡ [] → new i (change x) ≡ old i x)
      → (i : ℕ) (xs : List X) → told f i xs ≡ [] → map_enumerated new i (map change xs) ≡ map_enumerated old i xs
  made-again new old change each i [] none = refl
  made-again new old change each i (x ∷ xs) none =
      let parts = told-parts i x xs none in
      λ j. each i x parts.0 j ∷ made-again new old change each (suc i) xs parts.1 j

  -- and so is what is made of each
  pub mapped-again : {Z : Type 0} (new old : X → Z) (change : X → X) → ((i : ℕ) (x : X) → f i x ≡ [] → new (change x) ≡ old x)
      → (i : ℕ) (xs : List X) → told f i xs ≡ [] → map new (map change xs) ≡ map old xs
  mapped-again new old change each i [] none = refl
  mapped-again new old change each i (x ∷ xs) none =
      let parts = told-parts i x xs none in
      λ j. each i x parts.0 j ∷ mapped-again new old change each (suc i) xs parts.1 j
