-- What holds of each element of a list.
use Rattle.std.proofs.Common.{◌≡◌, List, [], ◌∷◌, ◌++◌, map, refl, ap, ◌∙◌}
use Rattle.std.specs.List.{AllByRecursion}
use Rattle.descriptor_pool.proofs.Resolved.{all-append}

-- what holds of any element holds of each
pub all-of : {X : Type 0} {P : X → Type 0} → ((x : X) → P x) → (xs : List X) → AllByRecursion P xs
all-of each [] = tt
all-of each (x ∷ xs) = (each x, all-of each xs)

-- what follows from what holds of each
pub all-weaker : {X : Type 0} (P Q : X → Type 0) → ((x : X) → P x → Q x) → (xs : List X) → AllByRecursion P xs → AllByRecursion Q xs
all-weaker P Q weaker [] all = tt
all-weaker P Q weaker (x ∷ xs) all = (weaker x all.0, all-weaker P Q weaker xs all.1)

-- what holds of all of two lists holds of all of each
pub all-split : {X : Type 0} (P : X → Type 0) (xs ys : List X) → AllByRecursion P (xs ++ ys) → AllByRecursion P xs × AllByRecursion P ys
all-split P [] ys all = (tt, all)
all-split P (x ∷ xs) ys all = let rest = all-split P xs ys all.1 in ((all.0, rest.0), rest.1)

pub all-front : {X : Type 0} (P : X → Type 0) (xs ys : List X) → AllByRecursion P (xs ++ ys) → AllByRecursion P xs
all-front P xs ys all = (all-split P xs ys all).0

pub all-rest : {X : Type 0} (P : X → Type 0) (xs ys : List X) → AllByRecursion P (xs ++ ys) → AllByRecursion P ys
all-rest P xs ys all = (all-split P xs ys all).1

-- and of all where two parts change places
pub all-exchanged : {X : Type 0} (P : X → Type 0) (ws xs ys zs : List X) → AllByRecursion P (ws ++ xs ++ ys ++ zs) → AllByRecursion P (ws ++ ys ++ xs ++ zs)
all-exchanged P ws xs ys zs all =
    let three = all-split P (ws ++ xs ++ ys) zs all in
    let two = all-split P (ws ++ xs) ys three.0 in
    let one = all-split P ws xs two.0 in
    all-append P (ws ++ ys ++ xs) zs (all-append P (ws ++ ys) xs (all-append P ws ys one.0 two.1) one.1) three.1

-- what holds of each that was changed
pub all-mapped : {X Y : Type 0} (P : Y → Type 0) (f : X → Y) (xs : List X) → AllByRecursion P (map f xs) → AllByRecursion (λ x. P (f x)) xs
all-mapped P f [] all = tt
all-mapped P f (x ∷ xs) all = (all.0, all-mapped P f xs all.1)

pub all-map : {X Y : Type 0} (P : Y → Type 0) (f : X → Y) (xs : List X) → AllByRecursion (λ x. P (f x)) xs → AllByRecursion P (map f xs)
all-map P f [] all = tt
all-map P f (x ∷ xs) all = (all.0, all-map P f xs all.1)

-- what is made of each alike
pub map-alike : {X Y : Type 0} (g h : X → Y) → ((x : X) → g x ≡ h x) → (xs : List X) → map g xs ≡ map h xs
map-alike g h same [] = refl
map-alike g h same (x ∷ xs) = λ i. same x i ∷ map-alike g h same xs i

-- what is made of four parts, where it is made of each part
pub made-of-four : {X Y : Type 0} (f : List X → List Y) → ((xs ys : List X) → f (xs ++ ys) ≡ f xs ++ f ys) → (ws xs ys zs : List X) → f (ws ++ xs ++ ys ++ zs) ≡ f ws ++ f xs ++ f ys ++ f zs
made-of-four f parts ws xs ys zs =
    parts (ws ++ xs ++ ys) zs ∙ ap (λ es. es ++ f zs) (parts (ws ++ xs) ys ∙ ap (λ es. es ++ f ys) (parts ws xs))
