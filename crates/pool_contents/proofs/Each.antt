-- Lists whose entries are changed, each by its position.
use Rattle.std.proofs.Common.{◌≡◌, ◌≢◌, ◌≤◌, ◌<◌, ◌+◌, ◌==◌, ℕ, zero, suc, true, false, List, [], ◌∷◌, ◌++◌, length, map, take, set, get_or, if◌then◌else◌, refl, ap, sym, ◌∙◌, arith}
use Rattle.std.proofs.lemmas.Bool.Decides.{nat_tests}
use Rattle.std.proofs.lemmas.List.Elements.{All-cons, All-head, All-nil, All-tail}
use Rattle.std.specs.List.{All}
use Rattle.plain_data.specs.Each.{map_enumerated}

-- two changes one after the other
pub each-twice : {X Y Z : Type 0} (g : ℕ → Y → Z) (f : ℕ → X → Y) (i : ℕ) (xs : List X) → map_enumerated g i (map_enumerated f i xs) ≡ map_enumerated (λ n x. g n (f n x)) i xs
each-twice g f i [] = refl
each-twice g f i (x ∷ xs) = ap (λ rest. g i (f i x) ∷ rest) (each-twice g f (suc i) xs)

-- changes that are equal from a position on
pub each-same : {X Y : Type 0} (f g : ℕ → X → Y) (i : ℕ) (xs : List X) → ((n : ℕ) (x : X) → i ≤ n → n < i + length xs → f n x ≡ g n x) → map_enumerated f i xs ≡ map_enumerated g i xs
each-same f g i [] same = refl
each-same f g i (x ∷ xs) same =
    λ j. same i x (omega arith) (omega arith) j ∷ each-same f g (suc i) xs (λ n y from to. same n y (omega (arith, from)) (omega (arith, to))) j

each-none : {X : Type 0} (i : ℕ) (xs : List X) → map_enumerated (λ _ x. x) i xs ≡ xs
each-none i [] = refl
each-none i (x ∷ xs) = ap (λ rest. x ∷ rest) (each-none (suc i) xs)

-- where nothing is changed
pub each-still : {X : Type 0} (f : ℕ → X → X) (i : ℕ) (xs : List X) → ((n : ℕ) (x : X) → i ≤ n → n < i + length xs → f n x ≡ x) → map_enumerated f i xs ≡ xs
each-still f i xs still = each-same f (λ _ x. x) i xs still ∙ each-none i xs

-- the same change of all
pub each-all : {X Y : Type 0} (f : X → Y) (i : ℕ) (xs : List X) → map_enumerated (λ _ x. f x) i xs ≡ map f xs
each-all f i [] = refl
each-all f i (x ∷ xs) = ap (λ rest. f x ∷ rest) (each-all f (suc i) xs)

pub each-append : {X Y : Type 0} (f : ℕ → X → Y) (i : ℕ) (xs ys : List X) → map_enumerated f i (xs ++ ys) ≡ map_enumerated f i xs ++ map_enumerated f (i + length xs) ys
each-append f i [] ys = let here : i ≡ i + 0 = omega arith in ap (λ n. map_enumerated f n ys) here
each-append f i (x ∷ xs) ys =
    let there : suc i + length xs ≡ i + suc (length xs) = omega arith in
    ap (λ rest. f i x ∷ rest) (each-append f (suc i) xs ys ∙ ap (λ n. map_enumerated f (suc i) xs ++ map_enumerated f n ys) there)

pub each-map : {X Y Z : Type 0} (g : Y → Z) (f : ℕ → X → Y) (i : ℕ) (xs : List X) → map g (map_enumerated f i xs) ≡ map_enumerated (λ n x. g (f n x)) i xs
each-map g f i [] = refl
each-map g f i (x ∷ xs) = ap (λ rest. g (f i x) ∷ rest) (each-map g f (suc i) xs)

-- of the first entries
pub take-each : {X Y : Type 0} (f : ℕ → X → Y) (n i : ℕ) (xs : List X) → take n (map_enumerated f i xs) ≡ map_enumerated f i (take n xs)
take-each f zero i xs = refl
take-each f (suc n) i [] = refl
take-each f (suc n) i (x ∷ xs) = ap (λ rest. f i x ∷ rest) (take-each f n (suc i) xs)

-- a change of the entry at one position
abbrev pub one : {X : Type 0} → (X → X) → ℕ → ℕ → X → X
one f i n x = if n == i then f x else x

pub changed-here : {X : Type 0} (f : X → X) (i n : ℕ) (x : X) → n ≡ i → one f i n x ≡ f x
changed-here f i n x is = let same : (n == i) ≡ true = grind (arith, nat_tests) in rw same refl

pub changed-elsewhere : {X : Type 0} (f : X → X) (i n : ℕ) (x : X) → n ≢ i → one f i n x ≡ x
changed-elsewhere f i n x isn't = let other : (n == i) ≡ false = grind (arith, nat_tests) in rw other refl

-- one entry is changed
pub set-each : {X : Type 0} (f : X → X) (first i : ℕ) (xs : List X) (d : X) → i < length xs
    → set xs i (f (get_or xs i d)) ≡ map_enumerated (one f (first + i)) first xs
set-each f first i [] d below = absurd (omega (arith, below))
set-each f first zero (x ∷ xs) d below =
    let here : f x ≡ one f (first + 0) first x = sym (changed-here f (first + 0) first x (omega arith)) in
    let others = each-still (one f (first + 0)) (suc first) xs (λ n y from to. changed-elsewhere f (first + 0) n y (λ e. omega (arith, from, e))) in
    λ j. here j ∷ sym others j
set-each f first (suc i) (x ∷ xs) d below =
    let there : suc first + i ≡ first + suc i = omega arith in
    let here : x ≡ one f (first + suc i) first x = sym (changed-elsewhere f (first + suc i) first x (λ e. omega (arith, e))) in
    let rest = set-each f (suc first) i xs d (omega (arith, below)) ∙ ap (λ m. map_enumerated (one f m) (suc first) xs) there in
    λ j. here j ∷ rest j

pub length-each : {X Y : Type 0} (f : ℕ → X → Y) (i : ℕ) (xs : List X) → length (map_enumerated f i xs) ≡ length xs
length-each f i [] = refl
length-each f i (x ∷ xs) = ap suc (length-each f (suc i) xs)

-- what holds of each entry, where the changes keep it
pub all-each : {X Y : Type 0} (P : X → Type 0) (Q : Y → Type 0) (f : ℕ → X → Y) → ((n : ℕ) (x : X) → P x → Q (f n x)) → (i : ℕ) (xs : List X) → All P xs → All Q (map_enumerated f i xs)
all-each P Q f keeps i [] all = All-nil Q
all-each P Q f keeps i (x ∷ xs) all =
    All-cons Q (f i x) (map_enumerated f (suc i) xs) (keeps i x (All-head P x xs all)) (all-each P Q f keeps (suc i) xs (All-tail P x xs all))
