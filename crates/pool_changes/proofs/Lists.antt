-- Lists, and what is true of what is made of each element.
use Rattle.std.proofs.Common.{◌≡◌, ◌+◌, ℕ, zero, suc, Bool, true, false, cond, if◌then◌else◌, List, [], ◌∷◌, ◌++◌, Option, Some, None, map, flat_map, option_map, slice_get, refl, ap, sym, subst, ◌∙◌, arith}
use Rattle.std.proofs.lemmas.Bool.{false≢true}
use Rattle.std.specs.List.{AllByRecursion, Contains, enumerate_from, cons_option, filter, filter_map, position_from}
use Rattle.plain_data.specs.Each.{map_enumerated}

-- one element is in a list, or in what is behind it
pub contains-here : {X : Type 0} (x : X) (xs : List X) → Contains (x ∷ xs) x
contains-here x xs = (0, omega arith, refl)

pub contains-there : {X : Type 0} (y x : X) (xs : List X) → Contains xs x → Contains (y ∷ xs) x
contains-there y x xs h = (suc h.0, omega (arith, h.1), h.2)

-- what holds of each element, if it follows from what holds
pub each-weaker : {X : Type 0} (P Q : X → Type 0) → ((x : X) → P x → Q x) → (xs : List X) → AllByRecursion P xs → AllByRecursion Q xs
each-weaker P Q step [] all = tt
each-weaker P Q step (x ∷ xs) all = (step x all.0, each-weaker P Q step xs all.1)

-- what holds of all that is made
pub each-made : {X Y : Type 0} (P : Y → Type 0) (make : ℕ → X → Y) → ((i : ℕ) (x : X) → P (make i x)) → (i : ℕ) (xs : List X) → AllByRecursion P (map_enumerated make i xs)
each-made P make holds i [] = tt
each-made P make holds i (x ∷ xs) = (holds i x, each-made P make holds (suc i) xs)

pub each-mapped : {X Y : Type 0} (P : Y → Type 0) (f : X → Y) → ((x : X) → P (f x)) → (xs : List X) → AllByRecursion P (map f xs)
each-mapped P f holds [] = tt
each-mapped P f holds (x ∷ xs) = (holds x, each-mapped P f holds xs)

-- what holds at each index
pub made-at : {X Y : Type 0} (f : ℕ → X → Y) (first : ℕ) (xs : List X) (n : ℕ) → slice_get (map_enumerated f first xs) n ≡ option_map (f (first + n)) (slice_get xs n)
made-at f first [] n = refl
made-at f first (x ∷ xs) zero = let here : first ≡ first + 0 = omega arith in ap (λ i. Some (f i x)) here
made-at f first (x ∷ xs) (suc n) =
    let there : suc first + n ≡ first + suc n = omega arith in
    made-at f (suc first) xs n ∙ ap (λ i. option_map (f i) (slice_get xs n)) there

-- nothing comes of a list of whose elements nothing comes
pub flat-none : {X Y : Type 0} (f : X → List Y) (xs : List X) → ((i : ℕ) (x : X) → slice_get xs i ≡ Some x → f x ≡ []) → flat_map f xs ≡ []
flat-none f [] none = refl
flat-none f (x ∷ xs) none = ap (λ ys. ys ++ flat_map f xs) (none 0 x refl) ∙ flat-none f xs (λ i y there. none (suc i) y there)

-- the first element that passes a test passes it
pub record IsFirst {X : Type 0} (test : X → Bool) (first : ℕ) (xs : List X) (n : ℕ) : Type 0 where
  pub at : ℕ
  pub element : X
  pub is : n ≡ first + at
  pub there : slice_get xs at ≡ Some element
  pub passes : test element ≡ true

first-behind : {X : Type 0} (test : X → Bool) (first : ℕ) (x : X) (xs : List X) (n : ℕ) → IsFirst test (first + 1) xs n → IsFirst test first (x ∷ xs) n
first-behind test first x xs n f = record { at = suc f.at; element = f.element; is = omega (arith, f.is); there = f.there; passes = f.passes }

passes-by : {X : Type 0} (test : X → Bool) (first : ℕ) (x : X) (xs : List X) (n : ℕ) (b : Bool) → test x ≡ b → (position_from test (first + 1) xs ≡ Some n → IsFirst test (first + 1) xs n)
    → cond b (Some first) (position_from test (first + 1) xs) ≡ Some n → IsFirst test first (x ∷ xs) n
passes-by test first x xs n true e later is = let same : first ≡ n = cc in record { at = 0; element = x; is = omega (arith, same); there = refl; passes = e }
passes-by test first x xs n false e later is = first-behind test first x xs n (later is)

pub first-passes : {X : Type 0} (test : X → Bool) (first : ℕ) (xs : List X) (n : ℕ) → position_from test first xs ≡ Some n → IsFirst test first xs n
first-passes test first [] n h = absurd cc
first-passes test first (x ∷ xs) n h = passes-by test first x xs n (test x) refl (first-passes test (first + 1) xs n) h

-- and there is one where one passes
found-by : (first : ℕ) (later : Option ℕ) (b : Bool) → (n : ℕ) × (later ≡ Some n) → (n : ℕ) × (cond b (Some first) later ≡ Some n)
found-by first later true has = (first, refl)
found-by first later false has = has

pub first-found : {X : Type 0} (test : X → Bool) (first : ℕ) (xs : List X) (i : ℕ) (x : X) → slice_get xs i ≡ Some x → test x ≡ true → (n : ℕ) × (position_from test first xs ≡ Some n)
first-found test first [] i x there passes = absurd cc
first-found test first (y ∷ xs) zero x there passes =
    let same : y ≡ x = cc in
    (first, ap (λ b. cond b (Some first) (position_from test (first + 1) xs)) (ap test same ∙ passes))
first-found test first (y ∷ xs) (suc i) x there passes = found-by first (position_from test (first + 1) xs) (test y) (first-found test (first + 1) xs i x there passes)

-- the indexes of those that pass a test
abbrev pub passing : {X : Type 0} → (X → Bool) → ℕ → List X → List ℕ
passing test first xs = map (λ e. e.0) (filter (λ e. test e.1) (enumerate_from first xs))

-- an index before those that pass, if it passes
abbrev passing-of : {X : Type 0} → (X → Bool) → ℕ → X → List X → Bool → List ℕ
passing-of {X} test first x xs b =
    map (λ (e : ℕ × X). e.0) (cond b ((first, x) ∷ filter (λ (e : ℕ × X). test e.1) (enumerate_from (first + 1) xs)) (filter (λ (e : ℕ × X). test e.1) (enumerate_from (first + 1) xs)))

passing-behind : {X : Type 0} (test : X → Bool) (first : ℕ) (y : X) (xs : List X) (n : ℕ) (b : Bool) → Contains (passing test (first + 1) xs) n → Contains (passing-of test first y xs b) n
passing-behind test first y xs n true rest = contains-there first n (passing test (first + 1) xs) rest
passing-behind test first y xs n false rest = rest

pub passing-has : {X : Type 0} (test : X → Bool) (first : ℕ) (xs : List X) (i : ℕ) (x : X) → slice_get xs i ≡ Some x → test x ≡ true → Contains (passing test first xs) (first + i)
passing-has test first [] i x there passes = absurd cc
passing-has test first (y ∷ xs) zero x there passes =
    let same : y ≡ x = cc in
    let here : first ≡ first + 0 = omega arith in
    subst (λ b. Contains (passing-of test first y xs b) (first + 0)) (sym (ap test same ∙ passes))
    (subst (Contains (first ∷ passing test (first + 1) xs)) here (contains-here first (passing test (first + 1) xs)))
passing-has test first (y ∷ xs) (suc i) x there passes =
    let same : first + 1 + i ≡ first + suc i = omega arith in
    passing-behind test first y xs (first + suc i) (test y) (subst (Contains (passing test (first + 1) xs)) same (passing-has test (first + 1) xs i x there passes))

passing-by : {X : Type 0} (test : X → Bool) (first : ℕ) (x : X) (xs : List X) (n : ℕ) (b : Bool) → test x ≡ b → ((j : ℕ) → slice_get (passing test (first + 1) xs) j ≡ Some n → IsFirst test (first + 1) xs n)
    → (j : ℕ) → slice_get (passing-of test first x xs b) j ≡ Some n → IsFirst test first (x ∷ xs) n
passing-by test first x xs n true e later zero is = let same : first ≡ n = cc in record { at = 0; element = x; is = omega (arith, same); there = refl; passes = e }
passing-by test first x xs n true e later (suc k) is = first-behind test first x xs n (later k is)
passing-by test first x xs n false e later k is = first-behind test first x xs n (later k is)

pub passing-at : {X : Type 0} (test : X → Bool) (first : ℕ) (xs : List X) (j n : ℕ) → slice_get (passing test first xs) j ≡ Some n → IsFirst test first xs n
passing-at test first [] j n h = absurd cc
passing-at test first (x ∷ xs) j n h = passing-by test first x xs n (test x) refl (λ k. passing-at test (first + 1) xs k n) j h

-- the positions of those that a test picks
abbrev pub picked : {X : Type 0} → (X → Bool) → ℕ → List X → List ℕ
picked test first xs = filter_map (λ e. if test e.1 then Some e.0 else None) (enumerate_from first xs)

-- a position before those that are picked behind it, if it is picked
abbrev picked-of : Bool → ℕ → List ℕ → List ℕ
picked-of b n rest = cons_option (if b then Some n else None) rest

picked-here : (b : Bool) (n : ℕ) (rest : List ℕ) → b ≡ true → Contains (picked-of b n rest) n
picked-here true n rest e = contains-here n rest
picked-here false n rest e = absurd (false≢true e)

picked-behind : (b : Bool) (n k : ℕ) (rest : List ℕ) → Contains rest k → Contains (picked-of b n rest) k
picked-behind true n k rest has = contains-there n k rest has
picked-behind false n k rest has = has

pub picked-has : {X : Type 0} (test : X → Bool) (first : ℕ) (xs : List X) (i : ℕ) (x : X) → slice_get xs i ≡ Some x → test x ≡ true → Contains (picked test first xs) (first + i)
picked-has test first [] i x there passes = absurd cc
picked-has test first (y ∷ xs) zero x there passes =
    let same : y ≡ x = cc in
    let here : first ≡ first + 0 = omega arith in
    subst (Contains (picked test first (y ∷ xs))) here (picked-here (test y) first (picked test (first + 1) xs) (ap test same ∙ passes))
picked-has test first (y ∷ xs) (suc i) x there passes =
    let same : first + 1 + i ≡ first + suc i = omega arith in
    picked-behind (test y) first (first + suc i) (picked test (first + 1) xs) (subst (Contains (picked test (first + 1) xs)) same (picked-has test (first + 1) xs i x there passes))

-- each position that is picked is one of an element that passes
picked-by : (P : ℕ → Type 0) (n : ℕ) (rest : List ℕ) (b : Bool) → (b ≡ true → P n) → AllByRecursion P rest → AllByRecursion P (picked-of b n rest)
picked-by P n rest true here all = (here refl, all)
picked-by P n rest false here all = all

pub picked-are : {X : Type 0} (test : X → Bool) (P : ℕ → Type 0) (first : ℕ) (xs : List X) → ((i : ℕ) (x : X) → slice_get xs i ≡ Some x → test x ≡ true → P (first + i)) → AllByRecursion P (picked test first xs)
picked-are test P first [] holds = tt
picked-are test P first (x ∷ xs) holds =
    let from : first + 0 ≡ first = omega arith in
    picked-by P first (picked test (first + 1) xs) (test x) (λ passes. subst P from (holds 0 x refl passes))
    (picked-are test P (first + 1) xs (λ i y there passes. let same : first + suc i ≡ first + 1 + i = omega arith in subst P same (holds (suc i) y there passes)))
