-- Chains of imports, and what is known of them round by round.
use Rattle.std.proofs.Common.{◌≡◌, ℕ, zero, suc, ◌<◌, ◌≤◌, List, [], ◌∷◌, Bool, true, false, ◌||◌, ◌&&◌, nat_eq, length, map, get_or, ◌⊎◌, inl, inr, refl, ap, sym, subst, ◌∙◌, arith}
use Rattle.std.proofs.Math.ListN.{get_or-map, set}
use Rattle.std.proofs.lemmas.Bool.{cases_eq, cases_lt, cases_Bool, or_cases, lt-ltb, le-ltb, ltb-true}
use Rattle.std.proofs.lemmas.Bool.Decides.{Decides-eqb}
use Rattle.std.proofs.lemmas.List.{length-map, length-set, get_or-set_other, get_or-set_same, get_or-map as map_get_or}
use Rattle.std.proofs.lemmas.Map.Steps.{length-le_from_distinct_below}
use Rattle.std.specs.Cmp.Lexicographic.{pointwise}
use Rattle.std.specs.List.{AllByRecursion, Contains, IsDistinct, list_any}
use mathlib.Core.Bool.{beq}
use Rattle.protoc_rules.specs.Imports.{imports_of, has_chain, comes_back, IsChain, ChainsComeBack, is_marked, HoldsBack}

-- ---- what a list has

any-found : (p : ℕ → Bool) (xs : List ℕ) → list_any p xs ≡ true → (m : ℕ) × Contains xs m × (p m ≡ true)
any-found p [] e = absurd cc
any-found p (x ∷ xs) e = elim (cases_Bool (p x)) [
  | inl here ↦ (x, (0, omega arith, refl), here)
  | inr other ↦
      let later : list_any p xs ≡ true = subst (λ b. (b || list_any p xs) ≡ true) other e in
      let found = any-found p xs later in
      (found.0, (suc found.1.0, omega (arith, found.1.1), found.1.2), found.2)
]

found-any : (p : ℕ → Bool) (xs : List ℕ) (m : ℕ) → Contains xs m → p m ≡ true → list_any p xs ≡ true
found-any p [] m (k, below, is) holds = absurd (omega arith)
found-any p (x ∷ xs) m (zero, below, is) holds = let here : p x ≡ true = ap p is ∙ holds in ap (λ b. b || list_any p xs) here
found-any p (x ∷ xs) m (suc k, below, is) holds =
    let later : list_any p xs ≡ true = found-any p xs m (k, omega arith, is) holds in
    ap (λ b. p x || b) later ∙ or-true (p x)
  where
    or-true : (b : Bool) → (b || true) ≡ true
    or-true true = refl
    or-true false = refl

outside : {X : Type 0} (xs : List X) (n : ℕ) (d : X) → length xs ≤ n → get_or xs n d ≡ d
outside [] n d h = refl
outside (x ∷ xs) zero d h = absurd (omega arith)
outside (x ∷ xs) (suc n) d h = outside xs n d (omega arith)

-- a file that imports one is one of the files
inside : (fs : List (List ℕ)) (n m : ℕ) → Contains (imports_of fs n) m → n < length fs
inside fs n m (k, below, is) = elim (cases_lt n (length fs)) [
  | inl h ↦ h
  | inr past ↦ absurd (let none : k < 0 = subst (λ (xs : List ℕ). k < length xs) (outside fs n [] past) below in omega arith)
]

-- ---- a number that comes twice

abbrev Twice : List ℕ → Type 0
Twice [] = ⊥
Twice (x ∷ xs) = (list_any (nat_eq x) xs ≡ true) ⊎ Twice xs

none-equal : (x : ℕ) (xs : List ℕ) → list_any (nat_eq x) xs ≡ false → AllByRecursion (λ y. nat_eq x y ≡ false) xs
none-equal x [] e = tt
none-equal x (y ∷ ys) e = elim (cases_Bool (nat_eq x y)) [
  | inl same ↦ absurd (let no : true ≡ false = subst (λ b. (b || list_any (nat_eq x) ys) ≡ false) same e in cc)
  | inr other ↦ (other, none-equal x ys (subst (λ b. (b || list_any (nat_eq x) ys) ≡ false) other e))
]

distinct-or-twice : (xs : List ℕ) → IsDistinct nat_eq xs ⊎ Twice xs
unfolding IsDistinct
distinct-or-twice [] = inl tt
distinct-or-twice (x ∷ xs) = elim (cases_Bool (list_any (nat_eq x) xs)) [
  | inl again ↦ inr (inl again)
  | inr once ↦ elim (distinct-or-twice xs) [
    | inl distinct ↦ inl (none-equal x xs once, distinct)
    | inr twice ↦ inr (inr twice)
  ]
]

-- ---- chains of files

abbrev AllBelow : ℕ → List ℕ → Type 0
AllBelow n [] = Unit {0}
AllBelow n (x ∷ xs) = (x < n) × AllBelow n xs

below-found : (n : ℕ) (xs : List ℕ) → AllBelow n xs → (q : ℕ) → list_any (nat_eq q) xs ≡ true → q < n
below-found n [] h q e = absurd cc
below-found n (x ∷ xs) h q e = elim (or_cases (nat_eq q x) (list_any (nat_eq q) xs) e) [
  | inl same ↦ subst (λ y. y < n) (sym ((Decides-eqb q x).0 same)) h.0
  | inr later ↦ below-found n xs h.1 q later
]

-- a chain of so many imports as a list
chain-from : (fs : List (List ℕ)) (k n : ℕ) → has_chain fs k n ≡ true
    → (rest : List ℕ) × (length rest ≡ k) × IsChain fs (n ∷ rest) × AllBelow (length fs) (n ∷ rest)
chain-from fs zero n e = ([], refl, tt, (ltb-true n (length fs) e, tt))
chain-from fs (suc k) n e =
    let found = any-found (has_chain fs k) (imports_of fs n) e in
    let rest = chain-from fs k found.0 found.2 in
    (found.0 ∷ rest.0, ap suc rest.1, (found.1, rest.2), (inside fs n found.0 found.1, rest.3))

-- a chain without its last import
shorter : (fs : List (List ℕ)) (k n : ℕ) → has_chain fs (suc k) n ≡ true → has_chain fs k n ≡ true
shorter fs zero n e =
    let found = any-found (has_chain fs 0) (imports_of fs n) e in
    lt-ltb n (length fs) (inside fs n found.0 found.1)
shorter fs (suc k) n e =
    let found = any-found (has_chain fs (suc k)) (imports_of fs n) e in
    found-any (has_chain fs k) (imports_of fs n) found.0 found.1 (shorter fs k found.0 found.2)

-- a chain from a file that another leads to, and one import more
along : (fs : List (List ℕ)) (k n m : ℕ) (rest : List ℕ) → IsChain fs (n ∷ rest) → list_any (nat_eq m) rest ≡ true
    → has_chain fs k m ≡ true → has_chain fs (suc k) n ≡ true
along fs k n m [] is e chain = absurd cc
along fs k n m (next ∷ rest) is e chain = elim (or_cases (nat_eq m next) (list_any (nat_eq m) rest) e) [
  | inl same ↦ found-any (has_chain fs k) (imports_of fs n) next is.0 (subst (λ file. has_chain fs k file ≡ true) ((Decides-eqb m next).0 same) chain)
  | inr later ↦ found-any (has_chain fs k) (imports_of fs n) next is.0 (shorter fs k next (along fs k next m rest is.1 later chain))
]

-- where a file comes twice, there are chains of any length
any-length : (fs : List (List ℕ)) (n : ℕ) (rest : List ℕ) → IsChain fs (n ∷ rest) → Twice (n ∷ rest) → (k : ℕ) → has_chain fs k n ≡ true
any-length fs n [] is (inl again) k = absurd cc
any-length fs n [] is (inr none) k = absurd none
any-length fs n (next ∷ rest) is (inl again) zero = lt-ltb n (length fs) (inside fs n next is.0)
any-length fs n (next ∷ rest) is (inl again) (suc k) = along fs k n n (next ∷ rest) is again (any-length fs n (next ∷ rest) is (inl again) k)
any-length fs n (next ∷ rest) is (inr later) k =
    shorter fs k n (found-any (has_chain fs k) (imports_of fs n) next is.0 (any-length fs next rest is.1 later k))

-- with as many imports as there are files, one comes twice
one-twice : (fs : List (List ℕ)) (n : ℕ) (rest : List ℕ) → length rest ≡ length fs → AllBelow (length fs) (n ∷ rest) → ¬ (IsDistinct nat_eq (n ∷ rest))
one-twice fs n rest many below distinct =
    let few : length (n ∷ rest) ≤ length fs = length-le_from_distinct_below (n ∷ rest) (length fs) distinct (below-found (length fs) (n ∷ rest) below) in
    omega arith

pub chains-come-back : ChainsComeBack
chains-come-back fs n = (there, back)
  where
    there : comes_back fs n ≡ true → (rest : List ℕ) × IsChain fs (n ∷ rest) × (¬ (IsDistinct nat_eq (n ∷ rest)))
    there e = let chain = chain-from fs (length fs) n e in (chain.0, chain.2, one-twice fs n chain.0 chain.1 chain.3)

    back : (rest : List ℕ) × IsChain fs (n ∷ rest) × (¬ (IsDistinct nat_eq (n ∷ rest))) → comes_back fs n ≡ true
    back chain = elim (distinct-or-twice (n ∷ chain.0)) [
      | inl distinct ↦ absurd (chain.2 distinct)
      | inr twice ↦ any-length fs n chain.0 chain.1 twice (length fs)
    ]

-- ---- marks

-- a file from which a chain comes back imports one from which one does
back-import : (fs : List (List ℕ)) (n : ℕ) → comes_back fs n ≡ true → list_any (comes_back fs) (imports_of fs n) ≡ true
back-import fs n back =
    let chain = (chains-come-back fs n).0 back in
    elim (distinct-or-twice (n ∷ chain.0)) [
      | inl distinct ↦ absurd (chain.2 distinct)
      | inr twice ↦ any-length fs n chain.0 chain.1 twice (suc (length fs))
    ]

-- so it imports one that is marked, where each such is
back-marked : (fs : List (List ℕ)) (marks : List Bool) (n : ℕ) → HoldsBack fs marks → comes_back fs n ≡ true
    → list_any (is_marked marks) (imports_of fs n) ≡ true
back-marked fs marks n holds back =
    let found = any-found (comes_back fs) (imports_of fs n) (back-import fs n back) in
    found-any (is_marked marks) (imports_of fs n) found.0 found.1 (holds found.0 found.2)

-- the mark is taken from a file of which no import is marked
pub back-unmarked : (fs : List (List ℕ)) (marks : List Bool) (i : ℕ) → list_any (is_marked marks) (imports_of fs i) ≡ false
    → HoldsBack fs marks → HoldsBack fs (set marks i false)
back-unmarked fs marks i none holds n back = elim (cases_eq n i) [
  | inl same ↦ absurd (let no : true ≡ false = sym (back-marked fs marks n holds back) ∙ ap (λ m. list_any (is_marked marks) (imports_of fs m)) same ∙ none in cc)
  | inr apart ↦ get_or-set_other marks i n false false apart ∙ holds n back
]

-- and no other is marked then
pub fewer-unmarked : (marks : List Bool) (i n : ℕ) → is_marked (set marks i false) n ≡ true → is_marked marks n ≡ true
fewer-unmarked marks i n marked = elim (cases_eq n i) [
  | inl same ↦ absurd (let no : true ≡ false = sym marked ∙ ap (λ m. is_marked (set marks i false) m) same ∙ gone in cc)
  | inr apart ↦ sym (get_or-set_other marks i n false false apart) ∙ marked
]
  where
    gone : is_marked (set marks i false) i ≡ false
    gone = elim (cases_lt i (length marks)) [
      | inl h ↦ get_or-set_same marks i false false h
      | inr past ↦ outside (set marks i false) i false (subst (λ m. m ≤ i) (sym (length-set marks i false)) past)
    ]

-- ---- rounds

-- each file has a chain of no import
pub first-round : (fs : List (List ℕ)) (n : ℕ) → is_marked (map (λ _. true) fs) n ≡ has_chain fs 0 n
first-round fs n = elim (cases_lt n (length fs)) [
  | inl h ↦ map_get_or (λ _. true) fs n [] false h ∙ sym (lt-ltb n (length fs) h)
  | inr past ↦ outside (map (λ _. true) fs) n false (subst (λ m. m ≤ n) (sym (length-map fs (λ _. true))) past) ∙ sym (le-ltb n (length fs) past)
]

-- a chain without all of its imports
shortest : (fs : List (List ℕ)) (k n : ℕ) → has_chain fs k n ≡ true → has_chain fs 0 n ≡ true
shortest fs zero n chain = chain
shortest fs (suc k) n chain = shortest fs k n (shorter fs k n chain)

-- all files are marked at first
pub back-at-first : (fs : List (List ℕ)) → HoldsBack fs (map (λ _. true) fs)
back-at-first fs n back = first-round fs n ∙ shortest fs (length fs) n back

module _ (fs : List (List ℕ)) (marks next : List Bool) (step : next ≡ map (list_any (is_marked marks)) fs) where
  -- who is marked after a round imports one that was marked
  marked-next : (n : ℕ) → is_marked next n ≡ list_any (is_marked marks) (imports_of fs n)
  marked-next n = ap (λ known. is_marked known n) step ∙ get_or-map (list_any (is_marked marks)) fs n []

  -- a round keeps the marks that are to stay
  pub back-next : HoldsBack fs marks → HoldsBack fs next
  back-next holds n back = marked-next n ∙ back-marked fs marks n holds back

  -- the marked ones have chains that are longer by one
  pub chains-next : (k : ℕ) → ((n : ℕ) → is_marked marks n ≡ true → has_chain fs k n ≡ true) → (n : ℕ) → is_marked next n ≡ true
      → has_chain fs (suc k) n ≡ true
  chains-next k chains n marked =
      let found = any-found (is_marked marks) (imports_of fs n) (sym (marked-next n) ∙ marked) in
      found-any (has_chain fs k) (imports_of fs n) found.0 found.1 (chains found.0 found.2)

  -- after a round that changes nothing they have chains of any length
  any-chain : next ≡ marks → ((n : ℕ) → is_marked marks n ≡ true → has_chain fs 0 n ≡ true) → (k n : ℕ) → is_marked marks n ≡ true
      → has_chain fs k n ≡ true
  any-chain same first zero n marked = first n marked
  any-chain same first (suc k) n marked = chains-next k (any-chain same first k) n (ap (λ known. is_marked known n) same ∙ marked)

-- a test is another where each holds with the other
same-test : (a b : Bool) → (a ≡ true → b ≡ true) → (b ≡ true → a ≡ true) → a ≡ b
same-test true b there back = sym (there refl)
same-test false true there back = back refl
same-test false false there back = refl

-- the marks are right where the marked ones have chains of as many imports as there are files
pub last-round : (fs : List (List ℕ)) (marks : List Bool) → HoldsBack fs marks → ((n : ℕ) → is_marked marks n ≡ true → has_chain fs (length fs) n ≡ true)
    → (n : ℕ) → is_marked marks n ≡ comes_back fs n
last-round fs marks holds chains n = same-test (is_marked marks n) (comes_back fs n) (chains n) (holds n)

both-true : (x y : Bool) → (x && y) ≡ true → (x ≡ true) × (y ≡ true)
both-true true y h = (refl, h)
both-true false y h = absurd cc

same-value : (x y : Bool) → beq x y ≡ true → x ≡ y
same-value true true h = refl
same-value true false h = absurd cc
same-value false true h = absurd cc
same-value false false h = refl

-- two lists of truth values that are compared as equal are one
pub same-values : (xs ys : List Bool) → pointwise beq xs ys ≡ true → xs ≡ ys
same-values [] [] h = refl
same-values [] (y ∷ ys) h = absurd cc
same-values (x ∷ xs) [] h = absurd cc
same-values (x ∷ xs) (y ∷ ys) h =
    let both = both-true (beq x y) (pointwise beq xs ys) h in
    λ i. same-value x y both.0 i ∷ same-values xs ys both.1 i

-- they are right after a round that changes nothing
pub still-round : (fs : List (List ℕ)) (k : ℕ) (marks next : List Bool) → HoldsBack fs marks → ((n : ℕ) → is_marked marks n ≡ true → has_chain fs k n ≡ true)
    → next ≡ map (list_any (is_marked marks)) fs → next ≡ marks → (n : ℕ) → is_marked marks n ≡ comes_back fs n
still-round fs k marks next holds chains step same =
    last-round fs marks holds (any-chain fs marks next step same (λ n marked. shortest fs k n (chains n marked)) (length fs))
