-- A map that is filled with the keys of a list, each with its position, leads to the elements that have them, where no two have one key.
use Rattle.std.proofs.Common.{◌≡◌, ◌↔◌, ◌⊎◌, inl, inr, ℕ, zero, suc, ◌+◌, ◌<◌, Bool, true, false, cond, Option, Some, None, IsSome, List, [], ◌∷◌, take, reverse, find, refl, ap, subst, sym, ◌∙◌, arith}
use Rattle.std.specs.Bool.{Decides}
use Rattle.std.proofs.lemmas.Cmp.{by_ranked, ranked}
use Rattle.std.proofs.lemmas.List.{reverse-append}
use Rattle.std.proofs.lemmas.List.Folds.{find-append}
use Rattle.std.specs.Cmp.{IsTotalOrder}
use Rattle.std.specs.FinMap as finite
use Rattle.std.specs.FinMap.{FinMap, get-empty, get-insert}
use Rattle.std.specs.List.{cons_option, enumerate_from, filter_map, fold}
use Rattle.std.specs.Option.{option_and_then, option_map, option_or}
use Rattle.std.specs.Ordering.{eq_by_cmp, nat_cmp}
use Rattle.std.specs.Prelude.{slice_get}
use Rattle.std.specs.declared.cmp.Ordering.{Ordering}
use Rattle.plain_data.specs.Each.{map_enumerated}
use Rattle.plain_data.specs.Lists.{listed}
use Rattle.plain_data.specs.Maps.{inserted}
use Rattle.descriptor_pool.specs.Maps.{LeadsTo}

-- the key of the element at a position
abbrev pub key_of : {K X : Type 0} → (X → Option K) → List X → ℕ → Option K
key_of key xs position = option_and_then key (slice_get xs position)

-- no two elements have one key
abbrev pub KeysDiffer : {K X : Type 0} → (X → Option K) → List X → Type 0
KeysDiffer {K} key xs = (i j : ℕ) (k : K) → key_of key xs i ≡ Some k → key_of key xs j ≡ Some k → i ≡ j

module _ {K X : Type 0} {R : K → K → Ordering} (total : IsTotalOrder R) (ties : (p q : K) → Decides (eq_by_cmp R p q) (p ≡ q)) (key : X → Option K) where
  abbrev entry : ℕ × X → Option (K × ℕ)
  entry e = option_map (λ k. (k, e.0)) (key e.1)

  abbrev entered : FinMap R ℕ → List (K × ℕ) → FinMap R ℕ
  entered m es = fold (λ m e. finite.insert m e.0 e.1) m es

  -- an element from a position on has a key
  abbrev Has : ℕ → List X → K → ℕ → Type 0
  Has n xs k position = (at : ℕ) × (position ≡ n + at) × (key_of key xs at ≡ Some k)

  found-here : (m : FinMap R ℕ) (q k : K) (n position : ℕ) (b : Bool) → eq_by_cmp R k q ≡ b → cond b (Some n) (finite.get m k) ≡ Some position
      → ((position ≡ n) × (q ≡ k)) ⊎ (finite.get m k ≡ Some position)
  found-here m q k n position true same is = let there : position ≡ n = cc in inl (there, sym ((ties k q).0 same))
  found-here m q k n position false other is = inr is

  later : {P : Type 0} (n : ℕ) (x : X) (xs : List X) (k : K) (position : ℕ) → Has (n + 1) xs k position ⊎ P → Has n (x ∷ xs) k position ⊎ P
  later n x xs k position (inl has) = let there : position ≡ n + suc has.0 = omega (arith, has.1) in inl (suc has.0, there, has.2)
  later n x xs k position (inr p) = inr p

  own-or : (m : FinMap R ℕ) (q : K) (n : ℕ) (x : X) (xs : List X) (k : K) (position : ℕ) → key x ≡ Some q
      → ((position ≡ n) × (q ≡ k)) ⊎ (finite.get m k ≡ Some position) → Has n (x ∷ xs) k position ⊎ (finite.get m k ≡ Some position)
  own-or m q n x xs k position own (inl here) = let there : position ≡ n + 0 = omega (arith, here.0) in inl (0, there, own ∙ ap Some here.1)
  own-or m q n x xs k position own (inr stood) = inr stood

  first : (m : FinMap R ℕ) (q : K) (n : ℕ) (x : X) (xs : List X) (k : K) (position : ℕ) → key x ≡ Some q
      → Has n (x ∷ xs) k position ⊎ (finite.get (finite.insert m q n) k ≡ Some position) → Has n (x ∷ xs) k position ⊎ (finite.get m k ≡ Some position)
  first m q n x xs k position own (inl has) = inl has
  first m q n x xs k position own (inr stood) =
      own-or m q n x xs k position own (found-here m q k n position (eq_by_cmp R k q) refl (sym (get-insert total m q n k) ∙ stood))

  one-more : (n : ℕ) (x : X) (xs : List X) (m : FinMap R ℕ) (k : K) (position : ℕ)
      → ((m : FinMap R ℕ) → finite.get (entered m (filter_map entry (enumerate_from (n + 1) xs))) k ≡ Some position → Has (n + 1) xs k position ⊎ (finite.get m k ≡ Some position))
      → (own : Option K) → key x ≡ own → finite.get (entered m (cons_option (option_map (λ q. (q, n)) own) (filter_map entry (enumerate_from (n + 1) xs)))) k ≡ Some position
      → Has n (x ∷ xs) k position ⊎ (finite.get m k ≡ Some position)
  one-more n x xs m k position rest None own is = later n x xs k position (rest m is)
  one-more n x xs m k position rest (Some q) own is = first m q n x xs k position own (later n x xs k position (rest (finite.insert m q n) is))

  -- what is found was there, or is that of an element
  found : (n : ℕ) (xs : List X) (m : FinMap R ℕ) (k : K) (position : ℕ) → finite.get (entered m (filter_map entry (enumerate_from n xs))) k ≡ Some position
      → Has n xs k position ⊎ (finite.get m k ≡ Some position)
  found n [] m k position is = inr is
  found n (x ∷ xs) m k position is = one-more n x xs m k position (λ m is. found (n + 1) xs m k position is) (key x) refl is

  still-there : (q k : K) (n : ℕ) (m : FinMap R ℕ) → IsSome (finite.get m k) → IsSome (finite.get (finite.insert m q n) k)
  still-there q k n m has = subst IsSome (sym (get-insert total m q n k)) (either (eq_by_cmp R k q))
    where
      either : (b : Bool) → IsSome (cond b (Some n) (finite.get m k))
      either true = refl
      either false = has

  stays : (es : List (K × ℕ)) (m : FinMap R ℕ) (k : K) → IsSome (finite.get m k) → IsSome (finite.get (entered m es) k)
  stays [] m k has = has
  stays (e ∷ es) m k has = stays es (finite.insert m e.0 e.1) k (still-there e.0 k e.1 m has)

  put-in : (m : FinMap R ℕ) (k : K) (n : ℕ) → IsSome (finite.get (finite.insert m k n) k)
  put-in m k n = subst IsSome (sym (get-insert total m k n k ∙ ap (λ b. cond b (Some n) (finite.get m k)) ((ties k k).1 refl))) refl

  -- the key of an element is found
  entered-all : (n : ℕ) (xs : List X) (m : FinMap R ℕ) (k : K) (at : ℕ) → key_of key xs at ≡ Some k → IsSome (finite.get (entered m (filter_map entry (enumerate_from n xs))) k)
  entered-all n [] m k at has = absurd (cc)
  entered-all n (x ∷ xs) m k zero has =
      let rest = filter_map entry (enumerate_from (n + 1) xs) in
      subst (λ own. IsSome (finite.get (entered m (cons_option (option_map (λ q. (q, n)) own) rest)) k)) (sym has) (stays rest (finite.insert m k n) k (put-in m k n))
  entered-all n (x ∷ xs) m k (suc at) has =
      let rest = filter_map entry (enumerate_from (n + 1) xs) in
      elim (key x) as (λ own. IsSome (finite.get (entered m (cons_option (option_map (λ q. (q, n)) own) rest)) k)) [
        | None ↦ entered-all (n + 1) xs m k at has
        | Some q ↦ entered-all (n + 1) xs (finite.insert m q n) k at has
      ]

  nothing-found : (k : K) (position : ℕ) → finite.get (finite.empty {X = ℕ} {R = R}) k ≡ Some position → ⊥
  nothing-found k position is = absurd (cc (get-empty R k, is))

  abbrev all : List X → FinMap R ℕ
  all xs = inserted (filter_map entry (enumerate_from 0 xs))

  -- the map of the keys of a list leads to the elements that have them
  pub keys-lead : (xs : List X) → KeysDiffer key xs → (k : K) (position : ℕ)
      → (finite.get (all xs) k ≡ Some position) ↔ (key_of key xs position ≡ Some k)
  keys-lead xs differ k position = (λ is. there position (found 0 xs finite.empty k position is), λ has. here has (finite.get (all xs) k) refl (entered-all 0 xs finite.empty k position has))
    where
      there : (at : ℕ) → Has 0 xs k at ⊎ (finite.get (finite.empty {X = ℕ} {R = R}) k ≡ Some at) → key_of key xs at ≡ Some k
      there at (inl has) = let same : has.0 ≡ at = omega (arith, has.1) in subst (λ n. key_of key xs n ≡ Some k) same has.2
      there at (inr is) = absurd (nothing-found k at is)

      here : key_of key xs position ≡ Some k → (got : Option ℕ) → finite.get (all xs) k ≡ got → IsSome got → finite.get (all xs) k ≡ Some position
      here has None is some = absurd (cc)
      here has (Some at) is some = is ∙ ap Some (differ at position k (there at (found 0 xs finite.empty k at is)) has)

-- elements that are made of others, each by its position, and have their keys
pub key-made : {K X Y : Type 0} (key : X → Option K) (own : Y → Option K) (make : ℕ → X → Y) → ((n : ℕ) (x : X) → own (make n x) ≡ key x)
    → (n : ℕ) (xs : List X) (at : ℕ) → key_of own (map_enumerated make n xs) at ≡ key_of key xs at
key-made key own make same n [] at = refl
key-made key own make same n (x ∷ xs) zero = same n x
key-made key own make same n (x ∷ xs) (suc at) = key-made key own make same (suc n) xs at

-- the map of the keys of a list leads to such elements
pub leads-made : {K X Y : Type 0} {R : K → K → Ordering} (total : IsTotalOrder R) (ties : (p q : K) → Decides (eq_by_cmp R p q) (p ≡ q)) (key : X → Option K) (own : Y → Option K)
    (make : ℕ → X → Y) → ((n : ℕ) (x : X) → own (make n x) ≡ key x) → (xs : List X) → KeysDiffer key xs
    → LeadsTo {R = R} (map_enumerated make 0 xs) own (inserted (filter_map (λ e. option_map (λ k. (k, e.0)) (key e.1)) (enumerate_from 0 xs)))
leads-made total ties key own make same xs differ = λ k position.
    let lead = keys-lead total ties key xs differ k position in
    let keys = key-made key own make same 0 xs position in
    (λ is. keys ∙ lead.0 is, λ has. lead.1 (sym keys ∙ has))

-- an element with a key
pub with-key : {K X : Type 0} (key : X → Option K) (got : Option X) (k : K) → option_and_then key got ≡ Some k → (x : X) × (got ≡ Some x) × (key x ≡ Some k)
with-key key None k is = absurd (cc)
with-key key (Some x) k is = (x, refl, is)

-- keys differ where none is that of an earlier element
pub differ-behind : {K X : Type 0} (key : X → Option K) (xs : List X)
    → ((i j : ℕ) (x y : X) (k : K) → i < j → slice_get xs i ≡ Some x → slice_get xs j ≡ Some y → key x ≡ Some k → key y ≡ Some k → ⊥) → KeysDiffer key xs
differ-behind {K} key xs apart i j k at-i at-j =
    let x = with-key key (slice_get xs i) k at-i in
    let y = with-key key (slice_get xs j) k at-j in
    by_ranked (i < j) (i ≡ j) (j < i) (nat_cmp i j) (ranked i j (nat_cmp i j) refl)
    (λ _ before. absurd (apart i j x.0 y.0 k before x.1 y.1 x.2 y.2))
    (λ _ same. same)
    (λ _ before. absurd (apart j i y.0 x.0 k before y.1 x.1 y.2 x.2))

pub none-both : {X : Type 0} (a b : Option X) → option_or a b ≡ None → (a ≡ None) × (b ≡ None)
none-both None b none = (refl, none)
none-both (Some x) b none = absurd (cc)

passes-none : {X : Type 0} (b : Bool) (x : X) (later : Option X) → cond b (Some x) later ≡ None → (b ≡ false) × (later ≡ None)
passes-none true x later none = absurd (cc)
passes-none false x later none = (refl, none)

-- none of a list in which no first element is found passes
pub none-first : {X : Type 0} (test : X → Bool) (n : ℕ) (xs : List X) → find (λ (e : ℕ × X). test e.1) (enumerate_from n xs) ≡ None
    → (at : ℕ) (x : X) → slice_get xs at ≡ Some x → test x ≡ false
none-first test n [] none at x there = absurd (cc)
none-first {X} test n (y ∷ ys) none zero x there =
    let same : y ≡ x = cc in
    ap test (sym same) ∙ (passes-none (test y) (n, y) (find (λ (e : ℕ × X). test e.1) (enumerate_from (n + 1) ys)) none).0
none-first {X} test n (y ∷ ys) none (suc at) x there =
    none-first test (n + 1) ys (passes-none (test y) (n, y) (find (λ (e : ℕ × X). test e.1) (enumerate_from (n + 1) ys)) none).1 at x there

-- nor of one in which no last element is found
pub none-last : {X : Type 0} (test : X → Bool) (n : ℕ) (xs : List X) → find (λ (e : ℕ × X). test e.1) (reverse (enumerate_from n xs)) ≡ None
    → (at : ℕ) (x : X) → slice_get xs at ≡ Some x → test x ≡ false
none-last test n [] none at x there = absurd (cc)
none-last {X} test n (y ∷ ys) none at x there =
    let passes : ℕ × X → Bool = λ e. test e.1 in
    let es = enumerate_from (n + 1) ys in
    let both = none-both (find passes (reverse es)) (cond (test y) (Some (n, y)) None)
    (sym (ap (find passes) (reverse-append ((n, y) ∷ []) es) ∙ find-append passes (reverse es) ((n, y) ∷ [])) ∙ none) in
    elim at as (λ at. slice_get (y ∷ ys) at ≡ Some x → test x ≡ false) [
      | zero ↦ λ there. let same : y ≡ x = cc in ap test (sym same) ∙ (passes-none (test y) (n, y) None both.1).0
      | suc at ↦ λ there. none-last test (n + 1) ys both.0 at x there
    ] there

pub none-listed : {X Y : Type 0} (f : X → Y) (got : Option X) → listed (option_map f got) ≡ [] → got ≡ None
none-listed f None none = refl
none-listed f (Some x) none = absurd (cc)

-- an earlier element stands before a later one
pub taken-at : {X : Type 0} (xs : List X) (i j : ℕ) → i < j → slice_get (take j xs) i ≡ slice_get xs i
taken-at xs i zero before = absurd (omega (arith, before))
taken-at [] i (suc m) before = refl
taken-at (x ∷ xs) zero (suc m) before = refl
taken-at (x ∷ xs) (suc n) (suc m) before = taken-at xs n m (omega (arith, before))
