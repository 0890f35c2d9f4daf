-- Entries of numbers in the order of their keys, further ones in a map of the library, and the
-- finite map of them all.
use Rattle.std.proofs.Common.{◌≡◌, ◌≢◌, ℕ, suc, ◌+◌, ◌-◌, ◌<◌, ◌≤◌, Bool, true, false, cond, List, [], ◌∷◌, ◌++◌, Option, None, Some, Result, Ok, Err, refl, ap, sym, ◌∙◌, subst, inl, inr, ◌⊎◌, Decides, length, take, drop, set, slice_index_or, arith}
use Rattle.std.specs.Prelude.{MatchResult, IsTrue, ◌↔◌}
use Rattle.std.specs.BTreeMap as tree
use Rattle.std.specs.BTreeMap.{BTreeMap}
use Rattle.std.specs.Cmp.{nat_cmp_total, eq_by_cmp_equiv, unsigned_Decides, unsigned_tied, ranked}
use Rattle.std.specs.FinMap as map
use Rattle.std.specs.FinMap.{find, get-from_entries, get-insert, get-remove, same_map, nat_cmp-IsAntisymmetric}
use Rattle.std.specs.List.{All, AllByRecursion, IsDistinct, insert, remove}
use Rattle.std.specs.List.Sorted.{IsBinarySearchResult, IsSearchInRange}
use Rattle.std.specs.Map.{keys_of, lookup}
use Rattle.std.specs.Option.{option_or}
use Rattle.std.specs.Ordering.{nat_cmp, eq_by_cmp, ordering_index}
use Rattle.std.proofs.lemmas.Bool.{cases_eq, cases_lt}
use Rattle.std.proofs.lemmas.Bool.Decides.{nat_tests}
use Rattle.std.proofs.lemmas.List.{append_assoc, append-nil, get_or-take, get_or_default, length-append, length-take-le, set_split, take-append-drop, length-set, get_or-set_same, get_or-set_other}
use Rattle.std.proofs.lemmas.List.Edits.{length-insert, get_or-insert_below, get_or-insert_at, get_or-insert_above, length-remove, get_or-remove_below, get_or-remove_above}
use Rattle.std.proofs.lemmas.List.Elements.{All-append, All-take, All-drop}
use Rattle.std.proofs.lemmas.Map.Keys.{IsDistinct-cons, IsDistinct-from_sorted}
use Rattle.std.proofs.lemmas.Map.Lookups.{btree_map_from_get, exact_unsigned}
use Rattle.std.proofs.lemmas.Map.Made.{update_all_none}
use Rattle.std.proofs.Math.Seq.{drop-cons, take-append_seam, drop-append_seam}
use Rattle.plain_data.specs.Maps.{ByNumber, HasAll, IsWithin}
use Rattle.plain_data.specs.NumberRows.{key_at, Rise, HasKey, FitsAt, joined, AreApart}
use Rattle.plain_data.proofs.Entries.{all-from_within, find-lookup, IsIn, len-from_entries, within-from_all}

-- what a search by halves answers
pub placed : (es : List (ℕ × ℕ)) (key : ℕ) (r : Result ℕ ℕ) → Rise es → IsSearchInRange r (length es) → IsBinarySearchResult (λ e. nat_cmp e.0 key) es r → MatchResult r (HasKey es key) (FitsAt es key)
placed es key (Ok at) rise inside is = (inside, nat_cmp-IsAntisymmetric _ _ (is (0, 0)))
placed es key (Err at) rise inside is =
    let parted = is (λ i j d up below. higher (slice_index_or es i d).0 (slice_index_or es j d).0
    (subst (λ k. k ≤ (slice_index_or es j d).0) (ap (λ e. e.0) (get_or_default es i (0, 0) d (omega arith)))
    (subst (λ k. key_at es i ≤ k) (ap (λ e. e.0) (get_or_default es j (0, 0) d below)) (climb i j up below (cases_lt i j))))) in
    (inside, (λ i below. ranked (key_at es i) key _ (sym (parted.0 i (0, 0) (omega arith) below))), λ i from below. ranked (key_at es i) key _ (sym (parted.1 i (0, 0) from below)))
  where
    higher : (a b : ℕ) → a ≤ b → ordering_index (nat_cmp a key) ≤ ordering_index (nat_cmp b key)
    higher a b up = grind (arith, nat_tests)

    climb : (i j : ℕ) → i ≤ j → j < length es → (i < j) ⊎ (j ≤ i) → key_at es i ≤ key_at es j
    climb i j up below (inl less) = omega (arith, rise i j less below)
    climb i j up below (inr more) = let same : i ≡ j = omega arith in omega (arith, ap (key_at es) same)

-- a key that is greater than the last one
pub placed-last : (es : List (ℕ × ℕ)) (key : ℕ) → Rise es → key_at es (length es - 1) < key → FitsAt es key (length es)
placed-last es key rise last = (omega arith, (λ i below. low i below (cases_lt i (length es - 1))), λ i from below. absurd (omega arith))
  where
    low : (i : ℕ) → i < length es → (i < length es - 1) ⊎ (length es - 1 ≤ i) → key_at es i < key
    low i below (inl less) = omega (arith, rise i (length es - 1) less (omega arith))
    low i below (inr more) = let same : i ≡ length es - 1 = omega arith in omega (arith, ap (key_at es) same)

same-key : (x y : ℕ) → Decides (eq_by_cmp nat_cmp x y) (x ≡ y)
same-key x y = subst (λ b. Decides b (x ≡ y)) (sym (unsigned_tied x y)) (unsigned_Decides x y)

other-key : (x y : ℕ) → x ≢ y → eq_by_cmp nat_cmp x y ≡ false
other-key x y apart = next (eq_by_cmp nat_cmp x y) refl
  where
    next : (b : Bool) → eq_by_cmp nat_cmp x y ≡ b → b ≡ false
    next true is = absurd (apart ((same-key x y).0 is))
    next false is = refl

-- a look through entries behind others
find-both : (q : ℕ) (xs ys : List (ℕ × ℕ)) → find nat_cmp q (xs ++ ys) ≡ option_or (find nat_cmp q xs) (find nat_cmp q ys)
find-both q [] ys = refl
find-both q (x ∷ xs) ys =
    elim (eq_by_cmp nat_cmp q x.0) as (λ b. cond b (Some x.1) (find nat_cmp q (xs ++ ys)) ≡ option_or (cond b (Some x.1) (find nat_cmp q xs)) (find nat_cmp q ys))
    [ true ↦ refl | false ↦ find-both q xs ys ]

-- a key that no entry has
absent-key : (es : List (ℕ × ℕ)) (key : ℕ) → ((i : ℕ) → i < length es → key_at es i ≢ key) → find nat_cmp key es ≡ None
absent-key [] key apart = refl
absent-key (e ∷ es) key apart =
    ap (λ b. cond b (Some e.1) (find nat_cmp key es)) (other-key key e.0 (λ same. apart 0 (omega arith) (sym same)))
    ∙ absent-key es key (λ i below. apart (suc i) (omega arith))

absent-before : (es : List (ℕ × ℕ)) (key at : ℕ) → at ≤ length es → ((i : ℕ) → i < at → key_at es i ≢ key) → find nat_cmp key (take at es) ≡ None
absent-before es key at within apart = absent-key (take at es) key (λ i below.
    let small : i < at = subst (λ n. i < n) (length-take-le at es within) below in
    λ same. apart i small (sym (ap (λ e. e.0) (get_or-take at es i (0, 0) small)) ∙ same))

pub absent-fits : (es : List (ℕ × ℕ)) (key at : ℕ) → FitsAt es key at → find nat_cmp key es ≡ None
absent-fits es key at fits = absent-key es key (λ i below same. next i below same (cases_lt i at))
  where
    next : (i : ℕ) → i < length es → key_at es i ≡ key → (i < at) ⊎ (at ≤ i) → ⊥
    next i below same (inl low) = omega (arith, fits.1 i low)
    next i below same (inr high) = omega (arith, fits.2 i high below)

same_numbers : (m n : ByNumber ℕ) → ((key : ℕ) → map.get m key ≡ map.get n key) → m ≡ n
same_numbers = same_map nat_cmp_total nat_cmp-IsAntisymmetric

-- an entry that stands behind none of its key
module _ (pre post : List (ℕ × ℕ)) (key number : ℕ) (new : find nat_cmp key pre ≡ None) where
  find-between : (q : ℕ) → find nat_cmp q (pre ++ (key, number) ∷ post) ≡ cond (eq_by_cmp nat_cmp q key) (Some number) (find nat_cmp q (pre ++ post))
  find-between q =
      find-both q pre ((key, number) ∷ post) ∙ next (eq_by_cmp nat_cmp q key) refl
      ∙ ap (cond (eq_by_cmp nat_cmp q key) (Some number)) (sym (find-both q pre post))
    where
      next : (b : Bool) → eq_by_cmp nat_cmp q key ≡ b → option_or (find nat_cmp q pre) (cond b (Some number) (find nat_cmp q post)) ≡ cond b (Some number) (option_or (find nat_cmp q pre) (find nat_cmp q post))
      next true is = ap (λ o. option_or o (Some number)) (ap (λ k. find nat_cmp k pre) ((same-key q key).0 is) ∙ new)
      next false is = refl

  made-between : map.from_entries {R = nat_cmp} (pre ++ (key, number) ∷ post) ≡ map.insert (map.from_entries {R = nat_cmp} (pre ++ post)) key number
  made-between = same_numbers _ _ (λ q.
      get-from_entries nat_cmp_total (pre ++ (key, number) ∷ post) q
      ∙ find-between q
      ∙ ap (cond (eq_by_cmp nat_cmp q key) (Some number)) (sym (get-from_entries nat_cmp_total (pre ++ post) q))
      ∙ sym (get-insert nat_cmp_total _ key number q))

insert-again : (m : ByNumber ℕ) (key was number : ℕ) → map.insert m key number ≡ map.insert (map.insert m key was) key number
insert-again m key was number = same_numbers _ _ (λ q.
    get-insert nat_cmp_total m key number q
    ∙ twice (eq_by_cmp nat_cmp q key) (map.get m q)
    ∙ ap (cond (eq_by_cmp nat_cmp q key) (Some number)) (sym (get-insert nat_cmp_total m key was q))
    ∙ sym (get-insert nat_cmp_total _ key number q))
  where
    twice : (b : Bool) (other : Option ℕ) → cond b (Some number) other ≡ cond b (Some number) (cond b (Some was) other)
    twice true other = refl
    twice false other = refl

remove-inserted : (m : ByNumber ℕ) (key number : ℕ) → map.get m key ≡ None → m ≡ map.remove (map.insert m key number) key
remove-inserted m key number none = same_numbers _ _ (λ q.
    next q (eq_by_cmp nat_cmp q key) refl
    ∙ ap (cond (eq_by_cmp nat_cmp q key) None) (sym (get-insert nat_cmp_total m key number q))
    ∙ sym (get-remove nat_cmp_total _ key q))
  where
    next : (q : ℕ) (b : Bool) → eq_by_cmp nat_cmp q key ≡ b → map.get m q ≡ cond (eq_by_cmp nat_cmp q key) None (cond (eq_by_cmp nat_cmp q key) (Some number) (map.get m q))
    next q true is = rw is (ap (map.get m) ((same-key q key).0 is) ∙ none)
    next q false is = rw is refl

-- entries, further ones, and the position at which the first have a key
module _ (es : List (ℕ × ℕ)) (os : BTreeMap ℕ ℕ) (key number at : ℕ) (are : AreApart es os) (has : HasKey es key at) where
  split-at : es ≡ take at es ++ (key, (slice_index_or es at (0, 0)).1) ∷ drop (suc at) es
  split-at =
      sym (take-append-drop at es)
      ∙ ap (λ l. take at es ++ l) (drop-cons es at (0, 0) has.0 ∙ (λ i. (has.1 i, (slice_index_or es at (0, 0)).1) ∷ drop (suc at) es))

  absent-front : find nat_cmp key (take at es) ≡ None
  absent-front = absent-before es key at (omega arith) (λ i below same. let less = are.rising i at below has.0 in let here = has.1 in omega arith)

  abbrev behind : List (ℕ × ℕ)
  behind = drop (suc at) es ++ os.entries

  joined-split : joined es os ≡ map.insert (map.from_entries {R = nat_cmp} (take at es ++ behind)) key (slice_index_or es at (0, 0)).1
  joined-split =
      ap map.from_entries (ap (λ l. l ++ os.entries) split-at ∙ append_assoc (take at es) _ os.entries)
      ∙ made-between (take at es) behind key _ absent-front

  pub joined-set : joined (set es at (key, number)) os ≡ map.insert (joined es os) key number
  joined-set =
      ap map.from_entries (ap (λ l. l ++ os.entries) (set_split es at (key, number) has.0) ∙ append_assoc (take at es) _ os.entries)
      ∙ made-between (take at es) behind key number absent-front
      ∙ insert-again _ key (slice_index_or es at (0, 0)).1 number
      ∙ ap (λ m. map.insert m key number) (sym joined-split)

  key-set : (i : ℕ) → key_at (set es at (key, number)) i ≡ key_at es i
  key-set i = next (cases_eq i at)
    where
      next : (i ≡ at) ⊎ (i ≢ at) → key_at (set es at (key, number)) i ≡ key_at es i
      next (inl same) = ap (key_at (set es at (key, number))) same ∙ ap (λ e. e.0) (get_or-set_same es at (key, number) (0, 0) has.0) ∙ sym has.1 ∙ ap (key_at es) (sym same)
      next (inr other) = ap (λ e. e.0) (get_or-set_other es at i (key, number) (0, 0) other)

  pub apart-set : AreApart (set es at (key, number)) os
  apart-set = record {
    rising = λ i j up below. rw (key-set i, key-set j) (are.rising i j up (subst (λ n. j < n) (length-set es at (key, number)) below));
    apart = λ i below. rw (key-set i) (are.apart i (subst (λ n. i < n) (length-set es at (key, number)) below));
  }

  removed-low : (i : ℕ) → i < at → key_at (remove es at) i ≡ key_at es i
  removed-low i low = ap (λ e. e.0) (get_or-remove_below es at (0, 0) i low has.0)

  removed-high : (i : ℕ) → at ≤ i → key_at (remove es at) i ≡ key_at es (i + 1)
  removed-high i high = ap (λ e. e.0) (get_or-remove_above es at (0, 0) i high has.0)

  rise-removed : (i j : ℕ) → i < j → j + 1 < length es → (i < at) ⊎ (at ≤ i) → (j < at) ⊎ (at ≤ j) → key_at (remove es at) i < key_at (remove es at) j
  rise-removed i j up below (inl low) (inl under) = rw (removed-low i low, removed-low j under) (are.rising i j up (omega arith))
  rise-removed i j up below (inl low) (inr over) = rw (removed-low i low, removed-high j over) (are.rising i (j + 1) (omega arith) below)
  rise-removed i j up below (inr high) (inl under) = absurd (omega arith)
  rise-removed i j up below (inr high) (inr over) = rw (removed-high i high, removed-high j over) (are.rising (i + 1) (j + 1) (omega arith) below)

  fewer : (i : ℕ) → i < length (remove es at) → i + 1 < length es
  fewer i below = let one = length-remove es at has.0 in omega arith

  apart-removed : (i : ℕ) → i + 1 < length es → (i < at) ⊎ (at ≤ i) → tree.get nat_cmp os (key_at (remove es at) i) ≡ None
  apart-removed i below (inl low) = rw (removed-low i low) (are.apart i (omega arith))
  apart-removed i below (inr high) = rw (removed-high i high) (are.apart (i + 1) below)

  pub apart-remove : AreApart (remove es at) os
  apart-remove = record {
    rising = λ i j up below. rise-removed i j up (fewer j below) (cases_lt i at) (cases_lt j at);
    apart = λ i below. apart-removed i (fewer i below) (cases_lt i at);
  }

  other-removed : (i : ℕ) → i + 1 < length es → (i < at) ⊎ (at ≤ i) → key_at (remove es at) i ≢ key
  other-removed i below (inl low) same = let less = are.rising i at low has.0 in let here = has.1 in let there = removed-low i low in omega arith
  other-removed i below (inr high) same = let less = are.rising at (i + 1) (omega arith) below in let here = has.1 in let there = removed-high i high in omega arith

  absent-others : find nat_cmp key os.entries ≡ None
  absent-others =
      find-lookup nat_cmp (eq_by_cmp nat_cmp) (λ x y. refl) os.entries key
      ∙ ap (tree.get nat_cmp os) (sym has.1)
      ∙ are.apart at has.0

  absent-removed : map.get (map.from_entries {R = nat_cmp} (take at es ++ behind)) key ≡ None
  absent-removed =
      get-from_entries nat_cmp_total (take at es ++ behind) key
      ∙ ap (find nat_cmp key) (sym (append_assoc (take at es) (drop (suc at) es) os.entries))
      ∙ find-both key (remove es at) os.entries
      ∙ (λ i. option_or (absent-key (remove es at) key (λ k below. other-removed k (fewer k below) (cases_lt k at)) i) (absent-others i))

  pub joined-remove : joined (remove es at) os ≡ map.remove (joined es os) key
  joined-remove =
      ap map.from_entries (append_assoc (take at es) (drop (suc at) es) os.entries)
      ∙ remove-inserted _ key (slice_index_or es at (0, 0)).1 absent-removed
      ∙ ap (λ m. map.remove m key) (sym joined-split)

-- a map of the library without entries has none of a key
pub none-in-empty : (os : BTreeMap ℕ ℕ) → length os.entries ≡ 0 → (key : ℕ) → tree.get nat_cmp os key ≡ None
none-in-empty os none key = next os.entries none
  where
    next : (es : List (ℕ × ℕ)) → length es ≡ 0 → lookup (eq_by_cmp nat_cmp key) es ≡ None
    next [] none = refl
    next (e ∷ es) none = absurd (omega arith)

-- a new entry in its place
module _ (es : List (ℕ × ℕ)) (os : BTreeMap ℕ ℕ) (key number at : ℕ) (fits : FitsAt es key at) where
  pub joined-insert : joined (insert es at (key, number)) os ≡ map.insert (joined es os) key number
  joined-insert =
      ap map.from_entries (append_assoc (take at es) _ os.entries)
      ∙ made-between (take at es) (drop at es ++ os.entries) key number (absent-before es key at fits.0 (λ i below same. let less = fits.1 i below in omega arith))
      ∙ ap (λ l. map.insert (map.from_entries {R = nat_cmp} l) key number) (sym (append_assoc (take at es) (drop at es) os.entries) ∙ ap (λ l. l ++ os.entries) (take-append-drop at es))

  inserted-low : (i : ℕ) → i < at → key_at (insert es at (key, number)) i ≡ key_at es i
  inserted-low i low = ap (λ e. e.0) (get_or-insert_below es at (key, number) (0, 0) i low fits.0)

  inserted-here : key_at (insert es at (key, number)) at ≡ key
  inserted-here = ap (λ e. e.0) (get_or-insert_at es at (key, number) (0, 0) fits.0)

  inserted-high : (i : ℕ) → at < i → key_at (insert es at (key, number)) i ≡ key_at es (i - 1)
  inserted-high i high =
      let next : i ≡ i - 1 + 1 = omega arith in
      ap (key_at (insert es at (key, number))) next ∙ ap (λ e. e.0) (get_or-insert_above es at (key, number) (0, 0) (i - 1) (omega arith) fits.0)

  sides : (i : ℕ) → (i < at) ⊎ (at ≤ i) → (i ≡ at) ⊎ (i ≢ at) → (i < at) ⊎ ((i ≡ at) ⊎ (at < i))
  sides i (inl low) either = inl low
  sides i (inr high) (inl same) = inr (inl same)
  sides i (inr high) (inr other) = inr (inr (omega arith))

  rise-inserted : Rise es → (i j : ℕ) → i < j → j < length es + 1 → (i < at) ⊎ ((i ≡ at) ⊎ (at < i)) → (j < at) ⊎ ((j ≡ at) ⊎ (at < j))
      → key_at (insert es at (key, number)) i < key_at (insert es at (key, number)) j
  rise-inserted rise i j up below (inl low) (inl under) = let within = fits.0 in rw (inserted-low i low, inserted-low j under) (rise i j up (omega arith))
  rise-inserted rise i j up below (inl low) (inr (inl here)) = rw (inserted-low i low, here, inserted-here) (fits.1 i low)
  rise-inserted rise i j up below (inl low) (inr (inr over)) = rw (inserted-low i low, inserted-high j over) (rise i (j - 1) (omega arith) (omega arith))
  rise-inserted rise i j up below (inr (inl here)) (inl under) = absurd (omega arith)
  rise-inserted rise i j up below (inr (inl here)) (inr (inl there)) = absurd (omega arith)
  rise-inserted rise i j up below (inr (inl here)) (inr (inr over)) = rw (here, inserted-here, inserted-high j over) (fits.2 (j - 1) (omega arith) (omega arith))
  rise-inserted rise i j up below (inr (inr high)) (inl under) = absurd (omega arith)
  rise-inserted rise i j up below (inr (inr high)) (inr (inl there)) = absurd (omega arith)
  rise-inserted rise i j up below (inr (inr high)) (inr (inr over)) = rw (inserted-high i high, inserted-high j over) (rise (i - 1) (j - 1) (omega arith) (omega arith))

  pub apart-insert : AreApart es os → length os.entries ≡ 0 → AreApart (insert es at (key, number)) os
  apart-insert are none = record {
    rising = λ i j up below. rise-inserted are.rising i j up (subst (λ n. j < n) (length-insert es at (key, number) fits.0) below) (sides i (cases_lt i at) (cases_eq i at)) (sides j (cases_lt j at) (cases_eq j at));
    apart = λ i below. none-in-empty os none _;
  }

  -- another value for it, or none, among the further entries
  module _ (ns : BTreeMap ℕ ℕ) (value : Option ℕ) (updates : tree.Updates nat_cmp os ns key value) where
    get-updated : (q : ℕ) → find nat_cmp q (es ++ ns.entries) ≡ cond (eq_by_cmp nat_cmp q key) value (find nat_cmp q (es ++ os.entries))
    get-updated q =
        find-both q es ns.entries
        ∙ ap (option_or (find nat_cmp q es)) (find-lookup nat_cmp (eq_by_cmp nat_cmp) (λ x y. refl) ns.entries q ∙ updates.0 q)
        ∙ next (eq_by_cmp nat_cmp q key) refl
        ∙ ap (cond (eq_by_cmp nat_cmp q key) value) (ap (option_or (find nat_cmp q es)) (sym (find-lookup nat_cmp (eq_by_cmp nat_cmp) (λ x y. refl) os.entries q)) ∙ sym (find-both q es os.entries))
      where
        flip : eq_by_cmp nat_cmp key q ≡ eq_by_cmp nat_cmp q key
        flip = (eq_by_cmp_equiv nat_cmp_total).symm key q

        next : (b : Bool) → eq_by_cmp nat_cmp q key ≡ b → option_or (find nat_cmp q es) (cond (eq_by_cmp nat_cmp key q) value (tree.get nat_cmp os q)) ≡ cond (eq_by_cmp nat_cmp q key) value (option_or (find nat_cmp q es) (tree.get nat_cmp os q))
        next true is = rw (flip, is) (ap (λ o. option_or o value) (ap (λ k. find nat_cmp k es) ((same-key q key).0 is) ∙ absent-fits es key at fits))
        next false is = rw (flip, is) refl

    apart-updated : AreApart es os → AreApart es ns
    apart-updated are = record {
      rising = are.rising;
      apart = λ i below. updates.2 (key_at es i) (other-key key (key_at es i) (λ same. other i below same (cases_lt i at))) ∙ are.apart i below;
    }
      where
        other : (i : ℕ) → i < length es → key ≡ key_at es i → (i < at) ⊎ (at ≤ i) → ⊥
        other i below same (inl low) = omega (arith, fits.1 i low)
        other i below same (inr high) = omega (arith, fits.2 i high below)

  pub joined-updated : (ns : BTreeMap ℕ ℕ) → tree.Updates nat_cmp os ns key (Some number) → joined es ns ≡ map.insert (joined es os) key number
  joined-updated ns updates = same_numbers _ _ (λ q.
      get-from_entries nat_cmp_total (es ++ ns.entries) q
      ∙ get-updated ns (Some number) updates q
      ∙ ap (cond (eq_by_cmp nat_cmp q key) (Some number)) (sym (get-from_entries nat_cmp_total (es ++ os.entries) q))
      ∙ sym (get-insert nat_cmp_total _ key number q))

-- an entry that is none of the first is taken away
pub joined-taken : (es : List (ℕ × ℕ)) (os ns : BTreeMap ℕ ℕ) (key at : ℕ) → FitsAt es key at → tree.Updates nat_cmp os ns key None → joined es ns ≡ map.remove (joined es os) key
joined-taken es os ns key at fits updates = same_numbers _ _ (λ q.
    get-from_entries nat_cmp_total (es ++ ns.entries) q
    ∙ get-updated es os key 0 at fits ns None updates q
    ∙ ap (cond (eq_by_cmp nat_cmp q key) None) (sym (get-from_entries nat_cmp_total (es ++ os.entries) q))
    ∙ sym (get-remove nat_cmp_total _ key q))

pub apart-others : (es : List (ℕ × ℕ)) (os ns : BTreeMap ℕ ℕ) (key at : ℕ) (value : Option ℕ) → FitsAt es key at → AreApart es os → tree.Updates nat_cmp os ns key value → AreApart es ns
apart-others es os ns key at value fits are updates = apart-updated es os key 0 at fits ns value updates are

-- the first entry of a key
module _ (es : List (ℕ × ℕ)) (os : BTreeMap ℕ ℕ) (key at : ℕ) where
  pub get-has : AreApart es os → HasKey es key at → map.get (joined es os) key ≡ Some (slice_index_or es at (0, 0)).1
  get-has are has =
      ap (λ m. map.get m key) (joined-split es os key 0 at are has)
      ∙ get-insert nat_cmp_total _ key _ key
      ∙ ap (λ b. cond b (Some (slice_index_or es at (0, 0)).1) (map.get (map.from_entries {R = nat_cmp} (take at es ++ behind es os key 0 at are has)) key)) ((same-key key key).1 refl)

  pub get-fits : FitsAt es key at → map.get (joined es os) key ≡ tree.get nat_cmp os key
  get-fits fits =
      get-from_entries nat_cmp_total (es ++ os.entries) key
      ∙ find-both key es os.entries
      ∙ ap (λ o. option_or o (find nat_cmp key os.entries)) (absent-fits es key at fits)
      ∙ find-lookup nat_cmp (eq_by_cmp nat_cmp) (λ x y. refl) os.entries key

-- no two entries have one key
none-apart : (key : ℕ) (es : List (ℕ × ℕ)) → find nat_cmp key es ≡ None → AllByRecursion (λ k. eq_by_cmp nat_cmp key k ≡ false) (keys_of es)
none-apart key [] none = tt
none-apart key (e ∷ es) none = next (eq_by_cmp nat_cmp key e.0) refl none (none-apart key es)
  where
    next : (b : Bool) → eq_by_cmp nat_cmp key e.0 ≡ b → cond b (Some e.1) (find nat_cmp key es) ≡ None
        → (find nat_cmp key es ≡ None → AllByRecursion (λ k. eq_by_cmp nat_cmp key k ≡ false) (keys_of es)) → AllByRecursion (λ k. eq_by_cmp nat_cmp key k ≡ false) (keys_of (e ∷ es))
    next true is none rest = absurd (cc)
    next false is none rest = (is, rest none)

distinct-joined : (es : List (ℕ × ℕ)) (os : BTreeMap ℕ ℕ) → AreApart es os → tree.IsOrdered nat_cmp os → IsDistinct (eq_by_cmp nat_cmp) (keys_of (es ++ os.entries))
distinct-joined [] os are ordered = IsDistinct-from_sorted nat_cmp (tree.keys os) ordered
distinct-joined (e ∷ es) os are ordered =
    let rest : AreApart es os = record {
      rising = λ i j up below. are.rising (suc i) (suc j) (omega arith) (omega arith);
      apart = λ i below. are.apart (suc i) (omega arith);
    } in
    let first : find nat_cmp e.0 (es ++ os.entries) ≡ None =
    find-both e.0 es os.entries
    ∙ (λ i. option_or (absent-key es e.0 (λ k below same. let less = are.rising 0 (suc k) (omega arith) (omega arith) in omega arith) i)
    ((find-lookup nat_cmp (eq_by_cmp nat_cmp) (λ x y. refl) os.entries e.0 ∙ are.apart 0 (omega arith)) i)) in
    IsDistinct-cons (eq_by_cmp nat_cmp) e.0 (keys_of (es ++ os.entries)) (none-apart e.0 (es ++ os.entries) first) (distinct-joined es os rest ordered)

pub len-joined : (es : List (ℕ × ℕ)) (os : BTreeMap ℕ ℕ) → AreApart es os → tree.IsOrdered nat_cmp os → map.len (joined es os) ≡ length es + length os.entries
len-joined es os are ordered =
    len-from_entries nat_cmp (eq_by_cmp nat_cmp) (λ x y. refl) nat_cmp_total (es ++ os.entries) (distinct-joined es os are ordered)
    ∙ length-append es os.entries

-- whether a map has all entries
module _ (es : List (ℕ × ℕ)) (os : BTreeMap ℕ ℕ) (m : ByNumber ℕ) where
  pub within-both : HasAll es m → HasAll os.entries m → IsWithin (joined es os) m
  within-both first others =
      within-from_all nat_cmp nat_cmp_total (eq_by_cmp nat_cmp) (λ x y. refl) same-key m (es ++ os.entries) (All-append (IsIn m) es os.entries first others)

  both-within : AreApart es os → tree.IsOrdered nat_cmp os → IsWithin (joined es os) m → HasAll (es ++ os.entries) m
  both-within are ordered within =
      all-from_within nat_cmp nat_cmp_total (eq_by_cmp nat_cmp) (λ x y. refl) same-key m (es ++ os.entries) (distinct-joined es os are ordered) within

  pub first-within : AreApart es os → tree.IsOrdered nat_cmp os → IsWithin (joined es os) m → HasAll es m
  first-within are ordered within =
      subst (All (IsIn m)) (take-append_seam es os.entries) (All-take (IsIn m) (length es) (es ++ os.entries) (both-within are ordered within))

  pub others-within : AreApart es os → tree.IsOrdered nat_cmp os → IsWithin (joined es os) m → HasAll os.entries m
  others-within are ordered within =
      subst (All (IsIn m)) (drop-append_seam es os.entries) (All-drop (IsIn m) (length es) (es ++ os.entries) (both-within are ordered within))

-- further entries that stay
pub apart-same : (es : List (ℕ × ℕ)) (os ns : BTreeMap ℕ ℕ) → ns.entries ≡ os.entries → AreApart es os → AreApart es ns
apart-same es os ns same are = record {
  rising = are.rising;
  apart = λ i below. ap (lookup (eq_by_cmp nat_cmp (key_at es i))) same ∙ are.apart i below;
}

-- a copy: the same entries, and further ones that are collected from those of the other
module _ (es copied : List (ℕ × ℕ)) (os ns : BTreeMap ℕ ℕ) (same : copied ≡ es) (ordered : tree.IsOrdered nat_cmp os) (made : tree.IsFromIterResult nat_cmp os.entries ns) where
  collected : ns.entries ≡ os.entries
  collected = btree_map_from_get nat_cmp_total ns os made.1 ordered
      (λ key. made.0 key ∙ update_all_none (eq_by_cmp_equiv nat_cmp_total) (eq_by_cmp nat_cmp) (λ x y. refl) os.entries key (IsDistinct-from_sorted nat_cmp (tree.keys os) ordered)) exact_unsigned

  pub joined-copy : joined copied ns ≡ joined es os
  joined-copy i = map.from_entries (same i ++ collected i)

  pub apart-copy : AreApart es os → AreApart copied ns
  apart-copy are = subst (λ l. AreApart l ns) (sym same) (apart-same es os ns collected are)

-- where a test of the further entries went well, the test of the first tells of all
module _ (es : List (ℕ × ℕ)) (os : BTreeMap ℕ ℕ) (m : ByNumber ℕ) (are : AreApart es os) (ordered : tree.IsOrdered nat_cmp os) (r : Bool) where
  pub told-by-first : HasAll os.entries m → IsTrue r ↔ HasAll es m → IsTrue r ↔ IsWithin (joined es os) m
  told-by-first others first = (λ yes. within-both es os m (first.0 yes) others, λ within. first.1 (first-within es os m are ordered within))

  pub told-by-others : r ≡ false → IsTrue r ↔ HasAll os.entries m → IsTrue r ↔ IsWithin (joined es os) m
  told-by-others untrue others = (λ yes. absurd (cc), λ within. others.1 (others-within es os m are ordered within))

-- no two entries whose keys rise have one key
distinct-rise : (es : List (ℕ × ℕ)) → Rise es → IsDistinct (eq_by_cmp nat_cmp) (keys_of es)
unfolding IsDistinct
distinct-rise [] rise = tt
distinct-rise (e ∷ es) rise =
    IsDistinct-cons (eq_by_cmp nat_cmp) e.0 (keys_of es)
    (none-apart e.0 es (absent-key es e.0 (λ k below same. let less = rise 0 (suc k) (omega arith) (omega arith) in omega arith)))
    (distinct-rise es (λ i j up below. rise (suc i) (suc j) (omega arith) (omega arith)))

-- a map of the library that is collected from such entries
pub joined-settled : (es items : List (ℕ × ℕ)) (os made : BTreeMap ℕ ℕ) → Rise es → length os.entries ≡ 0 → items ≡ [] → tree.IsFromIterResult nat_cmp es made → joined items made ≡ joined es os
joined-settled es items os made rise empty none from = same_numbers _ _ (λ q.
    ap (λ l. map.get (map.from_entries {R = nat_cmp} (l ++ made.entries)) q) none
    ∙ get-from_entries nat_cmp_total made.entries q
    ∙ find-lookup nat_cmp (eq_by_cmp nat_cmp) (λ x y. refl) made.entries q
    ∙ from.0 q
    ∙ update_all_none (eq_by_cmp_equiv nat_cmp_total) (eq_by_cmp nat_cmp) (λ x y. refl) es q (distinct-rise es rise)
    ∙ sym (find-lookup nat_cmp (eq_by_cmp nat_cmp) (λ x y. refl) es q)
    ∙ sym (get-from_entries nat_cmp_total es q)
    ∙ ap (λ l. map.get (map.from_entries {R = nat_cmp} l) q) (sym (append-nil es) ∙ ap (λ l. es ++ l) (sym (nothing os.entries empty))))
  where
    nothing : (l : List (ℕ × ℕ)) → length l ≡ 0 → l ≡ []
    nothing [] empty = refl
    nothing (x ∷ l) empty = absurd (omega arith)

pub apart-settled : (items : List (ℕ × ℕ)) (made : BTreeMap ℕ ℕ) → items ≡ [] → AreApart items made
apart-settled items made none = subst (λ es. AreApart es made) (sym none) (record { rising = λ i j up below. absurd (omega arith); apart = λ i below. absurd (omega arith) })
