-- What has been seen of a file while the public imports of some still wait to be looked at, and once none wait.
use Rattle.std.proofs.Common.{◌≡◌, ◌↔◌, ◌+◌, ◌<◌, ◌≤◌, ℕ, Bool, true, false, ◌||◌, ◌&&◌, List, [], ◌∷◌, ◌++◌, Option, Some, refl, ap, sym, ◌∙◌, subst, inl, inr, length, filter, take, get_or, eqb, arith, length-append}
use Rattle.std.specs.BTreeSet.{BTreeSet, contains, IsFromIterResult}
use Rattle.std.specs.Cmp.{nat_cmp_total, unsigned_tied}
use Rattle.std.specs.List.{list_any, range_with_len, IsDistinct}
use Rattle.std.specs.List.Sorted.{IsStrictlySortedBy}
use Rattle.std.specs.Ordering.{nat_cmp, eq_by_cmp}
use Rattle.std.proofs.lemmas.Bool.{eqb-true, eq-eqb, or_cases, or_left, or_right, and_parts, and_from, true≢false}
use Rattle.std.proofs.lemmas.List.{take-append-le, take_all, take_more}
use Rattle.std.proofs.lemmas.List.Folds.{list_any-append, list_any_at}
use Rattle.std.proofs.lemmas.List.FromFn.{get_or-range_with_len, length-range_with_len}
use Rattle.std.proofs.lemmas.List.Kept.{IsStrictlySortedBy-filter}
use Rattle.std.proofs.lemmas.Map.Keys.{sorted_from_strictly_increasing}
use Rattle.std.proofs.lemmas.Map.Lookups.{btree_set_from_contains, exact_unsigned}
use Rattle.std.proofs.lemmas.Map.Steps.{length-le_from_distinct_below}
use Rattle.std.proofs.lemmas.Map.Views.{any-filter_same}
use Rattle.proto_types.specs.declared.file.FileDescriptorProto.{FileDescriptorProto}
use Rattle.name_resolution.specs.Seen.{with_each}
use Rattle.name_resolution.specs.Visibility.{imports_of, public_imports_of, Imports, ImportsPublicly, Sees, sees, seen_from}
use Rattle.proto_types.specs.File.{file_at}
use Rattle.name_resolution.proofs.Chains.{Sees-import, Sees-public, Sees-least, Sees-within, Sees-tested, Sees-from_test}
use Rattle.name_resolution.proofs.Members.{has, Contains-from_has, has-from_Contains}
use Rattle.name_resolution.proofs.Seeing.{behind-each, distinct-with_each, has-with_each, or-false}

-- numbers in a row ascend
range_with_len-ascends : (a n : ℕ) → IsStrictlySortedBy nat_cmp (range_with_len a n)
range_with_len-ascends a n =
    sorted_from_strictly_increasing (range_with_len a n) (λ k below.
    omega (arith, below, length-range_with_len a n, get_or-range_with_len a n k 0 (omega (arith, below, length-range_with_len a n)), get_or-range_with_len a n (k + 1) 0 (omega (arith, below, length-range_with_len a n))))

none-twice : IsDistinct eqb []
unfolding IsDistinct
none-twice = tt

module _ (files : List FileDescriptorProto) (numbers : List ℕ → Option ℕ) (a : ℕ) where
  -- all that was seen is to be seen, each once. The file, its imports, and of each of those before a place the public imports have been seen
  pub record Reached (seen : List ℕ) (next : ℕ) : Type 0 where
    pub sound : (b : ℕ) → has seen b ≡ true → Sees files numbers a b
    pub itself : has seen a ≡ true
    pub imports : (c : ℕ) → Imports files numbers a c → has seen c ≡ true
    pub publics : (b : ℕ) → has (take next seen) b ≡ true → (c : ℕ) → ImportsPublicly files numbers b c → has seen c ≡ true
    pub distinct : IsDistinct eqb seen
    pub within : next ≤ length seen

  -- at first: the file, and its imports
  abbrev pub first-seen : List ℕ
  first-seen = with_each (with_each [] (a ∷ [])) (imports_of numbers (file_at files a))

  first-has : (b : ℕ) → has first-seen b ≡ (has (a ∷ []) b || has (imports_of numbers (file_at files a)) b)
  first-has b = has-with_each (a ∷ []) (imports_of numbers (file_at files a)) b

  pub Reached-first : Reached first-seen 0
  Reached-first = record {
    sound = λ b is. elim (or_cases (has (a ∷ []) b) (has (imports_of numbers (file_at files a)) b) (sym (first-has b) ∙ is)) [
      | inl same ↦ inl (eqb-true b a (or-false (eqb b a) ∙ same))
      | inr import ↦ Sees-import files numbers a b (Contains-from_has (imports_of numbers (file_at files a)) b import)
    ];
    itself = first-has a ∙ or_left (has (a ∷ []) a) _ (or_left (eqb a a) false (eq-eqb a a refl));
    imports = λ c import. first-has c ∙ or_right (has (a ∷ []) c) _ (has-from_Contains (imports_of numbers (file_at files a)) c import);
    publics = λ b none. absurd (true≢false (sym none));
    distinct = distinct-with_each (a ∷ []) (imports_of numbers (file_at files a)) (distinct-with_each [] (a ∷ []) none-twice);
    within = omega arith;
  }

  -- a turn: the public imports of the file at the place are seen
  module _ (seen : List ℕ) (next x : ℕ) (before : Reached seen next) (below : next < length seen) (at : x ≡ get_or seen next x) where
    abbrev pub next-seen : List ℕ
    next-seen = with_each seen (public_imports_of numbers (file_at files x))

    next-has : (b : ℕ) → has next-seen b ≡ (has seen b || has (public_imports_of numbers (file_at files x)) b)
    next-has b = has-with_each seen (public_imports_of numbers (file_at files x)) b

    kept : (b : ℕ) → has seen b ≡ true → has next-seen b ≡ true
    kept b is = next-has b ∙ or_left (has seen b) _ is

    pub Reached-here : Sees files numbers a x
    Reached-here = before.sound x (list_any_at (eqb x) seen next x below (eq-eqb x _ at))

    -- the files so far are those before the place, and the one there
    done : take (next + 1) next-seen ≡ take next seen ++ x ∷ []
    done =
        let (more, is) = behind-each seen (public_imports_of numbers (file_at files x)) in
        ap (take (next + 1)) is
        ∙ take-append-le (next + 1) seen more (omega (arith, below))
        ∙ take_more seen next x below
        ∙ ap (λ y. take next seen ++ y ∷ []) (sym at)

    next-publics : (b : ℕ) → has (take (next + 1) next-seen) b ≡ true → (c : ℕ) → ImportsPublicly files numbers b c → has next-seen c ≡ true
    next-publics b is c public =
        elim (or_cases (has (take next seen) b) (has (x ∷ []) b) (sym (ap (λ xs. has xs b) done ∙ list_any-append (eqb b) (take next seen) (x ∷ [])) ∙ is)) [
          | inl old ↦ kept c (before.publics b old c public)
          | inr new ↦
              let same : b ≡ x = eqb-true b x (or-false (eqb b x) ∙ new) in
              next-has c ∙ or_right (has seen c) _ (has-from_Contains (public_imports_of numbers (file_at files x)) c (subst (λ y. ImportsPublicly files numbers y c) same public))
        ]

    next-within : next + 1 ≤ length next-seen
    next-within =
        let (more, is) = behind-each seen (public_imports_of numbers (file_at files x)) in
        omega (arith, below, ap length is, length-append seen more)

    pub Reached-next : Reached next-seen (next + 1)
    Reached-next = record {
      sound = λ b is. elim (or_cases (has seen b) (has (public_imports_of numbers (file_at files x)) b) (sym (next-has b) ∙ is)) [
        | inl old ↦ before.sound b old
        | inr new ↦ Sees-public files numbers a x b Reached-here (Contains-from_has (public_imports_of numbers (file_at files x)) b new)
      ];
      itself = kept a before.itself;
      imports = λ c import. kept c (before.imports c import);
      publics = next-publics;
      distinct = distinct-with_each seen (public_imports_of numbers (file_at files x)) before.distinct;
      within = next-within;
    }

  module _ (within : (name : List ℕ) (n : ℕ) → numbers name ≡ Some n → n < length files) (below : a < length files) where
    pub Reached-few : (seen : List ℕ) (next : ℕ) → Reached seen next → length seen ≤ length files
    Reached-few seen next reached =
        length-le_from_distinct_below seen (length files) reached.distinct (λ q is. Sees-within files numbers within a q below (reached.sound q is))

    -- at last: all had their turn, and a set is made of the list
    module _ (seen : List ℕ) (next : ℕ) (reached : Reached seen next) (all : length seen ≤ next) (set : BTreeSet ℕ) (made : IsFromIterResult nat_cmp seen set) where
      set-has : (b : ℕ) → contains nat_cmp set b ≡ has seen b
      set-has b = made.0 b ∙ (λ i. list_any (λ c. unsigned_tied b c i) seen)

      whole : take next seen ≡ seen
      whole = take_all next seen all

      pub Reached-sees : (b : ℕ) → (contains nat_cmp set b ≡ true) ↔ Sees files numbers a b
      Reached-sees b = (
        λ is. reached.sound b (sym (set-has b) ∙ is),
        λ sees. set-has b
            ∙ Sees-least files numbers a (λ c. has seen c ≡ true) reached.itself reached.imports (λ b is c public. reached.publics b (ap (λ xs. has xs b) whole ∙ is) c public) b sees,
      )

      in-range : (q : ℕ) → q < length files → list_any (eq_by_cmp nat_cmp q) (range_with_len 0 (length files)) ≡ true
      in-range q lt =
          let place : q < length (range_with_len 0 (length files)) = omega (arith, length-range_with_len 0 (length files)) in
          let is : q ≡ get_or (range_with_len 0 (length files)) q 0 = omega (arith, get_or-range_with_len 0 (length files) q 0 lt) in
          list_any_at (eq_by_cmp nat_cmp q) (range_with_len 0 (length files)) q 0 place (unsigned_tied q (get_or (range_with_len 0 (length files)) q 0) ∙ eq-eqb q _ is)

      in-seen : (q : ℕ) → list_any (eq_by_cmp nat_cmp q) (filter (sees files numbers a) (range_with_len 0 (length files))) ≡ (sees files numbers a q && list_any (eq_by_cmp nat_cmp q) (range_with_len 0 (length files)))
      in-seen q =
          any-filter_same (eq_by_cmp nat_cmp q) (sees files numbers a) (sees files numbers a q) (λ k tie. ap (sees files numbers a) (sym (eqb-true q k (sym (unsigned_tied q k) ∙ tie)))) (range_with_len 0 (length files))

      alike : (c d : Bool) → (c ≡ true → d ≡ true) → (d ≡ true → c ≡ true) → c ≡ d
      alike true d to from = sym (to refl)
      alike false true to from = from refl
      alike false false to from = refl

      pub Reached-keys : set.keys ≡ seen_from files numbers a
      Reached-keys =
          btree_set_from_contains nat_cmp_total set (record { keys = seen_from files numbers a }) made.1
          (IsStrictlySortedBy-filter nat_cmp (sees files numbers a) (range_with_len 0 (length files)) (range_with_len-ascends 0 (length files)))
          (λ q.
          alike _ _
          (λ is. let seen = (Reached-sees q).0 is in and_from (sees files numbers a q) _ (Sees-tested files numbers within a q seen) (in-range q (Sees-within files numbers within a q below seen)))
          (λ is. (Reached-sees q).1 (Sees-from_test files numbers a q (and_parts (sees files numbers a q) _ is).0))
          ∙ sym (in-seen q))
          exact_unsigned
