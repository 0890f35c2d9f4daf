-- Texts with numbers, and the finite map that they are seen as.
use Rattle.std.proofs.Common.{◌≡◌, ◌≢◌, ℕ, zero, suc, ◌<◌, Bool, true, false, cond, List, [], ◌∷◌, ◌++◌, None, Some, refl, ap, sym, ◌∙◌, subst, length, set, slice_index_or, arith}
use Rattle.std.specs.Prelude.{IsTrue, ◌↔◌}
use Rattle.std.specs.Cmp.Lexicographic.{slice_cmp, nat_list_cmp_total, nat_list_eq_equiv, texts_ties, bytes_decides}
use Rattle.std.specs.FinMap as map
use Rattle.std.specs.FinMap.{find, from_entries_push, get-from_entries, get-insert, slice_cmp-IsAntisymmetric, nat_cmp-IsAntisymmetric}
use Rattle.std.specs.List.{IsDistinct, list_any, AllByRecursion, fold}
use Rattle.std.specs.Map.{lookup, keys_of, set_value}
use Rattle.std.specs.Option.{IsSome}
use Rattle.std.specs.Ordering.{nat_cmp, eq_by_cmp}
use Rattle.std.specs.Str.{bytes_eq}
use Rattle.std.specs.declared.option.Option.{Option}
use Rattle.std.proofs.lemmas.List.{append_assoc, append-nil, map-append}
use Rattle.std.proofs.lemmas.Map.{lookup-set_value, keys-set_value}
use Rattle.std.proofs.lemmas.Map.Keys.{IsDistinct-push}
use Rattle.std.proofs.lemmas.Map.Entries.{lookup_from_place}
use Rattle.std.proofs.lemmas.Option.{slice_get-get_or}
use Rattle.plain_data.specs.Maps.{ByText, HasAll, inserted, IsWithin}
use Rattle.plain_data.specs.TextEntries.{AreApart, Holds, Lacks, text_at}
use Rattle.plain_data.proofs.Entries.{all-from_within, get-lookup, len-from_entries, within-from_all}
use Rattle.plain_data.proofs.Texts.{same_texts}

-- it has as many entries as there are
pub len-entries : (es : List (List ℕ × ℕ)) → IsDistinct bytes_eq (keys_of es) → map.len (map.from_entries {R = slice_cmp nat_cmp} es) ≡ length es
len-entries es distinct = len-from_entries (slice_cmp nat_cmp) bytes_eq texts_ties nat_list_cmp_total es distinct

-- under a text it has what the first entry of it has
pub get-entries : (es : List (List ℕ × ℕ)) (key : List ℕ) → map.get (map.from_entries {R = slice_cmp nat_cmp} es) key ≡ lookup (bytes_eq key) es
get-entries es key = get-lookup (slice_cmp nat_cmp) bytes_eq texts_ties nat_list_cmp_total es key

differs : (a b : List ℕ) → a ≢ b → bytes_eq a b ≡ false
differs a b apart = next (bytes_eq a b) refl
  where
    next : (r : Bool) → bytes_eq a b ≡ r → r ≡ false
    next true is = absurd (apart ((bytes_decides a b).0 is))
    next false is = refl

-- an entry that has a text says its number
pub lookup-holds : (es : List (List ℕ × ℕ)) (key : List ℕ) (at : ℕ) → IsDistinct bytes_eq (keys_of es) → Holds es key at → lookup (bytes_eq key) es ≡ Some (slice_index_or es at ([], 0)).1
lookup-holds es key at distinct holds =
    lookup_from_place nat_list_eq_equiv es at key _ distinct
    (slice_get-get_or es at ([], 0) holds.0 ∙ ap (λ k. Some (k, (slice_index_or es at ([], 0)).1)) holds.1)

-- without such an entry there is none
pub lookup-lacks : (es : List (List ℕ × ℕ)) (key : List ℕ) → Lacks es key → lookup (bytes_eq key) es ≡ None
lookup-lacks [] key lacks = refl
lookup-lacks (e ∷ es) key lacks =
    ap (λ b. cond b (Some e.1) (lookup (bytes_eq key) es)) (differs key e.0 (λ same. lacks 0 (omega arith) (omega arith) (sym same)))
    ∙ lookup-lacks es key (λ at from below. lacks (suc at) (omega arith) (omega arith))

unlisted : (es : List (List ℕ × ℕ)) (key : List ℕ) → Lacks es key → list_any (bytes_eq key) (keys_of es) ≡ false
unlisted [] key lacks = refl
unlisted (e ∷ es) key lacks = rw (differs key e.0 (λ same. lacks 0 (omega arith) (omega arith) (sym same))) (unlisted es key (λ at from below. lacks (suc at) (omega arith) (omega arith)))

-- the text of no other entry is that of one with an entry
other_text : (e : List ℕ × ℕ) (es : List (List ℕ × ℕ)) (key : List ℕ) (at : ℕ) → IsDistinct bytes_eq (keys_of (e ∷ es)) → Holds es key at → bytes_eq key e.0 ≡ false
unfolding IsDistinct
other_text e es key at distinct holds =
    nat_list_eq_equiv.symm key e.0
    ∙ subst (λ k. bytes_eq e.0 k ≡ false) holds.1 (apart es at distinct.0 holds.0)
  where
    apart : (others : List (List ℕ × ℕ)) (i : ℕ) → AllByRecursion (λ y. bytes_eq e.0 y ≡ false) (keys_of others) → i < length others → bytes_eq e.0 (text_at others i) ≡ false
    apart [] i all below = absurd (omega arith)
    apart (o ∷ others) zero all below = all.0
    apart (o ∷ others) (suc i) all below = apart others i all.1 (omega arith)

-- a number in place of another is the value set
set-value : (es : List (List ℕ × ℕ)) (key : List ℕ) (number at : ℕ) → IsDistinct bytes_eq (keys_of es) → Holds es key at
    → set es at (text_at es at, number) ≡ set_value (bytes_eq key) es number
unfolding IsDistinct
set-value [] key number at distinct holds = absurd (omega arith)
set-value (e ∷ es) key number zero distinct holds =
    ap (λ b. cond b ((e.0, number) ∷ es) (e ∷ set_value (bytes_eq key) es number)) (sym ((bytes_decides key e.0).1 (sym holds.1)))
set-value (e ∷ es) key number (suc at) distinct holds =
    let there : Holds es key at = (omega arith, holds.1) in
    ap (λ xs. e ∷ xs) (set-value es key number at distinct.1 there)
    ∙ ap (λ b. cond b ((e.0, number) ∷ es) (e ∷ set_value (bytes_eq key) es number)) (sym (other_text e es key at distinct there))

IsSome-Some : {X : Type 0} (o : Option X) (x : X) → o ≡ Some x → IsSome o
IsSome-Some o x is = subst IsSome (sym is) refl

-- the entry of a text has another number
module _ (es : List (List ℕ × ℕ)) (key : List ℕ) (number at : ℕ) (distinct : IsDistinct bytes_eq (keys_of es)) (holds : Holds es key at) where
  pub entries-set : map.from_entries {R = slice_cmp nat_cmp} (set es at (text_at es at, number)) ≡ map.insert (map.from_entries es) key number
  entries-set =
      same_texts (map.from_entries (set es at (text_at es at, number))) _ (λ q.
      get-entries _ q
      ∙ ap (lookup (bytes_eq q)) (set-value es key number at distinct holds)
      ∙ lookup-set_value nat_list_eq_equiv (bytes_eq key) (λ x y is. ap (λ k. bytes_eq k y) ((bytes_decides key x).0 is)) q number es (IsSome-Some _ _ (lookup-holds es key at distinct holds))
      ∙ ap (λ b. cond b (Some number) (lookup (bytes_eq q) es)) (nat_list_eq_equiv.symm key q ∙ texts_ties q key)
      ∙ ap (cond (eq_by_cmp (slice_cmp nat_cmp) q key) (Some number)) (sym (get-entries es q))
      ∙ sym (get-insert nat_list_cmp_total (map.from_entries es) key number q))

  pub distinct-set : IsDistinct bytes_eq (keys_of (set es at (text_at es at, number)))
  distinct-set = subst (IsDistinct bytes_eq) (sym (ap keys_of (set-value es key number at distinct holds) ∙ keys-set_value (bytes_eq key) es number)) distinct

-- an entry with a text of its own behind the others
module _ (es : List (List ℕ × ℕ)) (key : List ℕ) (number : ℕ) (lacks : Lacks es key) where
  pub entries-push : map.from_entries {R = slice_cmp nat_cmp} (es ++ (key, number) ∷ []) ≡ map.insert (map.from_entries es) key number
  entries-push =
      from_entries_push nat_list_cmp_total (slice_cmp-IsAntisymmetric nat_cmp-IsAntisymmetric) es key number
      (sym (get-from_entries nat_list_cmp_total es key) ∙ get-entries es key ∙ lookup-lacks es key lacks)

  pub distinct-push : IsDistinct bytes_eq (keys_of es) → IsDistinct bytes_eq (keys_of (es ++ (key, number) ∷ []))
  distinct-push distinct =
      subst (IsDistinct bytes_eq) (sym (map-append _ es ((key, number) ∷ [])))
      (IsDistinct-push nat_list_eq_equiv (keys_of es) key distinct (unlisted es key lacks))

-- no entries
pub distinct-none : (es : List (List ℕ × ℕ)) → es ≡ [] → IsDistinct bytes_eq (keys_of es)
unfolding IsDistinct
distinct-none es none = subst (λ xs. IsDistinct bytes_eq (keys_of xs)) (sym none) tt

-- entries of which no two have one text
pub distinct-apart : (es : List (List ℕ × ℕ)) → ((i j : ℕ) → i < j → j < length es → text_at es i ≢ text_at es j) → IsDistinct bytes_eq (keys_of es)
unfolding IsDistinct
distinct-apart [] apart = tt
distinct-apart (e ∷ es) apart =
    (others es (λ j below. apart 0 (suc j) (omega arith) (omega arith)), distinct-apart es (λ i j rise below. apart (suc i) (suc j) (omega arith) (omega arith)))
  where
    others : (xs : List (List ℕ × ℕ)) → ((j : ℕ) → j < length xs → e.0 ≢ text_at xs j) → AllByRecursion (λ y. bytes_eq e.0 y ≡ false) (keys_of xs)
    others [] each = tt
    others (x ∷ xs) each = (differs e.0 x.0 (each 0 (omega arith)), others xs (λ j below. each (suc j) (omega arith)))

pub distinct-looked : (es : List (List ℕ × ℕ)) → AreApart es (length es) → IsDistinct bytes_eq (keys_of es)
distinct-looked es apart = distinct-apart es (λ i j rise below same. apart i (omega arith) j (omega arith) below (sym same))

middle : (x : List ℕ) (xs : List (List ℕ × ℕ)) (e : List ℕ × ℕ) (es : List (List ℕ × ℕ)) → AllByRecursion (λ y. bytes_eq x y ≡ false) (keys_of (xs ++ e ∷ es)) → bytes_eq x e.0 ≡ false
middle x [] e es all = all.0
middle x (f ∷ xs) e es all = middle x xs e es all.1

missing : (xs : List (List ℕ × ℕ)) (e : List ℕ × ℕ) (es : List (List ℕ × ℕ)) → IsDistinct bytes_eq (keys_of (xs ++ e ∷ es)) → find (slice_cmp nat_cmp) e.0 xs ≡ None
unfolding IsDistinct
missing [] e es distinct = refl
missing (x ∷ xs) e es distinct =
    ap (λ b. cond b (Some x.1) (find (slice_cmp nat_cmp) e.0 xs)) (sym (texts_ties e.0 x.0) ∙ nat_list_eq_equiv.symm e.0 x.0 ∙ middle x.0 xs e es distinct.0)
    ∙ missing xs e es distinct.1

-- entries put in one after another are those of a map, where no two have one key
put-in : (pre es : List (List ℕ × ℕ)) → IsDistinct bytes_eq (keys_of (pre ++ es)) → map.from_entries {R = slice_cmp nat_cmp} (pre ++ es) ≡ fold (λ m e. map.insert m e.0 e.1) (map.from_entries {R = slice_cmp nat_cmp} pre) es
put-in pre [] distinct = ap map.from_entries (append-nil pre)
put-in pre (e ∷ es) distinct =
    let more : pre ++ e ∷ es ≡ (pre ++ e ∷ []) ++ es = sym (append_assoc pre (e ∷ []) es) in
    ap map.from_entries more
    ∙ put-in (pre ++ e ∷ []) es (subst (λ xs. IsDistinct bytes_eq (keys_of xs)) more distinct)
    ∙ ap (λ m. fold (λ m e. map.insert m e.0 e.1) m es)
    (from_entries_push nat_list_cmp_total (slice_cmp-IsAntisymmetric nat_cmp-IsAntisymmetric) pre e.0 e.1 (missing pre e es distinct))

pub entries-inserted : (es : List (List ℕ × ℕ)) → IsDistinct bytes_eq (keys_of es) → map.from_entries {R = slice_cmp nat_cmp} es ≡ inserted es
entries-inserted es distinct = put-in [] es distinct

-- whether a finite map has each entry of the one that is made of some
module _ (es : List (List ℕ × ℕ)) (m : ByText ℕ) where
  pub within-entries : HasAll es m → IsWithin (map.from_entries {R = slice_cmp nat_cmp} es) m
  within-entries all = within-from_all (slice_cmp nat_cmp) nat_list_cmp_total bytes_eq texts_ties bytes_decides m es all

  pub all-entries : IsDistinct bytes_eq (keys_of es) → IsWithin (map.from_entries {R = slice_cmp nat_cmp} es) m → HasAll es m
  all-entries distinct within = all-from_within (slice_cmp nat_cmp) nat_list_cmp_total bytes_eq texts_ties bytes_decides m es distinct within

  pub told-by-all : (r : Bool) → IsDistinct bytes_eq (keys_of es) → IsTrue r ↔ HasAll es m → IsTrue r ↔ IsWithin (map.from_entries {R = slice_cmp nat_cmp} es) m
  told-by-all r distinct has = (λ yes. within-entries (has.0 yes), λ within. has.1 (all-entries distinct within))
