-- A hash map from strings, and the finite map from texts that it is seen as.
use Rattle.std.proofs.Common.{◌≡◌, ℕ, Bool, true, false, cond, List, [], ◌∷◌, ◌++◌, Option, None, Some, refl, ap, sym, ◌∙◌, subst, inl, inr, ◌⊎◌, string_bytes, Decides, map as each, filter}
use Rattle.std.specs.Cmp.Lexicographic.{slice_cmp, nat_list_cmp_total, nat_list_eq_equiv, texts_ties, bytes_decides}
use Rattle.std.specs.FinMap as map
use Rattle.std.specs.FinMap.{from_entries, from_entries_push, get-insert, get-from_entries, same_map, slice_cmp-IsAntisymmetric, nat_cmp-IsAntisymmetric}
use Rattle.std.specs.HashMap as hash
use Rattle.std.specs.HashMap.{HashMap, get_by_text}
use Rattle.std.specs.Iterator.{Yields}
use Rattle.std.specs.List.{AllByRecursion, IsDistinct}
use Rattle.std.specs.Map.{lookup, keys_of}
use Rattle.std.specs.Map.Iter.{TakesFirst}
use Rattle.std.specs.Ordering.{nat_cmp}
use Rattle.std.specs.Str.{bytes_eq}
use Rattle.std.specs.String.{string_eq, string_eq_equiv}
use Rattle.std.specs.declared.string.String.{String}
use Rattle.std.proofs.lemmas.Bool.Decides.{Decides-like}
use Rattle.std.proofs.lemmas.List.{map-append}
use Rattle.std.proofs.lemmas.Map.Entries.{option_filter, lookup-filter-values}
use Rattle.std.proofs.lemmas.Map.Iter.{rest_more, rest_so_far}
use Rattle.std.proofs.lemmas.Map.Lookups.{hash_map_eq-Decides}
use Rattle.std.proofs.lemmas.Map.Text.{hash_map_updates_text}
use Rattle.plain_data.specs.Exact.{Exact}
use Rattle.plain_data.specs.Maps.{ByText, texts, by_text}
use Rattle.plain_data.proofs.Entries.{get-lookup}

-- finite maps that have the same under each text are one
pub same_texts : {X : Type 0} (m n : ByText X) → ((key : List ℕ) → map.get m key ≡ map.get n key) → m ≡ n
same_texts = same_map nat_list_cmp_total (slice_cmp-IsAntisymmetric nat_cmp-IsAntisymmetric)

lookup-texts : {A X : Type 0} (es : List (String A × X)) (key : List ℕ) → lookup (bytes_eq key) (texts es) ≡ lookup (λ k. bytes_eq key (string_bytes k)) es
lookup-texts [] key = refl
lookup-texts (e ∷ es) key = λ i. cond (bytes_eq key (string_bytes e.0)) (Some e.1) (lookup-texts es key i)

-- under a text the finite map has what the hash map has
pub get-by_text : {A S X : Type 0} (m : HashMap (String A) X S) (key : List ℕ) → map.get (by_text m) key ≡ get_by_text m key
get-by_text m key = get-lookup (slice_cmp nat_cmp) bytes_eq texts_ties nat_list_cmp_total (texts m.entries) key ∙ lookup-texts m.entries key

-- an entry is made
pub by_text-insert : {A S X : Type 0} (m n : HashMap (String A) X S) (k : String A) (x : X) → hash.Updates string_eq m n k (Some x) → by_text n ≡ map.insert (by_text m) (string_bytes k) x
by_text-insert m n k x updates = same_texts (by_text n) _ (λ key.
    get-by_text n key
    ∙ hash_map_updates_text (string_bytes k) m n (Some x) updates key
    ∙ (λ i. cond ((nat_list_eq_equiv.symm (string_bytes k) key ∙ texts_ties key (string_bytes k)) i) (Some x) (sym (get-by_text m key) i))
    ∙ sym (get-insert nat_list_cmp_total (by_text m) (string_bytes k) x key))

apart-texts : {A X : Type 0} (k : String A) (es : List (String A × X)) → AllByRecursion (λ y. string_eq k y ≡ false) (keys_of es) → AllByRecursion (λ y. bytes_eq (string_bytes k) y ≡ false) (keys_of (texts es))
apart-texts k [] apart = tt
apart-texts k (e ∷ es) apart = (apart.0, apart-texts k es apart.1)

-- keys that differ have bytes that differ
distinct-texts : {A X : Type 0} (es : List (String A × X)) → IsDistinct string_eq (keys_of es) → IsDistinct bytes_eq (keys_of (texts es))
unfolding IsDistinct
distinct-texts [] distinct = tt
distinct-texts (e ∷ es) distinct = (apart-texts e.0 es distinct.0, distinct-texts es distinct.1)

texts-filter : {A X : Type 0} (test : X → Bool) (es : List (String A × X)) → texts (filter (λ e. test e.1) es) ≡ filter (λ e. test e.1) (texts es)
texts-filter test [] = refl
texts-filter test (e ∷ es) =
    elim (test e.1) as (λ b. texts (cond b (e ∷ filter (λ e. test e.1) es) (filter (λ e. test e.1) es)) ≡ cond b ((string_bytes e.0, e.1) ∷ filter (λ e. test e.1) (texts es)) (filter (λ e. test e.1) (texts es))) [
      | true ↦ ap (λ rest. (string_bytes e.0, e.1) ∷ rest) (texts-filter test es)
      | false ↦ texts-filter test es
    ]

-- the entries whose values pass a test are left
pub get-retained : {A S X : Type 0} (test : X → Bool) (m n : HashMap (String A) X S) → hash.IsUnique string_eq m → n.entries ≡ filter (λ e. test e.1) m.entries
    → (key : List ℕ) → map.get (by_text n) key ≡ option_filter test (map.get (by_text m) key)
get-retained test m n unique is key =
    get-by_text n key ∙ sym (lookup-texts n.entries key)
    ∙ ap (lookup (bytes_eq key)) (ap texts is ∙ texts-filter test m.entries)
    ∙ lookup-filter-values nat_list_eq_equiv test key (texts m.entries) (distinct-texts m.entries unique)
    ∙ ap (option_filter test) (lookup-texts m.entries key ∙ sym (get-by_text m key))

-- a text has no value, or it is the bytes of a string
key-found : {A X : Type 0} (es : List (String A × X)) (key : List ℕ) → (lookup (λ k. bytes_eq key (string_bytes k)) es ≡ None) ⊎ ((k : String A) × (string_bytes k ≡ key))
key-found [] key = inl refl
key-found {A} {X} (e ∷ es) key = next (bytes_eq key (string_bytes e.0)) refl (key-found es key)
  where
    next : (b : Bool) → bytes_eq key (string_bytes e.0) ≡ b → (lookup (λ k. bytes_eq key (string_bytes k)) es ≡ None) ⊎ ((k : String A) × (string_bytes k ≡ key)) → (cond (bytes_eq key (string_bytes e.0)) (Some e.1) (lookup (λ k. bytes_eq key (string_bytes k)) es) ≡ None) ⊎ ((k : String A) × (string_bytes k ≡ key))
    next true is found = inr (e.0, sym ((bytes_decides key (string_bytes e.0)).0 is))
    next false is (inl none) = inl (ap (λ b. cond b (Some e.1) (lookup (λ k. bytes_eq key (string_bytes k)) es)) is ∙ none)
    next false is (inr found) = inr found

module _ {A S X : Type 0} (m n : HashMap (String A) X S) where
  at_each-text : ((k : String A) → hash.get string_eq m k ≡ hash.get string_eq n k) → (key : List ℕ) → get_by_text m key ≡ get_by_text n key
  at_each-text same key = next (key-found m.entries key) (key-found n.entries key)
    where
      next : (get_by_text m key ≡ None) ⊎ ((k : String A) × (string_bytes k ≡ key)) → (get_by_text n key ≡ None) ⊎ ((k : String A) × (string_bytes k ≡ key)) → get_by_text m key ≡ get_by_text n key
      next (inl none) (inl also) = none ∙ sym also
      next (inl none) (inr found) = subst (λ q. get_by_text m q ≡ get_by_text n q) found.1 (same found.0)
      next (inr found) other = subst (λ q. get_by_text m q ≡ get_by_text n q) found.1 (same found.0)

  -- hash maps that have the same at each string are one finite map
  by_text-same : ((k : String A) → hash.get string_eq m k ≡ hash.get string_eq n k) → by_text m ≡ by_text n
  by_text-same same = same_texts (by_text m) (by_text n) (λ key. get-by_text m key ∙ at_each-text same key ∙ sym (get-by_text n key))

  -- and the other way round
  get-from_same : by_text m ≡ by_text n → (k : String A) → hash.get string_eq m k ≡ hash.get string_eq n k
  get-from_same same k = sym (get-by_text m (string_bytes k)) ∙ ap (λ made. map.get made (string_bytes k)) same ∙ get-by_text n (string_bytes k)

  -- `==` of two hash maps tells whether they are one finite map
  pub by_text-Decides : {F : X → X → Bool} → Exact F → (r : Bool) → r ≡ hash.hash_map_eq string_eq F m n → Decides r (by_text m ≡ by_text n)
  by_text-Decides exact r is = Decides-like r by_text-same get-from_same (hash_map_eq-Decides string_eq_equiv exact m n r is)

apart-last : {X : Type 0} (e : List ℕ × X) (key : List ℕ) (es rest : List (List ℕ × X)) → AllByRecursion (λ y. bytes_eq key y ≡ false) (keys_of (es ++ e ∷ rest)) → bytes_eq key e.0 ≡ false
apart-last e key [] rest apart = apart.0
apart-last e key (x ∷ es) rest apart = apart-last e key es rest apart.1

-- of entries whose keys differ, those before an entry lack its key
lookup-before : {X : Type 0} (es rest : List (List ℕ × X)) (e : List ℕ × X) → IsDistinct bytes_eq (keys_of (es ++ e ∷ rest)) → lookup (bytes_eq e.0) es ≡ None
unfolding IsDistinct
lookup-before [] rest e distinct = refl
lookup-before (x ∷ es) rest e distinct =
    ap (λ b. cond b (Some x.1) (lookup (bytes_eq e.0) es)) (nat_list_eq_equiv.symm e.0 x.0 ∙ apart-last e x.0 es rest distinct.0)
    ∙ lookup-before es rest e distinct.1

-- a hash map whose entries are copied in order: those before an entry, the entry, and the rest
module _ {A S X : Type 0} (m : HashMap (String A) X S) (unique : hash.IsUnique string_eq m) (before rest : List (String A × X)) (e : String A × X) (is : before ++ e ∷ rest ≡ m.entries) where
  distinct : IsDistinct bytes_eq (keys_of (texts before ++ (string_bytes e.0, e.1) ∷ texts rest))
  distinct =
      subst (λ es. IsDistinct bytes_eq (keys_of es)) (map-append (λ e. (string_bytes e.0, e.1)) before (e ∷ rest)) (distinct-texts (before ++ e ∷ rest) (subst (λ es. IsDistinct string_eq (keys_of es)) (sym is) unique))

  -- the copy lacks the key
  pub get-before : map.get (from_entries {R = slice_cmp nat_cmp} (texts before)) (string_bytes e.0) ≡ None
  get-before = get-lookup (slice_cmp nat_cmp) bytes_eq texts_ties nat_list_cmp_total (texts before) (string_bytes e.0) ∙ lookup-before (texts before) (texts rest) (string_bytes e.0, e.1) distinct

  -- the copy with the entry
  pub from_entries-next : from_entries {R = slice_cmp nat_cmp} (texts (before ++ e ∷ [])) ≡ map.insert (from_entries (texts before)) (string_bytes e.0) e.1
  from_entries-next =
      ap from_entries (map-append (λ e. (string_bytes e.0, e.1)) before (e ∷ []))
      ∙ from_entries_push nat_list_cmp_total (slice_cmp-IsAntisymmetric nat_cmp-IsAntisymmetric) (texts before) (string_bytes e.0) e.1 (sym (get-from_entries nat_list_cmp_total (texts before) (string_bytes e.0)) ∙ get-before)

-- at a turn of a loop over entries: those before, this turn's, and those after it
pub entries_at_turn : {A X : Type 0} (shows : A → X) (all : List X) (xs : List A) (s t u : List X) (r : Option A) (x : A) → s ≡ all → Yields (TakesFirst shows) s xs t → r ≡ Some x → TakesFirst shows t r u → each shows xs ++ shows x ∷ u ≡ all
entries_at_turn shows all xs s t u r x start yielded is step = ap (λ es. each shows xs ++ es) (sym (rest_more shows t u r x is step)) ∙ sym (rest_so_far shows xs s t yielded) ∙ start
