-- Rows with texts in a list of bytes, and the finite map that they are seen as.
use Rattle.std.proofs.Common.{◌≡◌, ◌≢◌, ℕ, zero, suc, ◌+◌, ◌<◌, ◌≤◌, ◌-◌, Bool, List, [], ◌∷◌, ◌++◌, None, Some, refl, ap, sym, ◌∙◌, subst, inl, inr, ◌⊎◌, length, take, drop, set, slice_index_or, arith}
use Rattle.std.specs.Cmp.{IsTotalOrder, tied_itself, nat_cmp_total, then_total, on_total}
use Rattle.std.specs.Cmp.Lexicographic.{slice_cmp, nat_list_cmp_total, nat_list_eq_equiv}
use Rattle.std.specs.FinMap as map
use Rattle.std.specs.FinMap.{slice_cmp-IsAntisymmetric, nat_cmp-IsAntisymmetric}
use Rattle.std.specs.List.{IsDistinct}
use Rattle.std.specs.List.Sorted.{IsPermutation}
use Rattle.std.specs.Map.{lookup, keys_of}
use Rattle.std.specs.Ordering.{nat_cmp, ordering_reverse, ordering_then}
use Rattle.std.specs.Result.{OnOk, OnErr}
use Rattle.std.specs.Str.{bytes_eq}
use Rattle.std.specs.declared.result.Result.{Result}
use Rattle.std.specs.declared.result.Result.TheVariants.{Ok, Err}
use Rattle.std.specs.declared.cmp.Ordering.{Ordering}
use Rattle.std.specs.declared.cmp.Ordering.TheVariants.{Less, Equal, Greater}
use Rattle.std.proofs.lemmas.List.{append_assoc, take_at, take-append-drop, length-map, length-set, map-set, length-append, take-append-le, drop-append-le, drop_at, take_all, length-take-le, length_push, get_or_push, get_or-take, get_or_append_left, map-append, length-drop, get_or-set_same, get_or-set_other}
use Rattle.std.proofs.Math.Seq.{map-set_same}
use Rattle.std.proofs.lemmas.Bool.{cases_eq, cases_lt}
use Rattle.std.proofs.lemmas.Grind.{get_or_moved}
use Rattle.std.proofs.lemmas.List.Sorted.{IsPermutation-map, IsPermutation-sym, IsPermutation-append_right, length_permutation}
use Rattle.std.proofs.lemmas.Map.Keys.{IsDistinct-IsPermutation}
use Rattle.plain_data.specs.declared.text_rows.Row.{Row}
use Rattle.plain_data.specs.TextEntries as looked
use Rattle.plain_data.proofs.TextEntries as plain
use Rattle.plain_data.specs.Digests.{digest_of}
use Rattle.plain_data.specs.TextRows.{IsDigested, AreDigested, text_order, made_of, text_of, text_at, entries_of, no_row, IsRow, AreWithin, Holds, Lacks, bound, IsRun, AreRuns, IsSound, Covers}
use Rattle.plain_data.proofs.Entries.{IsIn, within-same}
use Rattle.std.proofs.lemmas.List.Elements.{All-head, All-tail, All-nil, All-cons}
use Rattle.std.proofs.lemmas.Map.Views.{All-map-IsPermutation}
use Rattle.std.specs.Prelude.{IsTrue, ◌↔◌}
use Rattle.plain_data.specs.Maps.{ByText, HasAll, inserted, IsWithin}

-- it has as many entries as there are rows
pub len-made_of : (bytes : List ℕ) (rows : List Row) → IsDistinct bytes_eq (keys_of (entries_of bytes rows)) → map.len (made_of bytes rows) ≡ length rows
len-made_of bytes rows distinct = plain.len-entries (entries_of bytes rows) distinct ∙ length-map rows _

-- under a text it has what the first row of it has
pub get-made_of : (bytes : List ℕ) (rows : List Row) (key : List ℕ) → map.get (made_of bytes rows) key ≡ lookup (bytes_eq key) (entries_of bytes rows)
get-made_of bytes rows key = plain.get-entries (entries_of bytes rows) key

-- the entry of the row at a position
entry-at : (bytes : List ℕ) (rows : List Row) (at : ℕ) → slice_index_or (entries_of bytes rows) at ([], 0) ≡ (text_at bytes rows at, (slice_index_or rows at no_row).number)
entry-at bytes [] at = refl
entry-at bytes (r ∷ rs) zero = refl
entry-at bytes (r ∷ rs) (suc at) = entry-at bytes rs at

text-entry : (bytes : List ℕ) (rows : List Row) (at : ℕ) → looked.text_at (entries_of bytes rows) at ≡ text_at bytes rows at
text-entry bytes rows at = ap (λ e. e.0) (entry-at bytes rows at)

-- what is said of rows is said of their entries
module _ (bytes : List ℕ) (rows : List Row) (key : List ℕ) where
  holds-entry : (at : ℕ) → Holds bytes rows key at → looked.Holds (entries_of bytes rows) key at
  holds-entry at holds = (subst (λ n. at < n) (sym (length-map rows _)) holds.0, text-entry bytes rows at ∙ holds.1)

  lacks-entry : Lacks bytes rows key → looked.Lacks (entries_of bytes rows) key
  lacks-entry lacks at from below same = lacks at from (subst (λ n. at < n) (length-map rows _) below) (sym (text-entry bytes rows at) ∙ same)

  -- a row that has a text says its number
  pub lookup-holds : (at : ℕ) → IsDistinct bytes_eq (keys_of (entries_of bytes rows)) → Holds bytes rows key at → lookup (bytes_eq key) (entries_of bytes rows) ≡ Some (slice_index_or rows at no_row).number
  lookup-holds at distinct holds =
      plain.lookup-holds (entries_of bytes rows) key at distinct (holds-entry at holds)
      ∙ ap (λ e. Some e.1) (entry-at bytes rows at)

  -- without such a row there is none
  pub lookup-lacks : Lacks bytes rows key → lookup (bytes_eq key) (entries_of bytes rows) ≡ None
  lookup-lacks lacks = plain.lookup-lacks (entries_of bytes rows) key (lacks-entry lacks)

pub bound-next : (runs : List ℕ) (k : ℕ) → bound runs (k + 1) ≡ slice_index_or runs k 0
bound-next runs k = let more : k + 1 ≡ suc k = omega arith in ap (bound runs) more

text_total : IsTotalOrder text_order
text_total = then_total (on_total digest_of nat_cmp_total) nat_list_cmp_total

-- a run is searched by halves
module _ (bytes : List ℕ) (rows : List Row) (from to : ℕ) (run : IsRun bytes rows from to) (key : List ℕ) where
  pub less-below : (i mid : ℕ) → from ≤ i → i ≤ mid → mid < to → text_order (text_at bytes rows mid) key ≡ Less → text_order (text_at bytes rows i) key ≡ Less
  less-below i mid low up high less = next (cases_lt i mid)
    where
      next : (i < mid) ⊎ (mid ≤ i) → text_order (text_at bytes rows i) key ≡ Less
      next (inl under) = text_total.trans (text_at bytes rows i) (text_at bytes rows mid) key (run i mid low under high) less
      next (inr over) = let same : i ≡ mid = omega arith in ap (λ k. text_order (text_at bytes rows k) key) same ∙ less

  pub greater-above : (i mid : ℕ) → from ≤ mid → mid ≤ i → i < to → text_order (text_at bytes rows mid) key ≡ Greater → text_order (text_at bytes rows i) key ≡ Greater
  greater-above i mid low up high greater = next (cases_lt mid i)
    where
      next : (mid < i) ⊎ (i ≤ mid) → text_order (text_at bytes rows i) key ≡ Greater
      next (inl under) =
          let less : text_order key (text_at bytes rows mid) ≡ Less = text_total.antisymm key (text_at bytes rows mid) ∙ ap ordering_reverse greater in
          let through = text_total.trans key (text_at bytes rows mid) (text_at bytes rows i) less (run mid i low under high) in
          text_total.antisymm (text_at bytes rows i) key ∙ ap ordering_reverse through
      next (inr over) = let same : i ≡ mid = omega arith in ap (λ k. text_order (text_at bytes rows k) key) same ∙ greater

pub same-text : (a b : List ℕ) → text_order a b ≡ Equal → a ≡ b
same-text a b tie = slice_cmp-IsAntisymmetric nat_cmp-IsAntisymmetric a b (second (nat_cmp (digest_of a) (digest_of b)) (slice_cmp nat_cmp a b) tie)
  where
    second : (r s : Ordering) → ordering_then r s ≡ Equal → s ≡ Equal
    second Less s tie = absurd (cc)
    second Equal s tie = tie
    second Greater s tie = absurd (cc)

pub not-less : (a b : List ℕ) → text_order a b ≡ Less → a ≢ b
not-less a b less same = let tie = tied_itself text_total b in let both = ap (λ k. text_order k b) same in absurd (cc)

pub not-greater : (a b : List ℕ) → text_order a b ≡ Greater → a ≢ b
not-greater a b greater same = let tie = tied_itself text_total b in let both = ap (λ k. text_order k b) same in absurd (cc)

-- a front of the runs, where the texts in it stay
bound-take : (runs : List ℕ) (kept k : ℕ) → k ≤ kept → bound (take kept runs) k ≡ bound runs k
bound-take runs kept zero up = refl
bound-take runs kept (suc k) up = get_or-take kept runs k 0 (omega arith)

runs-cut : (bytes : List ℕ) (rows : List Row) (new_bytes : List ℕ) (new_rows : List Row) (runs : List ℕ) (kept : ℕ) → AreRuns bytes rows runs → kept ≤ length runs
    → ((i : ℕ) → i < bound runs kept → text_at new_bytes new_rows i ≡ text_at bytes rows i) → length rows ≤ length new_rows
    → AreDigested new_bytes new_rows (bound runs kept) → AreRuns new_bytes new_rows (take kept runs)
runs-cut bytes rows new_bytes new_rows runs kept are within alike longer digested =
    let len : length (take kept runs) ≡ kept = length-take-le kept runs within in
    record {
      rising = λ j k up end. rw (bound-take runs kept j (omega arith), bound-take runs kept k (omega arith)) (are.rising j k up (omega arith));
      inside = rw (len, bound-take runs kept kept (omega arith)) (let low = are.rising kept (length runs) within (omega arith) in let high = are.inside in omega arith);
      each = λ k below. rw (bound-take runs kept k (omega arith), bound-take runs kept (k + 1) (omega arith)) (λ i j low rise high.
          let end = are.rising (k + 1) kept (omega arith) within in
          (λ x. text_order (alike i (omega arith) x) (alike j (omega arith) x)) ∙ are.each k (omega arith) i j low rise high);
      digested = rw (len, bound-take runs kept kept (omega arith)) digested;
    }

runs-agree : (bytes : List ℕ) (rows : List Row) (new_bytes : List ℕ) (new_rows : List Row) (runs : List ℕ) → AreRuns bytes rows runs
    → ((i : ℕ) → i < length rows → text_at new_bytes new_rows i ≡ text_at bytes rows i) → length rows ≤ length new_rows
    → ((i : ℕ) → i < length rows → IsDigested bytes (slice_index_or rows i no_row) → IsDigested new_bytes (slice_index_or new_rows i no_row)) → AreRuns new_bytes new_rows runs
runs-agree bytes rows new_bytes new_rows runs are alike longer kept =
    let end = are.inside in
    subst (AreRuns new_bytes new_rows) (take_all (length runs) runs (omega arith))
    (runs-cut bytes rows new_bytes new_rows runs (length runs) are (omega arith) (λ i below. alike i (omega arith)) longer
    (λ i below. kept i (omega arith) (are.digested i below)))

-- all rows behind the runs as one more
runs-add : (bytes : List ℕ) (rows : List Row) (runs : List ℕ) → AreRuns bytes rows runs → IsRun bytes rows (bound runs (length runs)) (length rows)
    → AreDigested bytes rows (length rows) → AreRuns bytes rows (runs ++ length rows ∷ [])
runs-add bytes rows runs are run digested =
    let len : length (runs ++ length rows ∷ []) ≡ length runs + 1 = length_push runs (length rows) in
    record {
      rising = λ j k up end. rise j k up (omega arith) (cases_lt j (length runs + 1)) (cases_lt k (length runs + 1));
      inside = rw (len, last) (omega arith);
      each = λ k below. next k (omega arith) (cases_lt k (length runs));
      digested = rw (len, last) digested;
    }
  where
    before : (k : ℕ) → k ≤ length runs → bound (runs ++ length rows ∷ []) k ≡ bound runs k
    before zero up = refl
    before (suc k) up = get_or_append_left runs (length rows ∷ []) 0 k (omega arith)

    last : bound (runs ++ length rows ∷ []) (length runs + 1) ≡ length rows
    last = bound-next (runs ++ length rows ∷ []) (length runs) ∙ get_or_push runs (length rows) 0 (length runs) refl

    ending : (k : ℕ) → k ≤ length runs + 1 → length runs + 1 ≤ k → bound (runs ++ length rows ∷ []) k ≡ length rows
    ending k end big = let at : k ≡ length runs + 1 = omega arith in ap (bound (runs ++ length rows ∷ [])) at ∙ last

    rise : (j k : ℕ) → j ≤ k → k ≤ length runs + 1 → (j < length runs + 1) ⊎ (length runs + 1 ≤ j) → (k < length runs + 1) ⊎ (length runs + 1 ≤ k) → bound (runs ++ length rows ∷ []) j ≤ bound (runs ++ length rows ∷ []) k
    rise j k up end (inl low) (inl small) = rw (before j (omega arith), before k (omega arith)) (are.rising j k up (omega arith))
    rise j k up end (inl low) (inr big) =
        rw (before j (omega arith), ending k end big)
        (let first = are.rising j (length runs) (omega arith) (omega arith) in let second = are.inside in omega arith)
    rise j k up end (inr high) either = rw (ending j (omega arith) high, ending k end (omega arith)) (omega arith)

    next : (k : ℕ) → k ≤ length runs → (k < length runs) ⊎ (length runs ≤ k) → IsRun bytes rows (bound (runs ++ length rows ∷ []) k) (bound (runs ++ length rows ∷ []) (k + 1))
    next k end (inl small) = rw (before k end, before (k + 1) (omega arith)) (are.each k small)
    next k end (inr big) = let at : k ≡ length runs = omega arith in rw (before k end, ending (k + 1) (omega arith) (omega arith)) (rw at run)

-- a map without rows
pub sound-empty : (bytes : List ℕ) (rows : List Row) (runs : List ℕ) → rows ≡ [] → runs ≡ [] → IsSound bytes rows runs
unfolding IsDistinct
sound-empty bytes rows runs none no-runs =
    subst (λ rs. IsSound bytes rs runs) (sym none) (subst (λ ends. IsSound bytes [] ends) (sym no-runs) (empty bytes))
  where
    empty : (bs : List ℕ) → IsSound bs [] []
    empty bs = record { within = λ at below. absurd (omega arith); distinct = tt; sorted = record { rising = λ j k up end. let a : j ≡ 0 = omega arith in let b : k ≡ 0 = omega arith in rw (a, b) (omega arith); inside = omega arith; each = λ k below. absurd (omega arith); digested = λ at below. absurd (omega arith) } }

-- a row with another number
abbrev pub numbered : Row → ℕ → Row
numbered row number = record row { number = number }

-- a row with another number is an entry with it
entries-set : (bytes : List ℕ) (rows : List Row) (number at : ℕ) → entries_of bytes (set rows at (numbered (slice_index_or rows at no_row) number)) ≡ set (entries_of bytes rows) at (looked.text_at (entries_of bytes rows) at, number)
entries-set bytes rows number at =
    map-set _ rows at (numbered (slice_index_or rows at no_row) number)
    ∙ ap (λ text. set (entries_of bytes rows) at (text, number)) (sym (text-entry bytes rows at))

pub made-set : (bytes : List ℕ) (rows : List Row) (key : List ℕ) (number at : ℕ) → IsDistinct bytes_eq (keys_of (entries_of bytes rows)) → Holds bytes rows key at
    → made_of bytes (set rows at (numbered (slice_index_or rows at no_row) number)) ≡ map.insert (made_of bytes rows) key number
made-set bytes rows key number at distinct holds =
    ap map.from_entries (entries-set bytes rows number at)
    ∙ plain.entries-set (entries_of bytes rows) key number at distinct (holds-entry bytes rows key at holds)

-- rows with the same places in the bytes
text-set : (bytes : List ℕ) (rows : List Row) (number at k : ℕ) → text_at bytes (set rows at (numbered (slice_index_or rows at no_row) number)) k ≡ text_at bytes rows k
text-set bytes [] number at k = refl
text-set bytes (r ∷ rs) number zero zero = refl
text-set bytes (r ∷ rs) number zero (suc k) = refl
text-set bytes (r ∷ rs) number (suc at) zero = refl
text-set bytes (r ∷ rs) number (suc at) (suc k) = text-set bytes rs number at k

row-set : (bytes : List ℕ) (rows : List Row) (number at k : ℕ) → IsRow bytes (slice_index_or rows k no_row) → IsRow bytes (slice_index_or (set rows at (numbered (slice_index_or rows at no_row) number)) k no_row)
row-set bytes [] number at k is = is
row-set bytes (r ∷ rs) number zero zero is = is
row-set bytes (r ∷ rs) number zero (suc k) is = is
row-set bytes (r ∷ rs) number (suc at) zero is = is
row-set bytes (r ∷ rs) number (suc at) (suc k) is = row-set bytes rs number at k is

digest-set : (bytes : List ℕ) (rows : List Row) (number at k : ℕ) → IsDigested bytes (slice_index_or rows k no_row) → IsDigested bytes (slice_index_or (set rows at (numbered (slice_index_or rows at no_row) number)) k no_row)
digest-set bytes [] number at k is = is
digest-set bytes (r ∷ rs) number zero zero is = is
digest-set bytes (r ∷ rs) number zero (suc k) is = is
digest-set bytes (r ∷ rs) number (suc at) zero is = is
digest-set bytes (r ∷ rs) number (suc at) (suc k) is = digest-set bytes rs number at k is

pub sound-set : (bytes : List ℕ) (rows : List Row) (runs : List ℕ) (key : List ℕ) (number at : ℕ) → IsSound bytes rows runs → Holds bytes rows key at
    → IsSound bytes (set rows at (numbered (slice_index_or rows at no_row) number)) runs
sound-set bytes rows runs key number at sound holds = record {
  within = λ k below. row-set bytes rows number at k (sound.within k (subst (λ n. k < n) (length-set rows at _) below));
  distinct = subst (λ es. IsDistinct bytes_eq (keys_of es)) (sym (entries-set bytes rows number at)) (plain.distinct-set (entries_of bytes rows) key number at sound.distinct (holds-entry bytes rows key at holds));
  sorted = runs-agree bytes rows bytes _ runs sound.sorted (λ i below. text-set bytes rows number at i) (rw (length-set rows at (numbered (slice_index_or rows at no_row) number)) (omega arith)) (λ i below. digest-set bytes rows number at i);
}

-- a text of its own behind the others
module _ (bytes key : List ℕ) (number : ℕ) where
  abbrev pub last_row : Row
  last_row = record { start = length bytes; end = length bytes + length key; number = number; hash = 0 }

  text-more : (row : Row) → IsRow bytes row → text_of (bytes ++ key) row ≡ text_of bytes row
  text-more row is =
      ap (take (row.end - row.start)) (drop-append-le row.start bytes key (omega arith))
      ∙ take-append-le (row.end - row.start) (drop row.start bytes) key (rw (length-drop row.start bytes) (omega arith))

  text-last : text_of (bytes ++ key) last_row ≡ key
  text-last = ap (take (length bytes + length key - length bytes)) (drop_at bytes key (length bytes) refl) ∙ take_all _ key (omega arith)

  entries-more : (rows : List Row) → AreWithin bytes rows → entries_of (bytes ++ key) rows ≡ entries_of bytes rows
  entries-more [] within = refl
  entries-more (r ∷ rs) within = λ i. (text-more r (within 0 (omega arith)) i, r.number) ∷ entries-more rs (λ at below. within (suc at) (omega arith)) i

  pub entries-push : (rows : List Row) → AreWithin bytes rows → entries_of (bytes ++ key) (rows ++ last_row ∷ []) ≡ entries_of bytes rows ++ (key, number) ∷ []
  entries-push rows within =
      map-append _ rows (last_row ∷ [])
      ∙ (λ i. entries-more rows within i ++ (text-last i, number) ∷ [])

  pub made-push : (rows : List Row) → AreWithin bytes rows → Lacks bytes rows key → made_of (bytes ++ key) (rows ++ last_row ∷ []) ≡ map.insert (made_of bytes rows) key number
  made-push rows within lacks =
      ap map.from_entries (entries-push rows within) ∙ plain.entries-push (entries_of bytes rows) key number (lacks-entry bytes rows key lacks)

  pub row-push : (rows : List Row) (at : ℕ) → AreWithin bytes rows → at < length (rows ++ last_row ∷ []) → IsRow (bytes ++ key) (slice_index_or (rows ++ last_row ∷ []) at no_row)
  row-push [] zero within below = (omega arith, rw (length-append bytes key) (omega arith))
  row-push [] (suc at) within below = absurd (omega arith)
  row-push (r ∷ rs) zero within below = ((within 0 (omega arith)).0, rw (length-append bytes key) (let end = (within 0 (omega arith)).1 in omega arith))
  row-push (r ∷ rs) (suc at) within below = row-push rs at (λ i small. within (suc i) (omega arith)) (omega arith)

  text-push : (rows : List Row) (at : ℕ) → AreWithin bytes rows → at < length rows → text_at (bytes ++ key) (rows ++ last_row ∷ []) at ≡ text_at bytes rows at
  text-push [] at within below = absurd (omega arith)
  text-push (r ∷ rs) zero within below = text-more r (within 0 (omega arith))
  text-push (r ∷ rs) (suc at) within below = text-push rs at (λ i small. within (suc i) (omega arith)) (omega arith)

  digest-push : (rows : List Row) (at : ℕ) → AreWithin bytes rows → at < length rows → IsDigested bytes (slice_index_or rows at no_row) → IsDigested (bytes ++ key) (slice_index_or (rows ++ last_row ∷ []) at no_row)
  digest-push [] at within below is = absurd (omega arith)
  digest-push (r ∷ rs) zero within below is = is ∙ ap digest_of (sym (text-more r (within 0 (omega arith))))
  digest-push (r ∷ rs) (suc at) within below is = digest-push rs at (λ i small. within (suc i) (omega arith)) (omega arith) is

  pub sound-push : (rows : List Row) (runs : List ℕ) → IsSound bytes rows runs → Lacks bytes rows key → IsSound (bytes ++ key) (rows ++ last_row ∷ []) runs
  sound-push rows runs sound lacks = record {
    within = λ at below. row-push rows at sound.within below;
    distinct = subst (λ es. IsDistinct bytes_eq (keys_of es)) (sym (entries-push rows sound.within)) (plain.distinct-push (entries_of bytes rows) key number (lacks-entry bytes rows key lacks) sound.distinct);
    sorted = runs-agree bytes rows (bytes ++ key) (rows ++ last_row ∷ []) runs sound.sorted (λ i below. text-push rows i sound.within below) (rw (length-append rows (last_row ∷ [])) (omega arith)) (λ i below. digest-push rows i sound.within below);
  }

-- two facts of a call that went well, or of one that did not
pub on_ok : {T E A B P : Type 0} (r : Result T E) → OnOk r A → OnOk r B → (A → B → P) → OnOk r P
on_ok (Ok x) a b f = f a b
on_ok (Err e) a b f = tt

pub either_way : {T E A B C D P : Type 0} (r : Result T E) → OnOk r A → OnOk r B → OnErr r C → OnErr r D → (A → B → P) → (C → D → P) → P
either_way (Ok x) a b c d f g = f a b
either_way (Err e) a b c d f g = g c d

-- whether a finite map has the entries of rows
module _ (bytes : List ℕ) (rows : List Row) (m : ByText ℕ) where
  covers-all : (rs : List Row) → Covers bytes rs (length rs) m → HasAll (entries_of bytes rs) m
  covers-all [] covers = All-nil (IsIn m)
  covers-all (r ∷ rs) covers = All-cons (IsIn m) _ (entries_of bytes rs) (covers 0 (omega arith)) (covers-all rs (λ at below. covers (suc at) (omega arith)))

  all-covers : (rs : List Row) → HasAll (entries_of bytes rs) m → Covers bytes rs (length rs) m
  all-covers [] all at below = absurd (omega arith)
  all-covers (r ∷ rs) all zero below = All-head (IsIn m) _ (entries_of bytes rs) all
  all-covers (r ∷ rs) all (suc at) below = all-covers rs (All-tail (IsIn m) _ (entries_of bytes rs) all) at (omega arith)

  pub told-by-rows : (r : Bool) → IsDistinct bytes_eq (keys_of (entries_of bytes rows)) → IsTrue r ↔ Covers bytes rows (length rows) m → IsTrue r ↔ IsWithin (made_of bytes rows) m
  told-by-rows r distinct covers =
      plain.told-by-all (entries_of bytes rows) m r distinct (λ yes. covers-all rows (covers.0 yes), λ all. covers.1 (all-covers rows all))

-- rows in another order
module _ (bytes : List ℕ) (rows new_rows : List Row) (moved : IsPermutation rows new_rows) where
  moved-rows : (at : ℕ) → at < length new_rows → (j : ℕ) × ((j < length rows) × (slice_index_or new_rows at no_row ≡ slice_index_or rows j no_row))
  moved-rows at below =
      let there = get_or_moved rows moved.moves at no_row moved.below (subst (λ rs. at < length rs) moved.is below) in
      (there.1.0, (there.1.1, ap (λ rs. slice_index_or rs at no_row) moved.is ∙ there.1.2))

  pub within-moved : AreWithin bytes rows → AreWithin bytes new_rows
  within-moved within at below =
      let there = moved-rows at below in
      subst (IsRow bytes) (sym there.1.1) (within there.0 there.1.0)

  pub digested-moved : AreDigested bytes rows (length rows) → AreDigested bytes new_rows (length new_rows)
  digested-moved digested at below =
      let there = moved-rows at below in
      subst (IsDigested bytes) (sym there.1.1) (digested there.0 there.1.0)

  distinct-moved : IsDistinct bytes_eq (keys_of (entries_of bytes rows)) → IsDistinct bytes_eq (keys_of (entries_of bytes new_rows))
  distinct-moved = IsDistinct-IsPermutation bytes_eq nat_list_eq_equiv.symm _ _
      (IsPermutation-map _ _ _ (IsPermutation-map _ _ _ moved))

  within-made : IsDistinct bytes_eq (keys_of (entries_of bytes rows)) → IsWithin (made_of bytes new_rows) (made_of bytes rows)
  within-made distinct =
      plain.within-entries (entries_of bytes new_rows) (made_of bytes rows)
      (All-map-IsPermutation (λ row. (text_of bytes row, row.number)) (IsIn (made_of bytes rows)) rows new_rows moved
      (plain.all-entries (entries_of bytes rows) (made_of bytes rows) distinct (λ key number is. is)))

module _ (bytes : List ℕ) (rows new_rows : List Row) (moved : IsPermutation rows new_rows) where
  pub made-moved : IsDistinct bytes_eq (keys_of (entries_of bytes rows)) → made_of bytes new_rows ≡ made_of bytes rows
  made-moved distinct =
      let also = distinct-moved bytes rows new_rows moved distinct in
      within-same (slice_cmp nat_cmp) nat_list_cmp_total (slice_cmp-IsAntisymmetric nat_cmp-IsAntisymmetric) (made_of bytes new_rows) (made_of bytes rows)
      (within-made bytes rows new_rows moved distinct) (within-made bytes new_rows rows (IsPermutation-sym rows new_rows moved) also)

  -- behind some runs, which stay as they are
  pub sound-moved : (runs : List ℕ) (kept : ℕ) → kept ≤ length runs → IsSound bytes rows runs → AreDigested bytes rows (length rows)
      → take (bound runs kept) new_rows ≡ take (bound runs kept) rows → IsSound bytes new_rows (take kept runs)
  sound-moved runs kept within sound digested alike =
      let low = sound.sorted.rising kept (length runs) within (omega arith) in
      let high = sound.sorted.inside in
      let long = length_permutation rows new_rows moved in
      record {
        within = within-moved bytes rows new_rows moved sound.within;
        distinct = distinct-moved bytes rows new_rows moved sound.distinct;
        sorted = runs-cut bytes rows bytes new_rows runs kept sound.sorted within
            (λ i below. ap (text_of bytes)
            (sym (get_or-take (bound runs kept) new_rows i no_row below) ∙ ap (λ rs. slice_index_or rs i no_row) alike ∙ get_or-take (bound runs kept) rows i no_row below))
            (rw (length_permutation rows new_rows moved) (omega arith))
            (λ i below. digested-moved bytes rows new_rows moved digested i (omega arith));
      }

-- one more run of all rows behind the others
pub sound-add : (bytes : List ℕ) (rows : List Row) (runs : List ℕ) → IsSound bytes rows runs → IsRun bytes rows (bound runs (length runs)) (length rows)
    → AreDigested bytes rows (length rows) → IsSound bytes rows (runs ++ length rows ∷ [])
sound-add bytes rows runs sound run digested = record {
  within = sound.within;
  distinct = sound.distinct;
  sorted = runs-add bytes rows runs sound.sorted run digested;
}

-- a row with another digest
abbrev pub hashed : Row → ℕ → Row
hashed row hash = record row { hash = hash }

-- digests that are entered one after another
module _ (bytes : List ℕ) (rows : List Row) (at : ℕ) where
  abbrev pub with_digest : List Row
  with_digest = set rows at (hashed (slice_index_or rows at no_row) (digest_of (text_at bytes rows at)))

  pub entries-digest : entries_of bytes with_digest ≡ entries_of bytes rows
  entries-digest = map-set_same (λ row. (text_of bytes row, row.number)) rows at _ no_row refl

  pub within-digest : AreWithin bytes rows → AreWithin bytes with_digest
  within-digest within k below = next (cases_eq k at)
    where
      small : k < length rows
      small = subst (λ n. k < n) (length-set rows at _) below

      next : (k ≡ at) ⊎ (k ≢ at) → IsRow bytes (slice_index_or with_digest k no_row)
      next (inl same) = subst (IsRow bytes) (sym (ap (λ n. slice_index_or with_digest n no_row) same ∙ get_or-set_same rows at _ no_row (subst (λ n. n < length rows) same small))) (within at (subst (λ n. n < length rows) same small))
      next (inr other) = subst (IsRow bytes) (sym (get_or-set_other rows at k _ no_row other)) (within k small)

  pub digested-more : at < length rows → AreDigested bytes rows at → AreDigested bytes with_digest (at + 1)
  digested-more there digested k below = next (cases_lt k at)
    where
      next : (k < at) ⊎ (at ≤ k) → IsDigested bytes (slice_index_or with_digest k no_row)
      next (inl low) = subst (IsDigested bytes) (sym (get_or-set_other rows at k _ no_row (λ same. let e : k ≡ at = same in omega arith))) (digested k low)
      next (inr high) = let same : k ≡ at = omega arith in subst (IsDigested bytes) (sym (ap (λ n. slice_index_or with_digest n no_row) same ∙ get_or-set_same rows at _ no_row there)) refl

-- rows whose digests alone are new
module _ (bytes : List ℕ) (rows new_rows : List Row) (same : entries_of bytes new_rows ≡ entries_of bytes rows) where
  pub as-many : length new_rows ≡ length rows
  as-many = sym (length-map new_rows _) ∙ ap length same ∙ length-map rows _

  same-texts : (i : ℕ) → i < length rows → text_at bytes new_rows i ≡ text_at bytes rows i
  same-texts i below =
      sym (text-entry bytes new_rows i) ∙ ap (λ es. looked.text_at es i) same ∙ text-entry bytes rows i

  pub sound-digested : (runs : List ℕ) → AreWithin bytes new_rows → AreDigested bytes new_rows (length new_rows) → IsSound bytes rows runs → IsSound bytes new_rows runs
  sound-digested runs within digested sound = record {
    within = within;
    distinct = subst (λ es. IsDistinct bytes_eq (keys_of es)) (sym same) sound.distinct;
    sorted = runs-agree bytes rows bytes new_rows runs sound.sorted same-texts (rw as-many (omega arith)) (λ i below was. digested i (subst (λ n. i < n) (sym as-many) below));
  }

-- a run with one row more
pub run-more : (bytes : List ℕ) (rows : List Row) (from at : ℕ) → 0 < at → IsRun bytes rows from at → text_order (text_at bytes rows (at - 1)) (text_at bytes rows at) ≡ Less → IsRun bytes rows from (at + 1)
run-more bytes rows from at some run less i j low rise high = next (cases_lt j at)
  where
    step : (k : ℕ) → from ≤ k → k < at → (k < at - 1) ⊎ (at - 1 ≤ k) → text_order (text_at bytes rows k) (text_at bytes rows at) ≡ Less
    step k from-k under (inl far) = text_total.trans (text_at bytes rows k) (text_at bytes rows (at - 1)) (text_at bytes rows at) (run k (at - 1) from-k far (omega arith)) less
    step k from-k under (inr near) = let same : k ≡ at - 1 = omega arith in ap (λ n. text_order (text_at bytes rows n) (text_at bytes rows at)) same ∙ less

    next : (j < at) ⊎ (at ≤ j) → text_order (text_at bytes rows i) (text_at bytes rows j) ≡ Less
    next (inl under) = run i j low rise under
    next (inr over) = let same : j ≡ at = omega arith in ap (λ n. text_order (text_at bytes rows i) (text_at bytes rows n)) same ∙ step i low (omega arith) (cases_lt i (at - 1))

-- rows whose end was put in another order, as a list that was lent has them
pub put-back : (xs ys post rest : List Row) (from n : ℕ) → n ≡ length xs → from ≤ length xs → IsPermutation (drop from xs) ys → IsPermutation xs (take n (take from xs ++ (ys ++ post) ++ rest))
put-back xs ys post rest from n is within moved =
    let len : length (take from xs ++ ys) ≡ n =
    length-append (take from xs) ys ∙ rw (length-take-le from xs within, length_permutation (drop from xs) ys moved, length-drop from xs, is) (omega arith) in
    let whole : take n (take from xs ++ (ys ++ post) ++ rest) ≡ take from xs ++ ys =
    ap (take n) (ap (λ l. l ++ rest) (sym (append_assoc (take from xs) ys post)) ∙ append_assoc (take from xs ++ ys) post rest)
    ∙ take_at (take from xs ++ ys) (post ++ rest) n len in
    subst (IsPermutation xs) (sym whole)
    (subst (λ l. IsPermutation l (take from xs ++ ys)) (take-append-drop from xs) (IsPermutation-append_right (take from xs) (drop from xs) ys moved))

distinct-run : (bytes : List ℕ) (rows : List Row) → IsRun bytes rows 0 (length rows) → IsDistinct bytes_eq (keys_of (entries_of bytes rows))
distinct-run bytes rows run =
    plain.distinct-apart (entries_of bytes rows) (λ i j rise below same.
    not-less _ _ (run i j (omega arith) rise (subst (λ n. j < n) (length-map rows _) below))
    (sym (text-entry bytes rows i) ∙ same ∙ text-entry bytes rows j))

-- rows behind no run
sound-few : (bytes : List ℕ) (rows : List Row) (runs : List ℕ) → AreWithin bytes rows → IsDistinct bytes_eq (keys_of (entries_of bytes rows)) → runs ≡ [] → IsSound bytes rows runs
sound-few bytes rows runs within distinct none = record { within = within; distinct = distinct; sorted = subst (AreRuns bytes rows) (sym none) (no-runs bytes rows) }
  where
    no-runs : (bs : List ℕ) (rs : List Row) → AreRuns bs rs []
    no-runs bs rs = record { rising = λ j k up end. let a : j ≡ 0 = omega arith in let b : k ≡ 0 = omega arith in rw (a, b) (omega arith); inside = omega arith; each = λ k below. absurd (omega arith); digested = λ at below. absurd (omega arith) }

pub sound-run : (bytes : List ℕ) (rows : List Row) (runs : List ℕ) → AreWithin bytes rows → IsRun bytes rows 0 (length rows) → AreDigested bytes rows (length rows) → runs ≡ length rows ∷ [] → IsSound bytes rows runs
sound-run bytes rows runs within run digested one =
    let few : IsSound bytes rows [] = sound-few bytes rows [] within (distinct-run bytes rows run) refl in
    record { within = within; distinct = few.distinct; sorted = subst (AreRuns bytes rows) (sym one) (runs-add bytes rows [] few.sorted run digested) }

pub made-sorted : (bytes : List ℕ) (rows sorted : List Row) → IsPermutation rows sorted → IsRun bytes sorted 0 (length sorted) → made_of bytes sorted ≡ inserted (entries_of bytes rows)
made-sorted bytes rows sorted moved run =
    let distinct : IsDistinct bytes_eq (keys_of (entries_of bytes rows)) =
    IsDistinct-IsPermutation bytes_eq nat_list_eq_equiv.symm _ _ (IsPermutation-map _ _ _ (IsPermutation-map _ _ _ (IsPermutation-sym _ _ moved))) (distinct-run bytes sorted run) in
    made-moved bytes rows sorted moved distinct ∙ plain.entries-inserted (entries_of bytes rows) distinct
