-- Files that come to be seen, list after list.
use Rattle.std.proofs.Common.{◌≡◌, ◌+◌, ◌<◌, ◌≤◌, ◌==◌, ℕ, Bool, true, false, ◌||◌, List, [], ◌∷◌, ◌++◌, if◌then◌else◌, Option, Some, refl, ap, sym, ◌∙◌, inl, inr, subst, length, take, get_or, eqb, arith, append_assoc}
use Rattle.std.specs.Cmp.{nat_eq_equiv}
use Rattle.std.specs.List.{IsDistinct}
use Rattle.std.specs.Option.{IfSome, option_map_or}
use Rattle.std.proofs.lemmas.Bool.{cases_Bool, eqb-true, eq-eqb}
use Rattle.std.proofs.lemmas.List.{take_more, append-nil}
use Rattle.std.proofs.lemmas.List.Folds.{list_any-append}
use Rattle.std.proofs.lemmas.List.Sums.{fold-append}
use Rattle.std.proofs.lemmas.Map.Keys.{IsDistinct-push}
use Rattle.name_resolution.specs.declared.seen.Seen.{Seen}
use Rattle.name_resolution.specs.LastSeen.{last_seen, was_seen}
use Rattle.name_resolution.specs.Seen.{SeenByNow, SeesEach, with_each}
use Rattle.name_resolution.proofs.LastSeen.{not-yet, no-later}
use Rattle.name_resolution.proofs.Members.{has}

pub or-false : (a : Bool) → a ≡ (a || false)
or-false true = refl
or-false false = refl

or_assoc : (a x y : Bool) → ((a || x) || y) ≡ (a || (x || y))
or_assoc true x y = refl
or_assoc false x y = refl

-- a list with a file, unless it has it
abbrev with_one : List ℕ → ℕ → List ℕ
with_one xs b = if has xs b then xs else xs ++ b ∷ []

-- a file that a list has, once more
had : (xs : List ℕ) (c b : ℕ) (same : Bool) → has xs c ≡ true → eqb b c ≡ same → has xs b ≡ (has xs b || same)
had xs c b false there is = or-false (has xs b)
had xs c b true there is = let here : has xs b ≡ true = ap (has xs) (eqb-true b c is) ∙ there in here ∙ sym (ap (λ d. d || true) here)

-- what it has then
has-with_one : (xs : List ℕ) (c b : ℕ) → has (with_one xs c) b ≡ (has xs b || eqb b c)
has-with_one xs c b = elim (cases_Bool (has xs c)) [
  | inl there ↦ ap (λ d. has (if d then xs else xs ++ c ∷ []) b) there ∙ had xs c b (eqb b c) there refl
  | inr missing ↦
      ap (λ d. has (if d then xs else xs ++ c ∷ []) b) missing
      ∙ list_any-append (eqb b) xs (c ∷ [])
      ∙ ap (λ d. has xs b || d) (sym (or-false (eqb b c)))
]

-- none stands in it twice
distinct-with_one : (xs : List ℕ) (c : ℕ) → IsDistinct eqb xs → IsDistinct eqb (with_one xs c)
distinct-with_one xs c once = elim (cases_Bool (has xs c)) [
  | inl there ↦ subst (λ d. IsDistinct eqb (if d then xs else xs ++ c ∷ [])) (sym there) once
  | inr missing ↦ subst (λ d. IsDistinct eqb (if d then xs else xs ++ c ∷ [])) (sym missing) (IsDistinct-push nat_eq_equiv xs c once missing)
]

-- it begins with the list
behind-one : (xs : List ℕ) (c : ℕ) → (more : List ℕ) × (with_one xs c ≡ xs ++ more)
behind-one xs c = elim (cases_Bool (has xs c)) [
  | inl there ↦ ([], ap (λ d. if d then xs else xs ++ c ∷ []) there ∙ sym (append-nil xs))
  | inr missing ↦ (c ∷ [], ap (λ d. if d then xs else xs ++ c ∷ []) missing)
]

-- the same of each file of another list
pub has-with_each : (xs files : List ℕ) (b : ℕ) → has (with_each xs files) b ≡ (has xs b || has files b)
has-with_each xs [] b = or-false (has xs b)
has-with_each xs (c ∷ files) b =
    has-with_each (with_one xs c) files b
    ∙ ap (λ d. d || has files b) (has-with_one xs c b)
    ∙ or_assoc (has xs b) (eqb b c) (has files b)

pub distinct-with_each : (xs files : List ℕ) → IsDistinct eqb xs → IsDistinct eqb (with_each xs files)
distinct-with_each xs [] once = once
distinct-with_each xs (c ∷ files) once = distinct-with_each (with_one xs c) files (distinct-with_one xs c once)

pub behind-each : (xs files : List ℕ) → (more : List ℕ) × (with_each xs files ≡ xs ++ more)
behind-each xs [] = ([], sym (append-nil xs))
behind-each xs (c ∷ files) =
    let (one, first) = behind-one xs c in
    let (more, rest) = behind-each (with_one xs c) files in
    (one ++ more, rest ∙ ap (λ ys. ys ++ more) first ∙ append_assoc xs one more)

-- none is seen
pub SeesEach-none : (s : Seen) → SeesEach [] s s
SeesEach-none s = record { by = refl; files = λ now. refl; seen = λ now. now }

-- one list after another
pub SeesEach-append : (xs ys : List ℕ) (s t u : Seen) → SeesEach xs s t → SeesEach ys t u → SeesEach (xs ++ ys) s u
SeesEach-append xs ys s t u first second = record {
  by = second.by ∙ first.by;
  files = λ now.
      second.files (first.seen now)
      ∙ ap (λ zs. with_each zs ys) (first.files now)
      ∙ sym (fold-append with_one s.files.items xs ys);
  seen = λ now. second.seen (first.seen now);
}

-- one file more of a list
pub SeesEach-more : (xs : List ℕ) (i x : ℕ) (s t u : Seen) → i < length xs → x ≡ get_or xs i x → SeesEach (take i xs) s t → SeesEach (x ∷ []) t u → SeesEach (take (i + 1) xs) s u
SeesEach-more xs i x s t u below is before now =
    subst (λ ys. SeesEach ys s u) (sym (take_more xs i x below ∙ ap (λ y. take i xs ++ y ∷ []) (sym is))) (SeesEach-append (take i xs) (x ∷ []) s t u before now)

-- a file that was seen
pub SeesEach-old : (s : Seen) (b : ℕ) → was_seen s.last s.by b ≡ true → SeesEach (b ∷ []) s s
SeesEach-old s b was = record {
  by = refl;
  files = λ now. sym (ap (λ d. if d then s.files.items else s.files.items ++ b ∷ []) (sym (now.files b) ∙ was));
  seen = λ now. now;
}

-- one that was not
module _ (s t : Seen) (b : ℕ) (was : was_seen s.last s.by b ≡ false) (by : t.by ≡ s.by)
    (last : (o : ℕ) → last_seen t.last o ≡ (if o == b then Some s.by else last_seen s.last o)) (files : t.files.items ≡ s.files.items ++ b ∷ []) where
  abbrev seen_by : Option ℕ → Bool
  seen_by o = option_map_or (λ last. last == s.by) o false

  files-now : SeenByNow s → (o : ℕ) → was_seen t.last t.by o ≡ has t.files.items o
  files-now now o =
      (λ i. option_map_or (λ last. last == by i) (last o i) false)
      ∙ elim (eqb o b) as (λ d. seen_by (if d then Some s.by else last_seen s.last o) ≡ (has s.files.items o || (d || false))) [
        | true ↦ eq-eqb s.by s.by refl ∙ sym (or-true (has s.files.items o))
        | false ↦ now.files o ∙ or-false (has s.files.items o)
      ]
      ∙ sym (ap (λ xs. has xs o) files ∙ list_any-append (eqb o) s.files.items (b ∷ []))
    where
      or-true : (c : Bool) → (c || true) ≡ true
      or-true true = refl
      or-true false = refl

  latest-now : SeenByNow s → (o : ℕ) → IfSome (last_seen t.last o) (λ last. last ≤ t.by)
  latest-now now o =
      subst (λ n. IfSome (last_seen t.last o) (λ last. last ≤ n)) (sym by)
      (subst (λ l. IfSome l (λ last. last ≤ s.by)) (sym (last o))
      (elim (eqb o b) as (λ d. IfSome (if d then Some s.by else last_seen s.last o) (λ last. last ≤ s.by)) [ true ↦ omega arith | false ↦ now.latest o ]))

  pub SeesEach-new : SeesEach (b ∷ []) s t
  SeesEach-new = record {
    by = by;
    files = λ now. files ∙ sym (ap (λ d. if d then s.files.items else s.files.items ++ b ∷ []) (sym (now.files b) ∙ was));
    seen = λ now. record { files = files-now now; latest = latest-now now };
  }

-- what is kept of who saw a file last, for a file behind
pub begun : (t : Seen) → t.files.items ≡ [] → ((b : ℕ) → IfSome (last_seen t.last b) (λ last. last < t.by)) → SeenByNow t
begun t none before = record {
  files = λ b. not-yet (last_seen t.last b) t.by (before b) ∙ sym (ap (λ xs. has xs b) none);
  latest = λ b. no-later (last_seen t.last b) t.by (before b);
}
