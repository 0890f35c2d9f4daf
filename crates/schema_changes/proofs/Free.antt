-- A number whose entry is removed is reserved, and stays without one.
use Rattle.std.proofs.Common.{◌≡◌, ◌≢◌, ℕ, zero, suc, ℤ, pos, Bool, true, false, not, cond, ◌&&◌, ◌||◌, ◌==◌, List, [], ◌∷◌, ◌++◌, Option, Some, None, option_map, option_and_then, slice_get, is_some, flat_map, inl, inr, refl, ap, sym, subst, subst₂, ◌∙◌, arith}
use Rattle.std.proofs.lemmas.Bool.{and_parts, eqb-true, or_cases, or_left, or_right, false≢true}
use Rattle.std.proofs.lemmas.Int.{ints}
use Rattle.std.specs.Prelude.{int_le, int_lt}
use Rattle.std.specs.List.{AllByRecursion, Contains, enumerate_from, list_all, list_any}
use Rattle.std.specs.Option.{option_map_or}
use Rattle.pool_types.specs.Contents.{Contents}
use Rattle.pool_types.specs.declared.contents.field.FieldDescriptorInner.{FieldDescriptorInner}
use Rattle.pool_types.specs.declared.contents.message.MessageDescriptorInner.{MessageDescriptorInner}
use Rattle.proto_types.specs.Readers.{number_of}
use Rattle.proto_types.specs.declared.message.ReservedRange.{ReservedRange}
use Rattle.field_rules.specs.Maps.{item_number}
use Rattle.field_rules.specs.Ranges.{reserves}
use Rattle.message_values.specs.Kept.{Pairs}
use Rattle.schema_changes.specs.declared.change.WireChange.{WireChange}
use Rattle.schema_changes.specs.declared.change.WireChangeKind.{WireChangeKind}
use Rattle.schema_changes.specs.declared.change.WireChangeKind.TheVariants as change
use Rattle.schema_changes.specs.declared.entries.Entry.{Entry}
use Rattle.schema_changes.specs.Parts.{Parts, parts_of, one_name}
use Rattle.schema_changes.specs.Pairs.{are_matched, keeps_entry, keeps_number, keeps_part, keeps_parts, leaves_reserved}
use Rattle.schema_changes.specs.Records.{covers, is_kept_free, keeps_range, reserved_of}
use Rattle.schema_changes.specs.Entries.{entry_at, entry_numbered, extension_in, field_entry}
use Rattle.schema_changes.specs.Changes.{Compared, added_changes, added_extension_changes, entry_changes, extension_changes, is_taken, kept_changes, message_changes, new_entry, oneof_changes, range_changes, required_changes, taken_changes, unless}
use Rattle.schema_changes.specs.Unchanged.{LookUp, LooksUp}
use Rattle.schema_changes.specs.Pools.{NamesMean, wire_changes}
use Rattle.schema_changes.specs.Chains.{AllLookUp, NoneChanges, goes_on, last_of}
use Rattle.schema_changes.proofs.Keeping.{ByName, ByParts, OfExtension, OfField, Paired, Source, both-named, by-source, each-none, left-none, match-cases, no-extension, no-old-extension, number-kept, part-kept, ranges-kept, right-none, source}
use Rattle.schema_changes.proofs.Named.{nothing-changes}

-- ---- tests of lists

pub some-of : {A : Type 0} (p : A → Bool) (xs : List A) → list_any p xs ≡ true → (x : A) × (p x ≡ true)
some-of p [] h = absurd (false≢true h)
some-of p (x ∷ xs) h = elim (or_cases (p x) (list_any p xs) h) [ inl here ↦ (x, here) | inr more ↦ some-of p xs more ]

-- one that passes a test is one of those that all pass another
some-among : {A : Type 0} (p q : A → Bool) (xs : List A) → list_any p xs ≡ true → list_all q xs ≡ true → (x : A) × (p x ≡ true) × (q x ≡ true)
some-among p q [] h all = absurd (false≢true h)
some-among p q (x ∷ xs) h all =
    let both = and_parts (q x) (list_all q xs) all in
    elim (or_cases (p x) (list_any p xs) h) [ inl here ↦ (x, here, both.0) | inr more ↦ some-among p q xs more both.1 ]

wider-any : {A : Type 0} (p q : A → Bool) → ((x : A) → p x ≡ true → q x ≡ true) → (xs : List A) → list_any p xs ≡ true → list_any q xs ≡ true
wider-any p q wider [] h = absurd (false≢true h)
wider-any p q wider (x ∷ xs) h =
    elim (or_cases (p x) (list_any p xs) h) [ inl here ↦ or_left (q x) (list_any q xs) (wider x here) | inr more ↦ or_right (q x) (list_any q xs) (wider-any p q wider xs more) ]

all-passed : {A : Type 0} (p : A → Bool) (f : A → List WireChange) → ((x : A) → f x ≡ [] → p x ≡ true) → (xs : List A) → flat_map f xs ≡ [] → list_all p xs ≡ true
all-passed p f passes [] h = refl
all-passed p f passes (x ∷ xs) h = both (p x) (list_all p xs) (passes x (left-none (f x) (flat_map f xs) h)) (all-passed p f passes xs (right-none (f x) (flat_map f xs) h))
  where
    both : (a b : Bool) → a ≡ true → b ≡ true → (a && b) ≡ true
    both true b x y = y
    both false b x y = absurd (false≢true x)

-- a change that is not there has passed its test
quiet : (ok : Bool) (n : ℕ) (k : WireChangeKind) → unless ok n k ≡ [] → ok ≡ true
quiet true n k h = refl
quiet false n k h = absurd cc

held : (n s e t f : ℤ) → (int_le s n && int_lt n e) ≡ true → (int_le t s && int_le e f) ≡ true → (int_le t n && int_lt n f) ≡ true
held n s e t f in-first within = grind (arith, ints)

covered : (n : ℤ) (r s : ReservedRange) → reserves n r ≡ true → covers r s ≡ true → reserves n s ≡ true
covered n r s in-first within = held n (number_of r.start) (number_of r.«end») (number_of s.start) (number_of s.«end») in-first within

-- ---- two messages

-- what a new message keeps of the numbers of an old one: where an entry is gone, its number is reserved, and one that is reserved and has no entry stays so
pub record KeepsFree (old : Parts) (x : MessageDescriptorInner) (new : Parts) (y : MessageDescriptorInner) : Type 0 where
  pub gone : (i : ℕ) (f : Entry) → entry_numbered old x i ≡ Some f → entry_numbered new y i ≡ None → is_kept_free new y i ≡ true
  pub stays : (i : ℕ) → is_kept_free old x i ≡ true → entry_numbered old x i ≡ None → (is_kept_free new y i ≡ true) × (entry_numbered new y i ≡ None)

module _ (old : Parts) (x : MessageDescriptorInner) (new : Parts) (y : MessageDescriptorInner) where
  -- ranges that are kept reserve what they did
  still-reserved : list_all (keeps_range new y) (reserved_of old x) ≡ true → (i : ℕ) → is_kept_free old x i ≡ true → is_kept_free new y i ≡ true
  still-reserved kept i free =
      let r = some-among (reserves (pos i)) (keeps_range new y) (reserved_of old x) free kept in
      wider-any (covers r.0) (reserves (pos i)) (λ s within. covered (pos i) r.0 s r.1 within) (reserved_of new y) r.2

  -- a new entry takes no number that was reserved, and had no entry
  not-taken : (i : ℕ) (g : Entry) → g.number ≡ i → is_kept_free old x i ≡ true → entry_numbered old x i ≡ None → leaves_reserved old x g ≡ true → ⊥
  not-taken i g number free none leaves =
      let had : is_some (entry_numbered old x g.number) ≡ false = ap (λ n. is_some (entry_numbered old x n)) number ∙ ap is_some none in
      let reserved : not (is_kept_free old x g.number) ≡ false = ap (λ n. not (is_kept_free old x n)) number ∙ ap not free in
      elim (or_cases (not (is_kept_free old x g.number)) (is_some (entry_numbered old x g.number)) leaves) [
        | inl one ↦ absurd (false≢true (sym reserved ∙ one))
        | inr other ↦ absurd (false≢true (sym had ∙ other))
      ]

  -- so it has no entry
  stays-so : list_all (keeps_range new y) (reserved_of old x) ≡ true → ((i : ℕ) (g : Entry) → entry_numbered new y i ≡ Some g → (leaves_reserved old x g ≡ true) × (g.number ≡ i))
      → (i : ℕ) → is_kept_free old x i ≡ true → entry_numbered old x i ≡ None → (is_kept_free new y i ≡ true) × (entry_numbered new y i ≡ None)
  stays-so kept leaves i free none = (still-reserved kept i free, by (entry_numbered new y i) refl)
    where
      by : (got : Option Entry) → entry_numbered new y i ≡ got → entry_numbered new y i ≡ None
      by None is = is
      by (Some g) is = absurd (not-taken i g (leaves i g is).1 free none (leaves i g is).0)

  -- ---- of which nothing changes

  module _ (looks-old : LooksUp old x) (looks-new : LooksUp new y) (none : message_changes (record { old = old; before = x; new = new; after = y }) ≡ []) where
    abbrev c : Compared
    c = record { old = old; before = x; new = new; after = y }

    abbrev of-fields : List WireChange
    of-fields = flat_map (λ f. entry_changes c (field_entry f)) x.fields

    abbrev of-extensions : List WireChange
    of-extensions = flat_map (λ i. extension_changes c (extension_in old x i)) x.extensions

    abbrev of-oneofs : List WireChange
    of-oneofs = flat_map (oneof_changes c) y.oneofs

    abbrev of-added : List WireChange
    of-added = flat_map (λ g. added_changes c (field_entry g)) y.fields

    abbrev of-added-extensions : List WireChange
    of-added-extensions = flat_map (λ i. added_extension_changes c (extension_in new y i)) y.extensions

    abbrev of-ranges : List WireChange
    of-ranges = flat_map (range_changes c) (reserved_of old x)

    behind-fields : of-extensions ++ (of-oneofs ++ (of-added ++ (of-added-extensions ++ of-ranges))) ≡ []
    behind-fields = right-none of-fields (of-extensions ++ (of-oneofs ++ (of-added ++ (of-added-extensions ++ of-ranges)))) none

    behind-oneofs : of-added ++ (of-added-extensions ++ of-ranges) ≡ []
    behind-oneofs = right-none of-oneofs (of-added ++ (of-added-extensions ++ of-ranges)) (right-none of-extensions (of-oneofs ++ (of-added ++ (of-added-extensions ++ of-ranges))) behind-fields)

    behind-added : of-added-extensions ++ of-ranges ≡ []
    behind-added = right-none of-added (of-added-extensions ++ of-ranges) behind-oneofs

    entry-none : (i : ℕ) (f : Entry) → entry_numbered old x i ≡ Some f → (entry_changes c f ≡ []) × (f.number ≡ i)
    entry-none i f e =
        let s = source old x looks-old i f e in (
          by-source (λ g. entry_changes c g ≡ []) (λ o. extension_changes c o ≡ []) old x f
              (each-none (λ g. entry_changes c (field_entry g)) x.fields (left-none of-fields (of-extensions ++ (of-oneofs ++ (of-added ++ (of-added-extensions ++ of-ranges)))) none))
              (each-none (λ j. extension_changes c (extension_in old x j)) x.extensions (left-none of-extensions (of-oneofs ++ (of-added ++ (of-added-extensions ++ of-ranges))) behind-fields)) (λ g q. q) s.0,
          s.1,
        )

    added-none : (i : ℕ) (g : Entry) → entry_numbered new y i ≡ Some g → (added_changes c g ≡ []) × (g.number ≡ i)
    added-none i g e =
        let s = source new y looks-new i g e in (
          by-source (λ f. added_changes c f ≡ []) (λ o. added_extension_changes c o ≡ []) new y g
              (each-none (λ f. added_changes c (field_entry f)) y.fields (left-none of-added (of-added-extensions ++ of-ranges) behind-oneofs))
              (each-none (λ j. added_extension_changes c (extension_in new y j)) y.extensions (left-none of-added-extensions of-ranges behind-added)) (λ f q. q) s.0,
          s.1,
        )

    gone-free : (i : ℕ) (f : Entry) → entry_numbered old x i ≡ Some f → entry_numbered new y i ≡ None → is_kept_free new y i ≡ true
    gone-free i f e lacks =
        let h = entry-none i f e in
        let left : kept_changes c f None ≡ [] = sym (ap (kept_changes c f) (ap (entry_numbered new y) h.1 ∙ lacks)) ∙ h.0 in
        subst (λ n. is_kept_free new y n ≡ true) h.1 (quiet (is_kept_free new y f.number) f.number change.FreeNumber left)

    leaves : (i : ℕ) (g : Entry) → entry_numbered new y i ≡ Some g → (leaves_reserved old x g ≡ true) × (g.number ≡ i)
    leaves i g e =
        let h = added-none i g e in
        (quiet (leaves_reserved old x g) g.number change.Unreserved (right-none (required_changes c g) (taken_changes c g) h.0), h.1)

    -- so no new entry takes a number that was reserved
    none-taken : (n : ℕ) (got : Option Entry) → entry_numbered new y n ≡ got → option_map_or (λ g. not (leaves_reserved old x g)) got false ≡ true → ⊥
    none-taken n None is taken = absurd (false≢true taken)
    none-taken n (Some g) is taken = absurd (false≢true (sym (ap not (leaves n g is).0) ∙ taken))

    range-kept : (r : ReservedRange) → range_changes c r ≡ [] → keeps_range new y r ≡ true
    range-kept r h =
        let n = item_number (number_of r.start) in
        elim (or_cases (keeps_range new y r) (is_taken c n) (quiet (keeps_range new y r || is_taken c n) n change.Unreserved h)) [
          | inl kept ↦ kept
          | inr taken ↦ absurd (none-taken n (entry_numbered new y n) refl taken)
        ]

    ranges-none : list_all (keeps_range new y) (reserved_of old x) ≡ true
    ranges-none = all-passed (keeps_range new y) (range_changes c) range-kept (reserved_of old x) (right-none of-added-extensions of-ranges behind-added)

    pub unchanged-free : KeepsFree old x new y
    unchanged-free = record { gone = gone-free; stays = stays-so ranges-none leaves }

  -- ---- of which the new one keeps the parts of the old one

  module _ (P : Pairs) (looks-old : LooksUp old x) (looks-new : LooksUp new y) (keeps : keeps_parts P old x new y ≡ true) where
    gone-kept : (i : ℕ) (f : Entry) → entry_numbered old x i ≡ Some f → entry_numbered new y i ≡ None → is_kept_free new y i ≡ true
    gone-kept i f e lacks = by (source old x looks-old i f e).0 (source old x looks-old i f e).1
      where
        by : Source old x f → f.number ≡ i → is_kept_free new y i ≡ true
        by (OfField j z at same) number =
            let here : z.number ≡ i = ap (λ (g : Entry). g.number) same ∙ number in
            let kept : (is_some (entry_numbered new y i) || is_kept_free new y i) ≡ true = subst (λ n. (is_some (entry_numbered new y n) || is_kept_free new y n) ≡ true) here (number-kept P old x new y keeps j z at) in
            let lacking : is_some (entry_numbered new y i) ≡ false = ap is_some lacks in
            sym (ap (λ b. b || is_kept_free new y i) lacking) ∙ kept
        by (OfExtension j has at nothing) number = absurd (no-old-extension P old x new y keeps j has)

    leaves-kept : (i : ℕ) (g : Entry) → entry_numbered new y i ≡ Some g → (leaves_reserved old x g ≡ true) × (g.number ≡ i)
    leaves-kept i g e = (by (source new y looks-new i g e).0, (source new y looks-new i g e).1)
      where
        by : Source new y g → leaves_reserved old x g ≡ true
        by (OfField j z at same) =
            let part = subst (λ f. keeps_part P old x new f ≡ true) same (part-kept P old x new y keeps j z at) in
            (and_parts (keeps_entry P old (entry_numbered old x g.number) new g) (leaves_reserved old x g) part).1
        by (OfExtension j has at nothing) = absurd (no-extension P old x new y keeps j has)

    pub kept-free : KeepsFree old x new y
    kept-free = record { gone = gone-kept; stays = stays-so (ranges-kept P old x new y keeps) leaves-kept }

-- ---- pools that follow one another

-- two messages that are matched, where nothing changes
record Follows (p : Contents) (m : ℕ) (q : Contents) (k : ℕ) : Type 0 where
  before : MessageDescriptorInner
  after : MessageDescriptorInner
  at-before : slice_get p.messages m ≡ Some before
  at-after : slice_get q.messages k ≡ Some after
  free : KeepsFree (parts_of p) before (parts_of q) after

follows : (p q : Contents) → LookUp (parts_of p) → LookUp (parts_of q) → NamesMean q → wire_changes p q ≡ [] → (m k : ℕ) → are_matched (parts_of p) m (parts_of q) k ≡ true → Follows p m q k
follows p q look-p look-q mean none m k pair = by (match-cases (parts_of p) (parts_of q) m k pair)
  where
    by : Paired (parts_of p) (parts_of q) m k → Follows p m q k
    by (ByName named) =
        let b = both-named (parts_of p) (parts_of q) m k named in
        record {
          before = b.0;
          after = b.1;
          at-before = b.2;
          at-after = b.3;
          free = unchanged-free (parts_of p) b.0 (parts_of q) b.1 (look-p m b.0 b.2) (look-q k b.1 b.3) (nothing-changes p q mean none m k b.0 b.1 named b.2 b.3);
        }
    by (ByParts P x y paired at-x at-y keeps) = record {
      before = x;
      after = y;
      at-before = at-x;
      at-after = at-y;
      free = kept-free (parts_of p) x (parts_of q) y P (look-p m x at-x) (look-q k y at-y) keeps;
    }

-- the entry with a number of a message that is there
entry-there : (p : Contents) (m i : ℕ) (x : MessageDescriptorInner) → slice_get p.messages m ≡ Some x → entry_at (parts_of p) m i ≡ entry_numbered (parts_of p) x i
unfolding entry_at
entry-there p m i x at = ap (option_and_then (λ (z : MessageDescriptorInner). entry_numbered (parts_of p) z i)) at

one-message : (p : Contents) (m : ℕ) (x y : MessageDescriptorInner) → slice_get p.messages m ≡ Some x → slice_get p.messages m ≡ Some y → x ≡ y
one-message p m x y at-x at-y = let same : Some x ≡ Some y = sym at-x ∙ at-y in cc

first-looks : (q : Contents) (qs : List Contents) → AllLookUp q qs → LookUp (parts_of q) × NamesMean q
first-looks q [] h = h
first-looks q (r ∷ rs) h = h.0

-- a number that a message reserves, and for which it has no entry, has none in the last pool
free-on : (q : Contents) (qs : List Contents) → AllLookUp q qs → NoneChanges q qs → (k n i : ℕ) (y : MessageDescriptorInner) → goes_on q qs k n ≡ true → slice_get q.messages k ≡ Some y
    → is_kept_free (parts_of q) y i ≡ true → entry_numbered (parts_of q) y i ≡ None → entry_at (parts_of (last_of q qs)) n i ≡ None
unfolding goes_on
free-on q [] look none k n i y on at free lacks = subst (λ j. entry_at (parts_of q) j i ≡ None) (eqb-true k n on) (entry-there q k i y at ∙ lacks)
free-on q (r ∷ rs) look none k n i y on at free lacks =
    let e = some-of (λ e. are_matched (parts_of q) k (parts_of r) e.0 && goes_on r rs e.0 n) (enumerate_from 0 r.messages) on in
    let both = and_parts (are_matched (parts_of q) k (parts_of r) (e.0).0) (goes_on r rs (e.0).0 n) e.1 in
    let next = first-looks r rs look.1 in
    let f = follows q r (look.0).0 next.0 next.1 none.0 k (e.0).0 both.0 in
    let same : y ≡ f.before = one-message q k y f.before at f.at-before in
    let on-free = f.free.stays i (subst (λ (z : MessageDescriptorInner). is_kept_free (parts_of q) z i ≡ true) same free) (subst (λ (z : MessageDescriptorInner). entry_numbered (parts_of q) z i ≡ None) same lacks) in
    free-on r rs look.1 none.1 (e.0).0 n i f.after both.1 f.at-after on-free.0 on-free.1

-- a number whose entry a message loses in the second pool has no entry in the last one
pub stays-free : (p q : Contents) (qs : List Contents) → AllLookUp p (q ∷ qs) → NoneChanges p (q ∷ qs) → (m k n i : ℕ) (f : Entry) → are_matched (parts_of p) m (parts_of q) k ≡ true
    → goes_on q qs k n ≡ true → entry_at (parts_of p) m i ≡ Some f → entry_at (parts_of q) k i ≡ None → entry_at (parts_of (last_of q qs)) n i ≡ None
stays-free p q qs look none m k n i f pair on had gone =
    let next = first-looks q qs look.1 in
    let w = follows p q (look.0).0 next.0 next.1 none.0 m k pair in
    let had-there : entry_numbered (parts_of p) w.before i ≡ Some f = sym (entry-there p m i w.before w.at-before) ∙ had in
    let lacks : entry_numbered (parts_of q) w.after i ≡ None = sym (entry-there q k i w.after w.at-after) ∙ gone in
    free-on q qs look.1 none.1 k n i w.after on w.at-after (w.free.gone i f had-there lacks) lacks
