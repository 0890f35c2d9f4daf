-- The first line of a script, and the first word of a line.
use Rattle.std.proofs.Common.{◌≡◌, ℕ, zero, suc, ◌+◌, ◌<◌, ◌≤◌, inl, inr, Bool, true, false, not, cond, List, [], ◌∷◌, length, get_or, take, drop, eqb, ltb, Option, Some, None, Bor, MatchOption, refl, ap, sym, ◌∙◌, subst, arith}
use Rattle.std.specs.Option.{unwrap_or}
use Rattle.std.specs.List.{slice_split, onto_first, position, position_or_len, prefix_len, before_first, after_first, filter}
use Rattle.std.proofs.lemmas.List.Splits.{slice_split_first, slice_split-cons_yes, length-slice_split}
use Rattle.std.proofs.lemmas.List.Quantifiers.{position-Some}
use Rattle.std.proofs.lemmas.Bool.{false≢true}
use Rattle.std.proofs.lemmas.Bool.Decides.{leb_tells, eqb_tells}
use Rattle.link_script.specs.Script.Words.{is_empty, without_empty_last, lines, words}
use Rattle.link_script.specs.Script.Arguments.{behind_spaces}

-- where nothing parts a list, it is the one part
pub one-part : (p : ℕ → Bool) (xs : List ℕ) → position_or_len p xs ≡ length xs → slice_split p xs ≡ xs ∷ []
one-part p [] h = refl
one-part p (x ∷ xs) h = (elim (p x) as (λ b. cond (not b) (1 + prefix_len (λ y. not (p y)) xs) 0 ≡ suc (length xs) → cond b ([] ∷ slice_split p xs) (onto_first x (slice_split p xs)) ≡ (x ∷ xs) ∷ [])
    [ true ↦ λ e. absurd (omega arith) | false ↦ λ e. ap (onto_first x) (one-part p xs (omega arith)) ]) h

abbrev pub is_feed : ℕ → Bool
is_feed c = eqb c 10

cons-more : (x : List ℕ) (parts : List (List ℕ)) → 0 < length parts → without_empty_last (x ∷ parts) ≡ x ∷ without_empty_last parts
cons-more x [] h = absurd (omega (arith, h))
cons-more [] (y ∷ more) h = refl
cons-more (c ∷ cs) (y ∷ more) h = refl

found : (b : Bool) (n i : ℕ) → cond b (Some n) None ≡ Some i → (b ≡ true) × (n ≡ i)
found true n i h = (refl, cc)
found false n i h = absurd (cc)

-- what is passed first
pub at-position : (p : ℕ → Bool) (xs : List ℕ) (i : ℕ) → position p xs ≡ Some i → (i < length xs) × (position_or_len p xs ≡ i)
at-position p xs i h = ((position-Some p xs i 0 h).0, (found (ltb (position_or_len p xs) (length xs)) (position_or_len p xs) i h).1)

-- where a byte stands first, there is that byte
pub byte-there : (wanted : ℕ) (bs : List ℕ) (place : ℕ) → position (λ c. eqb c wanted) bs ≡ Some place → (place < length bs) × (get_or bs place 0 ≡ wanted)
byte-there wanted bs place h =
    let at = position-Some (λ c. eqb c wanted) bs place 0 h in
    (at.0, elim (eqb_tells (get_or bs place 0) wanted) [ inl k ↦ k.1 | inr k ↦ absurd (false≢true (sym k.0 ∙ at.1)) ])

lost : (b : Bool) (n : ℕ) → cond b (Some n) None ≡ None → b ≡ false
lost true n h = absurd (cc)
lost false n h = refl

within : (p : ℕ → Bool) (xs : List ℕ) → position_or_len p xs ≤ length xs
within p [] = omega arith
within p (x ∷ xs) = (elim (p x) as (λ b. cond (not b) (1 + prefix_len (λ y. not (p y)) xs) 0 ≤ suc (length xs)) [ true ↦ omega arith | false ↦ omega (arith, within p xs) ])

pub no-position : (p : ℕ → Bool) (xs : List ℕ) → position p xs ≡ None → position_or_len p xs ≡ length xs
no-position p xs h = elim (leb_tells (suc (position_or_len p xs)) (length xs)) [
  | inl k ↦ absurd (false≢true (sym (lost _ _ h) ∙ k.0))
  | inr k ↦ omega (arith, k.1, within p xs)
]

-- a line that ends at a line feed
pub line-ended : (bs : List ℕ) (end : ℕ) → position is_feed bs ≡ Some end → lines bs ≡ take end bs ∷ lines (drop (end + 1) bs)
line-ended bs end h =
    let at = at-position is_feed bs end h in
    let before : position_or_len is_feed bs < length bs = omega (arith, at.0, at.1) in
    let rest = after_first is_feed bs in
    ap without_empty_last (slice_split_first is_feed bs 0 before)
    ∙ cons-more (before_first is_feed bs) (slice_split is_feed rest) (omega (arith, length-slice_split is_feed rest))
    ∙ ap (λ n. take n bs ∷ lines (drop (n + 1) bs)) at.1

one-line : (bs : List ℕ) → 0 < length bs → without_empty_last (bs ∷ []) ≡ bs ∷ []
one-line [] h = absurd (omega (arith, h))
one-line (c ∷ cs) h = refl

-- a last line, behind which no line feed stands
pub line-last : (bs : List ℕ) → 0 < length bs → position is_feed bs ≡ None → lines bs ≡ bs ∷ lines []
line-last bs some h = ap without_empty_last (one-part is_feed bs (no-position is_feed bs h)) ∙ one-line bs some

abbrev is_space : ℕ → Bool
is_space c = eqb c 32

abbrev given : List ℕ → Bool
given w = not (is_empty w)

-- leading spaces part no words
pub words-behind : (line : List ℕ) → words (behind_spaces line) ≡ words line
words-behind [] = refl
words-behind (c ∷ cs) = (elim (is_space c) as (λ b. is_space c ≡ b → words (cond b (behind_spaces cs) (c ∷ cs)) ≡ words (c ∷ cs))
    [ true ↦ λ e. words-behind cs ∙ sym (ap (filter given) (slice_split-cons_yes is_space c cs e)) | false ↦ λ e. refl ]) refl

abbrev begins : (line : List ℕ) → Type 0
begins [] = Unit {0}
begins (c ∷ cs) = is_space c ≡ false

begins-behind : (line : List ℕ) → begins (behind_spaces line)
begins-behind [] = tt
begins-behind (c ∷ cs) = (elim (is_space c) as (λ b. is_space c ≡ b → begins (cond b (behind_spaces cs) (c ∷ cs)))
    [ true ↦ λ e. begins-behind cs | false ↦ λ e. e ]) refl

pub no-length : (n : ℕ) (b : Bool) → b ≡ eqb n 0 → b ≡ true → n ≡ 0
no-length n b e t = elim (eqb_tells n 0) [ inl h ↦ h.1 | inr h ↦ absurd (false≢true (sym h.0 ∙ sym e ∙ t)) ]

pub some-length : (n : ℕ) (b : Bool) → b ≡ eqb n 0 → b ≡ false → 0 < n
some-length n b e f = elim (eqb_tells n 0) [ inl h ↦ absurd (false≢true (sym f ∙ e ∙ h.0)) | inr h ↦ omega (arith, h.1) ]

-- a text without a character has no word
pub no-word : (rest text : List ℕ) → text ≡ behind_spaces rest → length text ≡ 0 → words rest ≡ []
no-word rest [] is none = sym (words-behind rest) ∙ ap words (sym is)
no-word rest (c ∷ cs) is none = absurd (omega (arith, none))

kept : (w : List ℕ) (parts : List (List ℕ)) → given w ≡ true → filter given (w ∷ parts) ≡ w ∷ filter given parts
kept w parts h = ap (λ b. cond b (w ∷ filter given parts) (filter given parts)) h

given-front : (n c : ℕ) (cs : List ℕ) → 0 < n → given (take n (c ∷ cs)) ≡ true
given-front zero c cs h = absurd (omega (arith, h))
given-front (suc n) c cs h = refl

given-first : (text : List ℕ) → begins text → 0 < length text → given (before_first is_space text) ≡ true
given-first [] b h = absurd (omega (arith, h))
given-first (c ∷ cs) b h =
    let far = prefix_len (λ d. not (is_space d)) cs in
    ap (λ t. given (take (cond (not t) (1 + far) 0) (c ∷ cs))) b ∙ given-front (1 + far) c cs (omega arith)

given-all : (text : List ℕ) → 0 < length text → given text ≡ true
given-all [] h = absurd (omega (arith, h))
given-all (c ∷ cs) h = refl

-- the first word, behind which a space stands
word-ended : (rest text : List ℕ) → text ≡ behind_spaces rest → position_or_len is_space text < length text
    → words rest ≡ before_first is_space text ∷ words (after_first is_space text)
word-ended rest text is h =
    sym (words-behind rest) ∙ ap words (sym is)
    ∙ ap (filter given) (slice_split_first is_space text 0 h)
    ∙ kept (before_first is_space text) (slice_split is_space (after_first is_space text)) (given-first text (subst begins (sym is) (begins-behind rest)) (omega (arith, h)))

-- the last word, behind which no space stands
word-last : (rest text : List ℕ) → text ≡ behind_spaces rest → 0 < length text → position_or_len is_space text ≡ length text → words rest ≡ text ∷ words []
word-last rest text is some h =
    sym (words-behind rest) ∙ ap words (sym is) ∙ ap (filter given) (one-part is_space text h) ∙ kept text [] (given-all text some)

-- what a search for a space gives
abbrev pub Parted : List ℕ → Bor (List ℕ) × Bor (List ℕ) → Type 0
Parted text x = (x.0.now ≡ before_first is_space text) × (x.1.now ≡ after_first is_space text) × (position_or_len is_space text < length text)

-- the next word, and what is left behind it
pub next-word : (rest text : List ℕ) (whole empty : Bor (List ℕ)) (split : Option (Bor (List ℕ) × Bor (List ℕ))) (r : Bor (List ℕ) × Bor (List ℕ))
    → text ≡ behind_spaces rest → 0 < length text → whole.now ≡ text → empty.now ≡ []
    → MatchOption split (position_or_len is_space text ≡ length text) (Parted text) → r ≡ unwrap_or split (whole, empty) → words rest ≡ r.0.now ∷ words r.1.now
next-word rest text whole empty (Some x) r is some w e h same =
    word-ended rest text is h.2 ∙ (λ i. sym h.0 i ∷ words (sym h.1 i)) ∙ ap (λ y. y.0.now ∷ words y.1.now) (sym same)
next-word rest text whole empty None r is some w e h same =
    word-last rest text is some h ∙ (λ i. sym w i ∷ words (sym e i)) ∙ ap (λ y. y.0.now ∷ words y.1.now) (sym same)

-- what a cut at a character gives
abbrev pub IsCut : ℕ → List ℕ → Option (Bor (List ℕ) × Bor (List ℕ)) → Type 0
IsCut character text cut =
    MatchOption cut (position_or_len (λ c. eqb c character) text ≡ length text)
    (λ x. (x.0.now ≡ before_first (λ c. eqb c character) text) × (x.1.now ≡ after_first (λ c. eqb c character) text) × (position_or_len (λ c. eqb c character) text < length text))

pub not-cut : (character : ℕ) (text : List ℕ) (cut : Option (Bor (List ℕ) × Bor (List ℕ))) → cut ≡ None → position (λ c. eqb c character) text ≡ None → IsCut character text cut
not-cut character text cut none h = subst (IsCut character text) (sym none) (no-position (λ c. eqb c character) text h)
