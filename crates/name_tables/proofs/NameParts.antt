-- A name is its parts with a dot between each two, and its parts have no dots.
use Rattle.std.proofs.Common.{◌≡◌, ◌≢◌, ◌<◌, ◌≤◌, arith, ltb, ◌⊎◌, inl, inr, ℕ, zero, suc, take, drop, le_refl, Bool, true, false, cond, eqb, None, Some, List, [], ◌∷◌, ◌++◌, length, get_or, append_assoc, refl, ap, sym, subst, ◌∙◌}
use Rattle.std.specs.List.{All, onto_first, position, position_or_len}
use Rattle.std.proofs.lemmas.List.Quantifiers.{position-Some}
use Rattle.std.proofs.lemmas.List.Sums.{fails_before_first}
use Rattle.std.proofs.lemmas.List.Elements.{All-nil, All-cons, All-head, All-tail}
use Rattle.std.proofs.lemmas.List.Splits.{length-slice_split, slice_split_at, slice_split_none, slice_split-cons_yes, slice_split-cons_no, join_with_byte-slice_split}
use Rattle.std.proofs.lemmas.Option.{none-some}
use Rattle.std.specs.Str.{NoCharPasses}
use Rattle.std.specs.Str.Pattern.{RFindsChar, SplitsAroundMatch}
use Rattle.std.proofs.lemmas.List.{take-append-drop}
use Rattle.std.proofs.lemmas.Str.Pattern.{NoCharPasses-char, drop_at_char}
use Rattle.std.proofs.lemmas.Bool.{cases_lt, eqb-true, lt-ltb}
use Rattle.std.proofs.lemmas.Bool.Decides.{nat_tests}
use Rattle.name_tables.specs.Parts.{parts, name_of}

-- a byte is a dot
abbrev pub is_dot : ℕ → Bool
is_dot byte = eqb byte 46

-- any other byte is no dot
no_dot : (c : ℕ) → c ≢ 46 → is_dot c ≡ false
no_dot c other = grind (arith, nat_tests)

-- the parts make the name
pub name_of-parts : (name : List ℕ) → name_of (parts name) ≡ name
name_of-parts name = join_with_byte-slice_split 46 name

-- a name has a part
pub parts-some : (name : List ℕ) → parts name ≢ []
parts-some name none = absurd (omega (arith, length-slice_split is_dot name, ap length none))

-- a text in which no dot was found
pub undotted : (text : List ℕ) → ((i : ℕ) → i < length text → get_or text i 0 ≢ 46) → All (λ c. is_dot c ≡ false) text
undotted [] none = All-nil (λ c. is_dot c ≡ false)
undotted (c ∷ cs) none =
    All-cons (λ c. is_dot c ≡ false) c cs (no_dot c (none 0 (omega arith))) (undotted cs (λ i below. none (suc i) (omega arith)))

-- what stands before a place, where nothing is a dot
before-all : (name : List ℕ) (at : ℕ) → at ≤ length name → ((k : ℕ) → k < at → is_dot (get_or name k 0) ≡ false) → All (λ c. is_dot c ≡ false) (take at name)
before-all name zero within none = All-nil (λ c. is_dot c ≡ false)
before-all [] (suc at) within none = absurd (omega arith)
before-all (c ∷ cs) (suc at) within none = All-cons (λ c. is_dot c ≡ false) c (take at cs) (none 0 (omega arith)) (before-all cs at (omega arith) (λ k below. none (suc k) (omega arith)))

-- a name is what stands before a place, what stands there, and what stands behind it
cut-at : (name : List ℕ) (at : ℕ) → at < length name → name ≡ take at name ++ get_or name at 0 ∷ drop (suc at) name
cut-at [] at within = absurd (omega arith)
cut-at (c ∷ cs) zero within = refl
cut-at (c ∷ cs) (suc at) within = ap (λ bytes. c ∷ bytes) (cut-at cs at (omega arith))

-- a byte below 128 stands where the first dot does
pub dot-there : (name : List ℕ) (at : ℕ) → position is_dot name ≡ Some at → (at < length name) × (get_or name at 0 < 128)
dot-there name at is =
    let found = position-Some is_dot name at 0 is in
    let dot : get_or name at 0 ≡ 46 = eqb-true (get_or name at 0) 46 found.1 in
    (found.0, omega (arith, dot))

-- the first part and those behind the first dot
pub parts-first : (name : List ℕ) (at : ℕ) → position is_dot name ≡ Some at → parts name ≡ take at name ∷ parts (drop (suc at) name)
parts-first name at is =
    let found = position-Some is_dot name at 0 is in
    ap parts (cut-at name at found.0)
    ∙ slice_split_at is_dot (take at name) (get_or name at 0) (drop (suc at) name) (before-all name at (omega (arith, found.0)) found.2) found.1

take-whole : (xs : List ℕ) → take (length xs) xs ≡ xs
take-whole [] = refl
take-whole (x ∷ xs) = ap (λ ys. x ∷ ys) (take-whole xs)

nowhere : (at len : ℕ) → cond (ltb at len) (Some at) None ≡ None → len ≤ at
nowhere at len none = next (cases_lt at len)
  where
    next : (at < len) ⊎ (len ≤ at) → len ≤ at
    next (inl less) = let some : cond (ltb at len) (Some at) None ≡ Some at = ap (λ b. cond b (Some at) None) (lt-ltb at len less) in absurd (none-some at (sym none ∙ some))
    next (inr beyond) = beyond

-- a name without a dot is one part
pub parts-one : (name : List ℕ) → position is_dot name ≡ None → parts name ≡ name ∷ []
parts-one name none =
    let far : length name ≤ position_or_len is_dot name = nowhere (position_or_len is_dot name) (length name) none in
    let plain = before-all name (length name) (le_refl (length name)) (λ k below. fails_before_first is_dot name k 0 (omega (arith, far, below))) in
    slice_split_none is_dot name (subst (All (λ c. is_dot c ≡ false)) (take-whole name) plain)

-- an element before the first of the parts
onto_first-append : (c : ℕ) (ps qs : List (List ℕ)) → ps ≢ [] → onto_first c (ps ++ qs) ≡ onto_first c ps ++ qs
onto_first-append c [] qs some = absurd (some refl)
onto_first-append c (p ∷ ps) qs some = refl

-- the parts before a dot, and those behind it
pub parts-dot : (front back : List ℕ) → parts (front ++ 46 ∷ back) ≡ parts front ++ parts back
parts-dot [] back = refl
parts-dot (c ∷ cs) back =
    (λ i. cond (is_dot c) ([] ∷ parts-dot cs back i) (onto_first c (parts-dot cs back i)))
    ∙ (elim (is_dot c) as (λ b. cond b ([] ∷ (parts cs ++ parts back)) (onto_first c (parts cs ++ parts back)) ≡ cond b ([] ∷ parts cs) (onto_first c (parts cs)) ++ parts back)
    [ true ↦ refl | false ↦ onto_first-append c (parts cs) (parts back) (parts-some cs) ])

-- a text is one part
abbrev pub IsPart : List ℕ → Type 0
IsPart part = parts part ≡ part ∷ []

-- the parts of the name that parts make are these
pub parts-name_of : (ps : List (List ℕ)) → ps ≢ [] → All IsPart ps → parts (name_of ps) ≡ ps
parts-name_of [] some whole = absurd (some refl)
parts-name_of (p ∷ []) some whole = All-head IsPart p [] whole
parts-name_of (p ∷ q ∷ ps) some whole =
    parts-dot p (name_of (q ∷ ps))
    ∙ (λ i. All-head IsPart p (q ∷ ps) whole i ++ parts-name_of (q ∷ ps) (λ none. cc) (All-tail IsPart p (q ∷ ps) whole) i)

-- the name of parts with one more behind them
pub name_of-last : (ps : List (List ℕ)) (last : List ℕ) → ps ≢ [] → name_of (ps ++ last ∷ []) ≡ name_of ps ++ 46 ∷ last
name_of-last [] last some = absurd (some refl)
name_of-last (p ∷ []) last some = refl
name_of-last (p ∷ q ∷ ps) last some =
    ap (λ rest. p ++ 46 ∷ rest) (name_of-last (q ∷ ps) last (λ none. cc)) ∙ sym (append_assoc p (46 ∷ name_of (q ∷ ps)) (46 ∷ last))

-- a first part stays one part behind a byte that is no dot
All-onto_first : (c : ℕ) (ps : List (List ℕ)) → is_dot c ≡ false → ps ≢ [] → All IsPart ps → All IsPart (onto_first c ps)
All-onto_first c [] other some whole = absurd (some refl)
All-onto_first c (p ∷ ps) other some whole =
    All-cons IsPart (c ∷ p) ps (slice_split-cons_no is_dot c p other ∙ ap (onto_first c) (All-head IsPart p ps whole)) (All-tail IsPart p ps whole)

-- the parts of a name with one more byte
whole-next : (c : ℕ) (cs : List ℕ) (b : Bool) → is_dot c ≡ b → All IsPart (parts cs) → All IsPart (parts (c ∷ cs))
whole-next c cs true dot whole = subst (All IsPart) (sym (slice_split-cons_yes is_dot c cs dot)) (All-cons IsPart [] (parts cs) refl whole)
whole-next c cs false other whole = subst (All IsPart) (sym (slice_split-cons_no is_dot c cs other)) (All-onto_first c (parts cs) other (parts-some cs) whole)

-- each of a name's parts is one part
pub parts-whole : (name : List ℕ) → All IsPart (parts name)
parts-whole [] = All-cons IsPart [] [] refl (All-nil IsPart)
parts-whole (c ∷ cs) = whole-next c cs (is_dot c) refl (parts-whole cs)

-- a text in which no dot was found is one part
pub part-undotted : (text : List ℕ) → NoCharPasses (λ c. eqb c 46) text → IsPart text
part-undotted text none = slice_split_none is_dot text (undotted text (λ i below. NoCharPasses-char 46 text i none (omega arith) below))

-- what stands around a text that was split at its last dot
pub around-split : (text front back : List ℕ) → SplitsAroundMatch (RFindsChar 46) text front back → (text ≡ front ++ 46 ∷ back) × IsPart back
around-split text front back (i, j, (none, found), is_front, is_back, _, _, _) = (
  sym (take-append-drop i text) ∙ (λ k. sym is_front k ++ (drop_at_char 46 text i j found (omega arith) ∙ ap (λ bs. 46 ∷ bs) (sym is_back)) k),
  part-undotted back (subst (NoCharPasses (λ c. eqb c 46)) (sym is_back) none),
)

-- each of the parts of a name is one part
pub part-between : (name : List ℕ) (front : List (List ℕ)) (part : List ℕ) (back : List (List ℕ)) → front ++ part ∷ back ≡ parts name → IsPart part
part-between name front part back are =
    All-head IsPart part back (All-behind front (part ∷ back) (subst (All IsPart) (sym are) (parts-whole name)))
  where
    All-behind : (xs ys : List (List ℕ)) → All IsPart (xs ++ ys) → All IsPart ys
    All-behind [] ys all = all
    All-behind (x ∷ xs) ys all = All-behind xs ys (All-tail IsPart x (xs ++ ys) all)
