-- A text read escape by escape.
use Rattle.std.proofs.Common.{◌≡◌, ℕ, zero, suc, ◌≤◌, ◌+◌, inl, inr, Bool, true, false, cond, List, [], ◌∷◌, ◌++◌, length, refl, ap, sym, ◌∙◌, subst, arith, None, Some, Ok, Err, leb, MatchResult, append_assoc, append-nil}
use Rattle.std.proofs.lemmas.Bool.{le-leb, false≢true}
use Rattle.std.proofs.lemmas.Bool.Decides.{eqb_tells}
use Rattle.std.specs.Result.{result_map_both}
use Rattle.std.specs.Char.{digit_value}
use Rattle.field_rules.specs.declared.escape_faults.EscapeFault.{EscapeFault}
use Rattle.field_rules.specs.declared.escape_faults.EscapeFault.TheVariants.{MissingEscape, HexTooShort, InvalidHex, OctalTooLarge, InvalidEscape, OutOfMemory}
use Rattle.field_rules.specs.EscapeCode.{Next, next_byte}
use Rattle.field_rules.specs.Escapes.{Escaped, nothing, itself, letter, octal_one, octal_two, octal_three, hexadecimal, EscapeRefused, IsRefusal, One, Bytes, is_backslash, is_hex_mark, is_octal, is_hex, letters, value_in, letter_value, onto, starts_octal, one_escape, byte_before, escape_then, unescaped_within}
use Rattle.field_rules.proofs.Fronts.{Step, step-itself, step-escape}

-- bytes that stand for a front of a text, of which a rest is left
pub record Reads (text bytes rest : List ℕ) : Type 0 where
  pub good : (out : List ℕ) → Escaped rest out → Escaped text (bytes ++ out)
  pub bad : (f : EscapeFault) → EscapeRefused rest f → EscapeRefused text f

pub reads-nothing : (text : List ℕ) → Reads text [] text
reads-nothing text = record { good = λ out r. r; bad = λ f r. r }

reads-more : (text bytes rest : List ℕ) (b : ℕ) (after : List ℕ) → Reads text bytes rest → Step rest b after → Reads text (bytes ++ b ∷ []) after
reads-more text bytes rest b after here step = record {
  good = λ out r. subst (λ (l : List ℕ). Escaped text l) (sym (append_assoc bytes (b ∷ []) out)) (here.good (b ∷ out) (step.good out r));
  bad = λ f r. here.bad f (step.bad f r);
}

reads-whole : (text bytes : List ℕ) → Reads text bytes [] → Escaped text bytes
reads-whole text bytes here = subst (λ (l : List ℕ). Escaped text l) (append-nil bytes) (here.good [] nothing)

refusal : (text : List ℕ) (f : EscapeFault) → EscapeRefused text f → IsRefusal text f
refusal text MissingEscape r = r
refusal text HexTooShort r = r
refusal text InvalidHex r = r
refusal text OctalTooLarge r = r
refusal text InvalidEscape r = r
refusal text OutOfMemory r = tt

refused-here : (s : ℕ) (v : List ℕ) (f : EscapeFault) → is_backslash s ≡ true → one_escape v ≡ Err f → EscapeRefused (s ∷ v) f
refused-here s v f mark e = ([], v, [], s, refl, mark, nothing, e)

-- what the next byte of a text says of it
abbrev Takes : List ℕ → Next → Type 0
Takes text (Ok None) = text ≡ []
Takes text (Ok (Some one)) = Step text one.0 one.1
Takes text (Err f) = EscapeRefused text f

takes-escape : (s : ℕ) (v : List ℕ) (r : One) → is_backslash s ≡ true → one_escape v ≡ r → Takes (s ∷ v) (result_map_both Some (λ f. f) r)
takes-escape s v (Ok one) mark e = step-escape s v one.0 one.1 mark e
takes-escape s v (Err f) mark e = refused-here s v f mark e

takes-by : (c : ℕ) (t : List ℕ) (p : Bool) → is_backslash c ≡ p → Takes (c ∷ t) (cond p (result_map_both Some (λ f. f) (one_escape t)) (Ok (Some (c, t))))
takes-by c t true mark = takes-escape c t (one_escape t) mark refl
takes-by c t false plain = step-itself c t plain

takes : (text : List ℕ) → Takes text (next_byte text)
takes [] = refl
takes (c ∷ t) = takes-by c t (is_backslash c) refl

pub next-none : (text bytes rest : List ℕ) → Reads text bytes rest → next_byte rest ≡ Ok None → Escaped text bytes
next-none text bytes rest here e = reads-whole text bytes (subst (λ (l : List ℕ). Reads text bytes l) (subst (Takes rest) e (takes rest)) here)

pub next-some : (text bytes rest : List ℕ) (b : ℕ) (after : List ℕ) → Reads text bytes rest → next_byte rest ≡ Ok (Some (b, after)) → Reads text (bytes ++ b ∷ []) after
next-some text bytes rest b after here e = reads-more text bytes rest b after here (subst (Takes rest) e (takes rest))

pub next-shorter : (rest : List ℕ) (b : ℕ) (after : List ℕ) → next_byte rest ≡ Ok (Some (b, after)) → 1 + length after ≤ length rest
next-shorter rest b after e = let step : Step rest b after = subst (Takes rest) e (takes rest) in step.shorter

pub next-fault : (text bytes rest : List ℕ) (f : EscapeFault) → Reads text bytes rest → next_byte rest ≡ Err f → IsRefusal text f
next-fault text bytes rest f here e = refusal text f (here.bad f (subst (Takes rest) e (takes rest)))

-- the function gives what the relations say
abbrev pub Decides : List ℕ → Bytes → Type 0
Decides t r = MatchResult r (λ out. Escaped t out) (λ f. EscapeRefused t f)

through : (text : List ℕ) (b : ℕ) (rest : List ℕ) (r : Bytes) → Step text b rest → Decides rest r → Decides text (byte_before b r)
through text b rest (Ok out) step h = step.good out h
through text b rest (Err f) step h = step.bad f h

behind-mark : (n s : ℕ) (v : List ℕ) (r : One) → is_backslash s ≡ true → one_escape v ≡ r → ((t : List ℕ) → length t ≤ n → Decides t (unescaped_within n t)) → length v ≤ n
    → Decides (s ∷ v) (escape_then (λ rest. unescaped_within n rest) r)
behind-mark n s v (Err f) mark e more small = refused-here s v f mark e
behind-mark n s v (Ok one) mark e more small =
    let step : Step (s ∷ v) one.0 one.1 = step-escape s v one.0 one.1 mark e in
    through (s ∷ v) one.0 one.1 (unescaped_within n one.1) step (more one.1 (omega (arith, step.shorter)))

first-byte : (n c : ℕ) (t : List ℕ) (p : Bool) → is_backslash c ≡ p → ((v : List ℕ) → length v ≤ n → Decides v (unescaped_within n v)) → length t ≤ n
    → Decides (c ∷ t) (cond p (escape_then (λ rest. unescaped_within n rest) (one_escape t)) (byte_before c (unescaped_within n t)))
first-byte n c t true mark more small = behind-mark n c t (one_escape t) mark refl more small
first-byte n c t false plain more small = through (c ∷ t) c t (unescaped_within n t) (step-itself c t plain) (more t small)

pub decides : (n : ℕ) (t : List ℕ) → length t ≤ n → Decides t (unescaped_within n t)
decides zero [] small = nothing
decides zero (c ∷ t) small = absurd (omega (arith, small))
decides (suc n) [] small = nothing
decides (suc n) (c ∷ t) small = first-byte n c t (is_backslash c) refl (λ v h. decides n v h) (omega (arith, small))

-- bytes in front of what the rest gives
abbrev pub bytes_before : List ℕ → Bytes → Bytes
bytes_before [] r = r
bytes_before (b ∷ bs) r = byte_before b (bytes_before bs r)

-- what the function gives of a text with enough steps
abbrev pub Gives : List ℕ → Bytes → Type 0
Gives t r = (n : ℕ) → length t ≤ n → unescaped_within n t ≡ r

gives-itself : (c : ℕ) (t : List ℕ) (r : Bytes) → is_backslash c ≡ false → Gives t r → Gives (c ∷ t) (byte_before c r)
gives-itself c t r plain more zero small = absurd (omega (arith, small))
gives-itself c t r plain more (suc n) small =
    ap (λ (p : Bool). cond p (escape_then (λ rest. unescaped_within n rest) (one_escape t)) (byte_before c (unescaped_within n t))) plain
    ∙ ap (byte_before c) (more n (omega (arith, small)))

gives-escape : (s : ℕ) (v : List ℕ) (b : ℕ) (t : List ℕ) (r : Bytes) → is_backslash s ≡ true → one_escape v ≡ Ok (b, t) → Gives t r → Gives (s ∷ v) (byte_before b r)
gives-escape s v b t r mark e more zero small = absurd (omega (arith, small))
gives-escape s v b t r mark e more (suc n) small =
    let step : Step (s ∷ v) b t = step-escape s v b t mark e in
    ap (λ (p : Bool). cond p (escape_then (λ rest. unescaped_within n rest) (one_escape v)) (byte_before s (unescaped_within n v))) mark
    ∙ ap (escape_then (λ rest. unescaped_within n rest)) e ∙ ap (byte_before b) (more n (omega (arith, small, step.shorter)))

pub gives-refused : (s : ℕ) (v : List ℕ) (f : EscapeFault) → is_backslash s ≡ true → one_escape v ≡ Err f → Gives (s ∷ v) (Err f)
gives-refused s v f mark e zero small = absurd (omega (arith, small))
gives-refused s v f mark e (suc n) small =
    ap (λ (p : Bool). cond p (escape_then (λ rest. unescaped_within n rest) (one_escape v)) (byte_before s (unescaped_within n v))) mark
    ∙ ap (escape_then (λ rest. unescaped_within n rest)) e

-- a relation's way back: each escape of a text in front of one that starts with no octal digit
digit-no-mark : (a : ℕ) → is_octal a ≡ true → is_hex_mark a ≡ false
digit-no-mark a h = elim (eqb_tells a 120) [
  | inl e ↦ absurd (false≢true (ap is_octal (sym e.1) ∙ h))
  | inr e ↦ elim (eqb_tells a 88) [
    | inl g ↦ absurd (false≢true (ap is_octal (sym g.1) ∙ h))
    | inr g ↦ rw (e.0, g.0)
  ]
]

-- a letter of C is neither an octal digit nor the mark of a hexadecimal number
abbrev IsLetterOnly : ℕ → Type 0
IsLetterOnly c = (is_hex_mark c ≡ false) × (is_octal c ≡ false)

abbrev LettersOnly : List (ℕ × ℕ) → Type 0
LettersOnly [] = Unit {0}
LettersOnly (e ∷ es) = IsLetterOnly e.0 × LettersOnly es

letter-by : (es : List (ℕ × ℕ)) (c v : ℕ) → LettersOnly es → value_in es c ≡ Some v → IsLetterOnly c
letter-by [] c v only e = cc
letter-by (l ∷ es) c v only e = elim (eqb_tells l.0 c) [
  | inl h ↦ subst IsLetterOnly h.1 only.0
  | inr h ↦ letter-by es c v only.1 (sym (ap (λ (p : Bool). cond p (Some l.1) (value_in es c)) h.0) ∙ e)
]

letter-only : (c v : ℕ) → letter_value c ≡ Some v → IsLetterOnly c
letter-only c v e = letter-by letters c v ((refl, refl), ((refl, refl), ((refl, refl), ((refl, refl), ((refl, refl), ((refl, refl), ((refl, refl), ((refl, refl), ((refl, refl), ((refl, refl), ((refl, refl), tt))))))))))) e

no-digit : (t tail : List ℕ) → starts_octal t ≡ false → starts_octal tail ≡ false → starts_octal (t ++ tail) ≡ false
no-digit [] tail h g = g
no-digit (c ∷ t) tail h g = h

escaped-letter : (c v : ℕ) (t : List ℕ) → letter_value c ≡ Some v → one_escape (c ∷ t) ≡ Ok (v, t)
escaped-letter c v t e =
    let only : IsLetterOnly c = letter-only c v e in
    rw (only.0, only.1, e)

escaped-one : (a v : ℕ) (t : List ℕ) → is_octal a ≡ true → starts_octal t ≡ false → v ≡ digit_value a → one_escape (a ∷ t) ≡ Ok (v, t)
escaped-one a v [] ha h e = rw (digit-no-mark a ha, ha, e)
escaped-one a v (c ∷ t) ha h e = rw (digit-no-mark a ha, ha, h, e)

escaped-two : (a b v : ℕ) (t : List ℕ) → is_octal a ≡ true → is_octal b ≡ true → starts_octal t ≡ false → v ≡ onto 8 (digit_value a) b → one_escape (a ∷ b ∷ t) ≡ Ok (v, t)
escaped-two a b v [] ha hb h e = rw (digit-no-mark a ha, ha, hb, e)
escaped-two a b v (c ∷ t) ha hb h e = rw (digit-no-mark a ha, ha, hb, h, e)

escaped-three : (a b c v : ℕ) (t : List ℕ) → is_octal a ≡ true → is_octal b ≡ true → is_octal c ≡ true → v ≡ onto 8 (onto 8 (digit_value a) b) c → v ≤ 255
    → one_escape (a ∷ b ∷ c ∷ t) ≡ Ok (v, t)
escaped-three a b c v t ha hb hc e small =
    let fits : leb (onto 8 (onto 8 (digit_value a) b) c) 255 ≡ true = le-leb (onto 8 (onto 8 (digit_value a) b) c) 255 (rw (← e) small) in
    rw (digit-no-mark a ha, ha, hb, hc, fits, e)

escaped-hex : (x a b v : ℕ) (t : List ℕ) → is_hex_mark x ≡ true → is_hex a ≡ true → is_hex b ≡ true → v ≡ onto 16 (digit_value a) b → one_escape (x ∷ a ∷ b ∷ t) ≡ Ok (v, t)
escaped-hex x a b v t hx ha hb e = rw (hx, ha, hb, e)

-- what is read behind the escapes of a text u is what u stands for, and what the rest gives
pub gives-behind : {u out : List ℕ} → Escaped u out → (rest : List ℕ) (r : Bytes) → starts_octal rest ≡ false → Gives rest r → Gives (u ++ rest) (bytes_before out r)
gives-behind nothing rest r apart more = more
gives-behind (itself {c} {t} {out} plain e) rest r apart more = gives-itself c (t ++ rest) (bytes_before out r) plain (gives-behind e rest r apart more)
gives-behind (letter {s} {c} {v} {t} {out} mark h e) rest r apart more =
    gives-escape s (c ∷ t ++ rest) v (t ++ rest) (bytes_before out r) mark (escaped-letter c v (t ++ rest) h) (gives-behind e rest r apart more)
gives-behind (octal_one {s} {a} {v} {t} {out} mark ha h value e) rest r apart more =
    gives-escape s (a ∷ t ++ rest) v (t ++ rest) (bytes_before out r) mark (escaped-one a v (t ++ rest) ha (no-digit t rest h apart) value) (gives-behind e rest r apart more)
gives-behind (octal_two {s} {a} {b} {v} {t} {out} mark ha hb h value e) rest r apart more =
    gives-escape s (a ∷ b ∷ t ++ rest) v (t ++ rest) (bytes_before out r) mark (escaped-two a b v (t ++ rest) ha hb (no-digit t rest h apart) value) (gives-behind e rest r apart more)
gives-behind (octal_three {s} {a} {b} {c} {v} {t} {out} mark ha hb hc value small e) rest r apart more =
    gives-escape s (a ∷ b ∷ c ∷ t ++ rest) v (t ++ rest) (bytes_before out r) mark (escaped-three a b c v (t ++ rest) ha hb hc value small) (gives-behind e rest r apart more)
gives-behind (hexadecimal {s} {x} {a} {b} {v} {t} {out} mark hx ha hb value e) rest r apart more =
    gives-escape s (x ∷ a ∷ b ∷ t ++ rest) v (t ++ rest) (bytes_before out r) mark (escaped-hex x a b v (t ++ rest) hx ha hb value) (gives-behind e rest r apart more)

pub gives-nothing : Gives [] (Ok [])
gives-nothing zero small = refl
gives-nothing (suc n) small = refl

-- a backslash is no octal digit
pub mark-no-digit : (s : ℕ) (v : List ℕ) → is_backslash s ≡ true → starts_octal (s ∷ v) ≡ false
mark-no-digit s v mark = elim (eqb_tells s 92) [
  | inl e ↦ ap is_octal e.1
  | inr e ↦ absurd (false≢true (sym e.0 ∙ mark))
]
