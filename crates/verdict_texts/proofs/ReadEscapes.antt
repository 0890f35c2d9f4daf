-- What is written for a text is read as that text.
use Rattle.std.proofs.Common.{◌≡◌, ℕ, zero, suc, ◌<◌, ◌≤◌, ◌/◌, ◌%◌, Bool, true, false, List, [], ◌∷◌, ◌++◌, length, get_or, nat_lt, ◌&&◌, Option, Some, None, inl, inr, ◌⊎◌, refl, sym, ap, ◌∙◌, subst, arith, append_assoc, append-nil}
use Rattle.std.proofs.lemmas.Bool.{cases_eq, cases_lt, ne_eqb, le-ltb, lt-ltb}
use Rattle.std.proofs.lemmas.Str.{encode_ascii, inside_one, encodes-chars}
use Rattle.std.specs.List.{flat_map, list_all}
use Rattle.std.specs.Option.{option_and_then}
use Rattle.std.specs.Str.{chars}
use lib.Utf8.{encode, encodes}
use Rattle.verdict_texts.specs.Percent.{message, message_char, property, property_char, uri, uri_byte, is_plain_byte, capital_digit, capital_value, byte_value, plain, read, before, EscapesReadBack}

-- what is written for a character is read as its bytes, before any text
abbrev Passes : (ℕ → List ℕ) → ℕ → Type 0
Passes f c = (t : List ℕ) → read plain (f c ++ t) ≡ before (encode c) (read plain t)

-- a byte that stands for itself
read-byte : (b : ℕ) (t : List ℕ) → (b ≡ 37 → ⊥) → read plain (b ∷ t) ≡ before (b ∷ []) (read plain t)
unfolding read
read-byte b t n = rw (ne_eqb b 37 n)

before-before : (a b : List ℕ) (r : Option (List ℕ)) → before a (before b r) ≡ before (a ++ b) r
before-before a b None = refl
before-before a b (Some s) = ap Some (sym (append_assoc a b s))

before-nothing : (r : Option (List ℕ)) → before [] r ≡ r
before-nothing None = refl
before-nothing (Some s) = refl

read-high : (bs t : List ℕ) → ((k : ℕ) → k < length bs → 128 ≤ get_or bs k 0) → read plain (bs ++ t) ≡ before bs (read plain t)
read-high [] t h = sym (before-nothing (read plain t))
read-high (b ∷ bs) t h =
    let high : 128 ≤ b = h 0 (omega arith) in
    read-byte b (bs ++ t) (λ e. omega arith)
    ∙ ap (before (b ∷ [])) (read-high bs t (λ k below. h (suc k) (omega arith)))
    ∙ before-before (b ∷ []) bs (read plain t)

read-encoded : (c : ℕ) → (c ≡ 37 → ⊥) → (t : List ℕ) → read plain (encode c ++ t) ≡ before (encode c) (read plain t)
read-encoded c n t = elim (cases_lt c 128) [
  | inl small ↦ subst (λ bs. read plain (bs ++ t) ≡ before bs (read plain t)) (sym (encode_ascii c small)) (read-byte c t n)
  | inr big ↦ read-high (encode c) t (λ k below. elim (cases_lt (get_or (encode c) k 0) 128) [
    | inl low ↦ absurd (omega (arith, inside_one c [] (encode c) k (sym (append-nil _)) below low))
    | inr h ↦ h
  ])
]

percent-passes : Passes message_char 37
unfolding read encode
percent-passes t = refl

return-passes : Passes message_char 13
unfolding read encode
return-passes t = refl

feed-passes : Passes message_char 10
unfolding read encode
feed-passes t = refl

colon-passes : Passes property_char 58
unfolding read encode
colon-passes t = refl

comma-passes : Passes property_char 44
unfolding read encode
comma-passes t = refl

message-char-plain : (c : ℕ) → (c ≡ 37 → ⊥) → (c ≡ 13 → ⊥) → (c ≡ 10 → ⊥) → message_char c ≡ encode c
message-char-plain c a b d = rw (ne_eqb c 37 a, ne_eqb c 13 b, ne_eqb c 10 d)

message-passes : (c : ℕ) → Passes message_char c
message-passes c = go (cases_eq c 37) (cases_eq c 13) (cases_eq c 10)
  where
    go : (c ≡ 37) ⊎ (c ≡ 37 → ⊥) → (c ≡ 13) ⊎ (c ≡ 13 → ⊥) → (c ≡ 10) ⊎ (c ≡ 10 → ⊥) → Passes message_char c
    go (inl e) b d = subst (Passes message_char) (sym e) percent-passes
    go (inr a) (inl e) d = subst (Passes message_char) (sym e) return-passes
    go (inr a) (inr b) (inl e) = subst (Passes message_char) (sym e) feed-passes
    go (inr a) (inr b) (inr d) =
        λ t. subst (λ bs. read plain (bs ++ t) ≡ before (encode c) (read plain t)) (sym (message-char-plain c a b d)) (read-encoded c a t)

property-char-plain : (c : ℕ) → (c ≡ 58 → ⊥) → (c ≡ 44 → ⊥) → property_char c ≡ message_char c
property-char-plain c a b = rw (ne_eqb c 58 a, ne_eqb c 44 b)

property-passes : (c : ℕ) → Passes property_char c
property-passes c = go (cases_eq c 58) (cases_eq c 44)
  where
    go : (c ≡ 58) ⊎ (c ≡ 58 → ⊥) → (c ≡ 44) ⊎ (c ≡ 44 → ⊥) → Passes property_char c
    go (inl e) b = subst (Passes property_char) (sym e) colon-passes
    go (inr a) (inl e) = subst (Passes property_char) (sym e) comma-passes
    go (inr a) (inr b) =
        λ t. subst (λ bs. read plain (bs ++ t) ≡ before (encode c) (read plain t)) (sym (property-char-plain c a b)) (message-passes c t)

read-all : (f : ℕ → List ℕ) → ((c : ℕ) → Passes f c) → (cs : List ℕ) → read plain (flat_map f cs) ≡ Some (encodes cs)
unfolding read
read-all f h [] = refl
read-all f h (c ∷ cs) = h c (flat_map f cs) ∙ ap (before (encode c)) (read-all f h cs)

-- P holds below n, counted down from the top
abbrev Each : (ℕ → Type 0) → ℕ → Type 0
Each P zero = Unit {0}
Each P (suc n) = P n × Each P n

each-sound : (P : ℕ → Type 0) (n : ℕ) → Each P n → (x : ℕ) → x < n → P x
each-sound P zero h x lt = absurd (omega arith)
each-sound P (suc n) h x lt = go (each-sound P n h.1 x) (cases_eq x n)
  where
    go : (x < n → P x) → (x ≡ n) ⊎ (x ≡ n → ⊥) → P x
    go below (inl e) = subst P (sym e) h.0
    go below (inr ne) = below (omega arith)

digits-read : Each (λ d. capital_value (capital_digit d) ≡ Some d) 16
digits-read = (refl, (refl, (refl, (refl, (refl, (refl, (refl, (refl, (refl, (refl, (refl, (refl, (refl, (refl, (refl, (refl, tt))))))))))))))))

digit-read : (d : ℕ) → d < 16 → capital_value (capital_digit d) ≡ Some d
digit-read d lt = each-sound (λ d. capital_value (capital_digit d) ≡ Some d) 16 digits-read d lt

bytes-read : (b : ℕ) → b < 256 → byte_value (capital_digit (b / 16)) (capital_digit (b % 16)) ≡ Some b
bytes-read b lt = rw (digit-read (b / 16) (omega arith), digit-read (b % 16) (omega arith)) (ap Some (omega arith))

escape-read : (b : ℕ) (t : List ℕ) → b < 256 → read plain (37 ∷ capital_digit (b / 16) ∷ capital_digit (b % 16) ∷ t) ≡ before (b ∷ []) (read plain t)
unfolding read
escape-read b t lt = ap (option_and_then (λ v. before (v ∷ []) (read plain t))) (bytes-read b lt)

plain-byte-is-no-percent : (b : ℕ) → is_plain_byte b ≡ true → b ≡ 37 → ⊥
plain-byte-is-no-percent b h e = let no : false ≡ true = subst (λ n. is_plain_byte n ≡ true) e h in cc

uri-byte-passes : (b : ℕ) (t : List ℕ) → b < 256 → read plain (uri_byte b ++ t) ≡ before (b ∷ []) (read plain t)
uri-byte-passes b t lt = go (is_plain_byte b) refl
  where
    go : (p : Bool) → is_plain_byte b ≡ p → read plain (uri_byte b ++ t) ≡ before (b ∷ []) (read plain t)
    go true h = rw h (read-byte b t (plain-byte-is-no-percent b h))
    go false h = rw h (escape-read b t lt)

first-below : (b : ℕ) (bs : List ℕ) → (nat_lt b 256 && list_all (λ b. nat_lt b 256) bs) ≡ true → (b < 256) × (list_all (λ b. nat_lt b 256) bs ≡ true)
first-below b bs h =
    let rest = list_all (λ b. nat_lt b 256) bs in
    elim (cases_lt b 256) [
      | inl lt ↦ (lt, subst (λ t. (t && rest) ≡ true) (lt-ltb b 256 lt) h)
      | inr ge ↦ absurd (let no : false ≡ true = subst (λ t. (t && rest) ≡ true) (le-ltb b 256 ge) h in cc)
    ]

uri-read : (name : List ℕ) → list_all (λ b. nat_lt b 256) name ≡ true → read plain (uri name) ≡ Some name
unfolding read uri
uri-read [] h = refl
uri-read (b ∷ bs) h =
    let below = first-below b bs h in
    uri-byte-passes b (flat_map uri_byte bs) below.0 ∙ ap (before (b ∷ [])) (uri-read bs below.1)

pub escapes-read-back : EscapesReadBack
unfolding message property
escapes-read-back = record {
  text = λ text utf8. read-all message_char message-passes (chars text) ∙ ap Some (encodes-chars text utf8);
  value = λ text utf8. read-all property_char property-passes (chars text) ∙ ap Some (encodes-chars text utf8);
  path = uri-read;
}
