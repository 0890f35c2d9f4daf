-- An annotation has one line feed, its last byte.
use Rattle.std.proofs.Common.{◌≡◌, ◌≢◌, ℕ, zero, suc, ◌<◌, ◌≤◌, ◌/◌, ◌%◌, ℤ, pos, negsuc, Bool, true, false, List, [], ◌∷◌, ◌++◌, length, get_or, codes, if◌then◌else◌, not, ◌&&◌, ◌==◌, Option, Some, None, inl, inr, ◌⊎◌, refl, sym, subst, arith, append-nil}
use Rattle.std.proofs.lemmas.Bool.{cases_eq, cases_lt, ne_eqb}
use Rattle.std.proofs.lemmas.Bool.Decides.{nat_tests}
use Rattle.std.proofs.lemmas.Str.{encode_ascii, inside_one}
use Rattle.std.specs.Fmt.{decimal, digit_glyph, digits, digits_onto, signed_decimal}
use Rattle.std.specs.List.{flat_map}
use Rattle.std.specs.Option.{option_map_or}
use Rattle.std.specs.Str.{chars}
use lib.Utf8.{encode}
use Rattle.verdict_texts.specs.Lines.{ends_once}
use Rattle.verdict_texts.specs.declared.telling.Position.{Position}
use Rattle.verdict_texts.specs.declared.telling.ToldPlace.{ToldPlace}
use Rattle.verdict_texts.specs.Annotations.{annotation, place_properties, position_properties, AnnotationsEndOnce}
use Rattle.verdict_texts.specs.Percent.{message, message_char, property, property_char}
use Rattle.verdict_texts.specs.Texts.{position_of, told_text}

-- no byte is a line feed
abbrev NoFeed : List ℕ → Type 0
NoFeed [] = Unit {0}
NoFeed (b ∷ bs) = (b ≢ 10) × NoFeed bs

no-feed-append : (a b : List ℕ) → NoFeed a → NoFeed b → NoFeed (a ++ b)
no-feed-append [] b ha hb = hb
no-feed-append (x ∷ a) b ha hb = (ha.0, no-feed-append a b ha.1 hb)

-- the same, as a test
abbrev is_feedless : List ℕ → Bool
is_feedless [] = true
is_feedless (b ∷ bs) = not (b == 10) && is_feedless bs

feedless : (bs : List ℕ) → is_feedless bs ≡ true → NoFeed bs
feedless [] e = tt
feedless (b ∷ bs) e = elim (cases_eq b 10) [
  | inl is ↦ absurd (let no : false ≡ true = subst (λ n. (not (n == 10) && is_feedless bs) ≡ true) is e in cc)
  | inr ne ↦ (ne, feedless bs (subst (λ t. (not t && is_feedless bs) ≡ true) (ne_eqb b 10 ne) e))
]

no-feed-high : (bs : List ℕ) → ((k : ℕ) → k < length bs → 128 ≤ get_or bs k 0) → NoFeed bs
no-feed-high [] h = tt
no-feed-high (b ∷ bs) h =
    let high : 128 ≤ b = h 0 (omega arith) in
    (λ e. omega arith, no-feed-high bs (λ k below. h (suc k) (omega arith)))

no-feed-encoded : (c : ℕ) → c ≢ 10 → NoFeed (encode c)
no-feed-encoded c n = elim (cases_lt c 128) [
  | inl small ↦ subst NoFeed (sym (encode_ascii c small)) (n, tt)
  | inr big ↦ no-feed-high (encode c) (λ k below. elim (cases_lt (get_or (encode c) k 0) 128) [
    | inl low ↦ absurd (omega (arith, inside_one c [] (encode c) k (sym (append-nil _)) below low))
    | inr h ↦ h
  ])
]

no-feed-message-char : (c : ℕ) → NoFeed (message_char c)
no-feed-message-char c = go (cases_eq c 37) (cases_eq c 13) (cases_eq c 10)
  where
    go : (c ≡ 37) ⊎ (c ≡ 37 → ⊥) → (c ≡ 13) ⊎ (c ≡ 13 → ⊥) → (c ≡ 10) ⊎ (c ≡ 10 → ⊥) → NoFeed (message_char c)
    go (inl e) b d = subst (λ n. NoFeed (message_char n)) (sym e) (feedless (codes "%25") refl)
    go (inr a) (inl e) d = subst (λ n. NoFeed (message_char n)) (sym e) (feedless (codes "%0D") refl)
    go (inr a) (inr b) (inl e) = subst (λ n. NoFeed (message_char n)) (sym e) (feedless (codes "%0A") refl)
    go (inr a) (inr b) (inr d) = rw (ne_eqb c 37 a, ne_eqb c 13 b, ne_eqb c 10 d) (no-feed-encoded c d)

no-feed-property-char : (c : ℕ) → NoFeed (property_char c)
no-feed-property-char c = go (cases_eq c 58) (cases_eq c 44)
  where
    go : (c ≡ 58) ⊎ (c ≡ 58 → ⊥) → (c ≡ 44) ⊎ (c ≡ 44 → ⊥) → NoFeed (property_char c)
    go (inl e) b = subst (λ n. NoFeed (property_char n)) (sym e) (feedless (codes "%3A") refl)
    go (inr a) (inl e) = subst (λ n. NoFeed (property_char n)) (sym e) (feedless (codes "%2C") refl)
    go (inr a) (inr b) = rw (ne_eqb c 58 a, ne_eqb c 44 b) (no-feed-message-char c)

no-feed-map : (f : ℕ → List ℕ) → ((c : ℕ) → NoFeed (f c)) → (cs : List ℕ) → NoFeed (flat_map f cs)
no-feed-map f h [] = tt
no-feed-map f h (c ∷ cs) = no-feed-append (f c) (flat_map f cs) (h c) (no-feed-map f h cs)

no-feed-message : (text : List ℕ) → NoFeed (message text)
unfolding message
no-feed-message text = no-feed-map message_char no-feed-message-char (chars text)

no-feed-property : (text : List ℕ) → NoFeed (property text)
unfolding property
no-feed-property text = no-feed-map property_char no-feed-property-char (chars text)

no-feed-glyph : (d : ℕ) → digit_glyph false d ≢ 10
no-feed-glyph d e = grind (arith, nat_tests, e)

no-feed-onto : (k n : ℕ) (acc : List ℕ) → NoFeed acc → NoFeed (digits_onto k 10 false n acc)
no-feed-onto zero n acc h = h
no-feed-onto (suc k) n acc h =
    let more : NoFeed (digit_glyph false (n % 10) ∷ acc) = (no-feed-glyph (n % 10), h) in
    elim (n / 10 == 0) as (λ b. NoFeed (if b then digit_glyph false (n % 10) ∷ acc else digits_onto k 10 false (n / 10) (digit_glyph false (n % 10) ∷ acc))) [
      | true ↦ more
      | false ↦ no-feed-onto k (n / 10) (digit_glyph false (n % 10) ∷ acc) more
    ]

no-feed-decimal : (n : ℕ) → NoFeed (decimal n)
unfolding digits
no-feed-decimal n = no-feed-onto 64 n [] tt

no-feed-signed : (z : ℤ) → NoFeed (signed_decimal z)
no-feed-signed (pos n) = no-feed-decimal n
no-feed-signed (negsuc n) = (λ e. cc, no-feed-decimal (suc n))

no-feed-position : (at : Option Position) → NoFeed (option_map_or position_properties at [])
no-feed-position None = tt
no-feed-position (Some at) =
    no-feed-append (codes ",line=") _ (feedless (codes ",line=") refl)
    (no-feed-append (signed_decimal at.line) _ (no-feed-signed at.line)
    (no-feed-append (codes ",col=") (signed_decimal at.column) (feedless (codes ",col=") refl) (no-feed-signed at.column)))

no-feed-place : (place : Option ToldPlace) → NoFeed (option_map_or place_properties place [])
no-feed-place None = tt
no-feed-place (Some place) =
    no-feed-append (codes "file=") _ (feedless (codes "file=") refl)
    (no-feed-append (property place.file) _ (no-feed-property place.file)
    (no-feed-append (option_map_or position_properties (position_of place) []) (codes ",") (no-feed-position (position_of place)) (feedless (codes ",") refl)))

ends-cons : (x : ℕ) (r : List ℕ) → x ≢ 10 → ends_once r ≡ true → ends_once (x ∷ r) ≡ true
ends-cons x [] n e = absurd (let no : false ≡ true = e in cc)
ends-cons x (d ∷ ds) n e = rw (ne_eqb x 10 n) e

ends-behind : (a rest : List ℕ) → NoFeed a → ends_once rest ≡ true → ends_once (a ++ rest) ≡ true
ends-behind [] rest h e = e
ends-behind (x ∷ a) rest h e = ends-cons x (a ++ rest) h.0 (ends-behind a rest h.1 e)

pub annotations-end-once : AnnotationsEndOnce
unfolding annotation
annotations-end-once told =
    let text = message (told_text told) ++ 10 ∷ [] in
    let titled = codes "title=" ++ (property told.code ++ (codes "::" ++ text)) in
    ends-behind (codes "::error ") (option_map_or place_properties told.place [] ++ titled) (feedless (codes "::error ") refl)
    (ends-behind (option_map_or place_properties told.place []) titled (no-feed-place told.place)
    (ends-behind (codes "title=") (property told.code ++ (codes "::" ++ text)) (feedless (codes "title=") refl)
    (ends-behind (property told.code) (codes "::" ++ text) (no-feed-property told.code)
    (ends-behind (codes "::") text (feedless (codes "::") refl)
    (ends-behind (message (told_text told)) (10 ∷ []) (no-feed-message (told_text told)) refl)))))
