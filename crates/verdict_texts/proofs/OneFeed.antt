-- A line has one line feed, its last byte.
use Rattle.std.proofs.Common.{◌≡◌, ◌≢◌, ℕ, suc, ◌<◌, ◌≤◌, ◌/◌, ◌%◌, Bool, true, false, List, [], ◌∷◌, ◌++◌, length, get_or, codes, nat_lt, if◌then◌else◌, inl, inr, refl, sym, subst, arith, append-nil}
use Rattle.std.proofs.lemmas.Bool.{cases_lt, ne_eqb}
use Rattle.std.proofs.lemmas.Bool.Decides.{nat_tests}
use Rattle.std.proofs.lemmas.Str.{encode_ascii, inside_one}
use Rattle.std.specs.Char.{digit_char}
use Rattle.std.specs.List.{flat_map}
use Rattle.std.specs.Str.{chars}
use lib.Utf8.{encode}
use Rattle.verdict_texts.specs.Hidden.{is_hidden}
use Rattle.verdict_texts.specs.Lines.{ends_once, escape_of, four_digits, plain_char, plain_text, line, LinesEndOnce}

-- no byte is a line feed
abbrev NoFeed : List ℕ → Type 0
NoFeed [] = Unit {0}
NoFeed (b ∷ bs) = (b ≢ 10) × NoFeed bs

no-feed-append : (a b : List ℕ) → NoFeed a → NoFeed b → NoFeed (a ++ b)
no-feed-append [] b ha hb = hb
no-feed-append (x ∷ a) b ha hb = (ha.0, no-feed-append a b ha.1 hb)

no-feed-high : (bs : List ℕ) → ((k : ℕ) → k < length bs → 128 ≤ get_or bs k 0) → NoFeed bs
no-feed-high [] h = tt
no-feed-high (b ∷ bs) h =
    let high : 128 ≤ b = h 0 (omega arith) in
    (λ e. omega arith, no-feed-high bs (λ k below. h (suc k) (omega arith)))

no-feed-digit : (d : ℕ) → digit_char d ≢ 10
no-feed-digit d e = grind (arith, nat_tests, e)

no-feed-encoded : (c : ℕ) → c ≢ 10 → NoFeed (encode c)
no-feed-encoded c n = elim (cases_lt c 128) [
  | inl small ↦ subst NoFeed (sym (encode_ascii c small)) (n, tt)
  | inr big ↦ no-feed-high (encode c) (λ k below. elim (cases_lt (get_or (encode c) k 0) 128) [
    | inl low ↦ absurd (omega (arith, inside_one c [] (encode c) k (sym (append-nil _)) below low))
    | inr h ↦ h
  ])
]

shown-is : (c : ℕ) → is_hidden c ≡ false → c ≢ 10
shown-is c shown e = let hidden : is_hidden 10 ≡ false = subst (λ n. is_hidden n ≡ false) e shown in cc

no-feed-four : (n : ℕ) → NoFeed (four_digits n)
no-feed-four n = (
  no-feed-digit (n / 4096 % 16),
  (no-feed-digit (n / 256 % 16), (no-feed-digit (n / 16 % 16), (no-feed-digit (n % 16), tt))),
)

no-feed-escape : (c : ℕ) → NoFeed (escape_of c)
no-feed-escape c =
    let low = four_digits c in
    let high = four_digits (c / 65536) in
    elim (nat_lt c 65536) as (λ b. NoFeed (if b then codes "\\u" ++ low else codes "\\U" ++ (high ++ low))) [
      | true ↦ no-feed-append (codes "\\u") low (λ e. cc, (λ e. cc, tt)) (no-feed-four c)
      | false ↦ no-feed-append (codes "\\U") (high ++ low) (λ e. cc, (λ e. cc, tt)) (no-feed-append high low (no-feed-four (c / 65536)) (no-feed-four c))
    ]

no-feed-char : (c : ℕ) → NoFeed (plain_char c)
no-feed-char c = go (is_hidden c) refl
  where
    go : (b : Bool) → is_hidden c ≡ b → NoFeed (plain_char c)
    go true hidden = rw hidden (no-feed-escape c)
    go false shown = rw shown (no-feed-encoded c (shown-is c shown))

no-feed-chars : (cs : List ℕ) → NoFeed (flat_map plain_char cs)
no-feed-chars [] = tt
no-feed-chars (c ∷ cs) = no-feed-append (plain_char c) (flat_map plain_char cs) (no-feed-char c) (no-feed-chars cs)

ends : (bs : List ℕ) → NoFeed bs → ends_once (bs ++ 10 ∷ []) ≡ true
ends [] h = refl
ends (b ∷ []) h = rw (ne_eqb b 10 h.0) refl
ends (b ∷ d ∷ bs) h = rw (ne_eqb b 10 h.0) (ends (d ∷ bs) h.1)

pub lines-end-once : LinesEndOnce
unfolding line plain_text
lines-end-once text = ends (flat_map plain_char (chars text)) (no-feed-chars (chars text))
