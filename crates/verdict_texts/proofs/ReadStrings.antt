-- What is written for a text is read as that text.
use Rattle.std.proofs.Common.{◌≡◌, ℕ, zero, suc, ◌<◌, ◌≤◌, List, [], ◌∷◌, ◌++◌, length, get_or, Option, Some, None, inl, inr, ◌⊎◌, refl, sym, ap, ◌∙◌, subst, arith, append_assoc, append-nil}
use Rattle.std.proofs.lemmas.Bool.{cases_eq, cases_lt, ne_eqb, le-ltb}
use Rattle.std.proofs.lemmas.Str.{encode_ascii, inside_one, encodes-chars}
use Rattle.std.specs.List.{flat_map}
use Rattle.std.specs.Str.{chars}
use lib.Utf8.{encode, encodes}
use Rattle.verdict_texts.specs.JsonStrings.{json_char, json_string, read, plain, before, StringsReadBack}

-- what is written for a character is read as its bytes, before any text
abbrev Passes : ℕ → Type 0
Passes c = (t : List ℕ) → read plain (json_char c ++ t) ≡ before (encode c) (read plain t)

-- P holds below n, counted down from the top
abbrev Each : (ℕ → Type 0) → ℕ → Type 0
Each P zero = Unit {0}
Each P (suc n) = P n × Each P n

each-sound : (P : ℕ → Type 0) (n : ℕ) → Each P n → (x : ℕ) → x < n → P x
each-sound P zero h x lt = absurd (omega arith)
each-sound P (suc n) h x lt = go (each-sound P n h.1 x) (cases_eq x n)
  where
    go : (x < n → P x) → (x ≡ n) ⊎ (x ≡ n → ⊥) → P x
    go below (inl e) = subst P (sym e) h.0
    go below (inr ne) = below (omega arith)

controls : Each Passes 32
unfolding read encode
controls = (
  λ t. refl,
  (
    λ t. refl,
    (
      λ t. refl,
      (
        λ t. refl,
        (
          λ t. refl,
          (
            λ t. refl,
            (
              λ t. refl,
              (
                λ t. refl,
                (
                  λ t. refl,
                  (
                    λ t. refl,
                    (
                      λ t. refl,
                      (
                        λ t. refl,
                        (
                          λ t. refl,
                          (
                            λ t. refl,
                            (
                              λ t. refl,
                              (
                                λ t. refl,
                                (
                                  λ t. refl,
                                  (
                                    λ t. refl,
                                    (
                                      λ t. refl,
                                      (
                                        λ t. refl,
                                        (
                                          λ t. refl,
                                          (
                                            λ t. refl,
                                            (
                                              λ t. refl,
                                              (
                                                λ t. refl,
                                                (
                                                  λ t. refl,
                                                  (
                                                    λ t. refl,
                                                    (
                                                      λ t. refl,
                                                      (
                                                        λ t. refl,
                                                        (
                                                          λ t. refl,
                                                          (
                                                            λ t. refl,
                                                            (
                                                              λ t. refl,
                                                              (
                                                                λ t. refl,
                                                                tt,
                                                              ),
                                                            ),
                                                          ),
                                                        ),
                                                      ),
                                                    ),
                                                  ),
                                                ),
                                              ),
                                            ),
                                          ),
                                        ),
                                      ),
                                    ),
                                  ),
                                ),
                              ),
                            ),
                          ),
                        ),
                      ),
                    ),
                  ),
                ),
              ),
            ),
          ),
        ),
      ),
    ),
  ),
)

quote-passes : Passes 34
unfolding read encode
quote-passes t = refl

backslash-passes : Passes 92
unfolding read encode
backslash-passes t = refl

line-separator-passes : Passes 0x2028
unfolding read encode
line-separator-passes t = refl

paragraph-separator-passes : Passes 0x2029
unfolding read encode
paragraph-separator-passes t = refl

-- bytes that stand for themselves
read-byte : (b : ℕ) (t : List ℕ) → (b ≡ 34 → ⊥) → (b ≡ 92 → ⊥) → 32 ≤ b → read plain (b ∷ t) ≡ before (b ∷ []) (read plain t)
unfolding read
read-byte b t q s l = rw (ne_eqb b 34 q, ne_eqb b 92 s, le-ltb b 32 l)

before-before : (a b : List ℕ) (r : Option (List ℕ)) → before a (before b r) ≡ before (a ++ b) r
before-before a b None = refl
before-before a b (Some s) = ap Some (sym (append_assoc a b s))

before-nothing : (r : Option (List ℕ)) → before [] r ≡ r
before-nothing None = refl
before-nothing (Some s) = refl

read-high : (bs t : List ℕ) → ((k : ℕ) → k < length bs → 128 ≤ get_or bs k 0) → read plain (bs ++ t) ≡ before bs (read plain t)
read-high [] t h = sym (before-nothing (read plain t))
read-high (b ∷ bs) t h =
    let high : 128 ≤ b = h 0 (omega arith) in
    read-byte b (bs ++ t) (λ e. omega arith) (λ e. omega arith) (omega arith)
    ∙ ap (before (b ∷ [])) (read-high bs t (λ k below. h (suc k) (omega arith)))
    ∙ before-before (b ∷ []) bs (read plain t)

json_char-plain : (c : ℕ) → (c ≡ 34 → ⊥) → (c ≡ 92 → ⊥) → (c ≡ 0x2028 → ⊥) → (c ≡ 0x2029 → ⊥) → 32 ≤ c → json_char c ≡ encode c
json_char-plain c q s ls ps l =
    rw (
      ne_eqb c 34 q,
      ne_eqb c 92 s,
      ne_eqb c 8 (λ e. omega arith),
      ne_eqb c 9 (λ e. omega arith),
      ne_eqb c 10 (λ e. omega arith),
      ne_eqb c 12 (λ e. omega arith),
      ne_eqb c 13 (λ e. omega arith),
      ne_eqb c 0x2028 ls,
      ne_eqb c 0x2029 ps,
      le-ltb c 32 l,
    )

read-encoded : (c : ℕ) → (c ≡ 34 → ⊥) → (c ≡ 92 → ⊥) → 32 ≤ c → (t : List ℕ) → read plain (encode c ++ t) ≡ before (encode c) (read plain t)
read-encoded c q s l t = elim (cases_lt c 128) [
  | inl small ↦ subst (λ bs. read plain (bs ++ t) ≡ before bs (read plain t)) (sym (encode_ascii c small)) (read-byte c t q s l)
  | inr big ↦ read-high (encode c) t (λ k below. elim (cases_lt (get_or (encode c) k 0) 128) [
    | inl low ↦ absurd (omega (arith, inside_one c [] (encode c) k (sym (append-nil _)) below low))
    | inr h ↦ h
  ])
]

passes : (c : ℕ) → Passes c
passes c = go (cases_eq c 34) (cases_eq c 92) (cases_eq c 0x2028) (cases_eq c 0x2029) (cases_lt c 32)
  where
    go : (c ≡ 34) ⊎ (c ≡ 34 → ⊥) → (c ≡ 92) ⊎ (c ≡ 92 → ⊥) → (c ≡ 0x2028) ⊎ (c ≡ 0x2028 → ⊥) → (c ≡ 0x2029) ⊎ (c ≡ 0x2029 → ⊥) → (c < 32) ⊎ (32 ≤ c) → Passes c
    go (inl e) b d f h = subst Passes (sym e) quote-passes
    go (inr a) (inl e) d f h = subst Passes (sym e) backslash-passes
    go (inr a) (inr b) (inl e) f h = subst Passes (sym e) line-separator-passes
    go (inr a) (inr b) (inr d) (inl e) h = subst Passes (sym e) paragraph-separator-passes
    go (inr a) (inr b) (inr d) (inr f) (inl l) = each-sound Passes 32 controls c l
    go (inr a) (inr b) (inr d) (inr f) (inr l) =
        λ t. subst (λ bs. read plain (bs ++ t) ≡ before (encode c) (read plain t)) (sym (json_char-plain c a b d f l)) (read-encoded c a b l t)

read-all : (cs : List ℕ) → read plain (flat_map json_char cs ++ 34 ∷ []) ≡ Some (encodes cs)
unfolding read
read-all [] = refl
read-all (c ∷ cs) =
    ap (read plain) (append_assoc (json_char c) (flat_map json_char cs) (34 ∷ []))
    ∙ passes c (flat_map json_char cs ++ 34 ∷ []) ∙ ap (before (encode c)) (read-all cs)

pub strings-read-back : StringsReadBack
unfolding json_string
strings-read-back s utf8 = read-all (chars s) ∙ ap Some (encodes-chars s utf8)
