-- Underscores that are dropped from characters are dropped from their bytes.
use Rattle.std.proofs.Common.{◌≡◌, ◌≤◌, ◌<◌, ◌⊎◌, inl, inr, ℕ, ◌+◌, ◌/◌, Bool, true, false, not, cond, eqb, List, [], ◌∷◌, ◌++◌, filter, refl, ◌∙◌, arith}
use Rattle.std.proofs.lemmas.Bool.Decides.{nat_tests}
use Rattle.std.proofs.lemmas.List.Elements.{filter-append}
use Rattle.std.proofs.str.Laws.{one, two, three, four, order}
use lib.Utf8.{encode, encodes, next}

abbrev is_kept : ℕ → Bool
is_kept c = not (eqb c 95)

kept-high : (c : ℕ) → 128 ≤ c → is_kept c ≡ true
kept-high c high = grind (arith, nat_tests)

filter-encode : (c : ℕ) → filter is_kept (encode c) ≡ cond (is_kept c) (encode c) []
filter-encode c = by (order c 128) (order c 2048) (order c 65536)
  where
    by : (c < 128) ⊎ (128 ≤ c) → (c < 2048) ⊎ (2048 ≤ c) → (c < 65536) ⊎ (65536 ≤ c) → filter is_kept (encode c) ≡ cond (is_kept c) (encode c) []
    by (inl low) _ _ = rw (one c low) refl
    by (inr high) (inl low) _ =
        let here = kept-high c high in
        let first = kept-high (192 + c / 64) (omega arith) in
        let second = kept-high (next c) (omega arith) in
        rw (two c high low, here, first, second) refl
    by (inr high) (inr more) (inl low) =
        let here = kept-high c high in
        let first = kept-high (224 + c / 4096) (omega arith) in
        let second = kept-high (next (c / 64)) (omega arith) in
        let third = kept-high (next c) (omega arith) in
        rw (three c more low, here, first, second, third) refl
    by (inr high) (inr _) (inr most) =
        let here = kept-high c high in
        let first = kept-high (240 + c / 262144) (omega arith) in
        let second = kept-high (next (c / 4096)) (omega arith) in
        let third = kept-high (next (c / 64)) (omega arith) in
        let fourth = kept-high (next c) (omega arith) in
        rw (four c most, here, first, second, third, fourth) refl

encodes-kept : (b : Bool) (c : ℕ) (cs : List ℕ) → cond b (encode c) [] ++ encodes cs ≡ encodes (cond b (c ∷ cs) cs)
encodes-kept true c cs = refl
encodes-kept false c cs = refl

pub filter-encodes : (cs : List ℕ) → filter is_kept (encodes cs) ≡ encodes (filter is_kept cs)
filter-encodes [] = refl
filter-encodes (c ∷ cs) =
    filter-append is_kept (encode c) (encodes cs) ∙ (λ i. filter-encode c i ++ filter-encodes cs i) ∙ encodes-kept (is_kept c) c (filter is_kept cs)
