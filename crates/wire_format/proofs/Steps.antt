-- Tokens one after the other.
use Rattle.std.proofs.Common.{◌≡◌, ℕ, zero, suc, ◌<◌, ◌≤◌, List, [], ◌∷◌, length, true, false, eqb, eq-eqb, Result, Ok, Err, refl, ap, ◌∙◌, arith}
use Rattle.std.proofs.lemmas.Bool.{eqb-true, ne_eqb}
use Rattle.wire_format.specs.declared.fault.WireFaultKind.TheVariants as kind
use Rattle.wire_format.specs.declared.fault.WireFault.{WireFault}
use Rattle.wire_format.specs.declared.tokens.Value as code_value
use Rattle.wire_format.specs.declared.tokens.Value.TheVariants as variant
use Rattle.wire_format.specs.Tokens.{Field, value_seen, token}
use Rattle.wire_format.specs.Fields.{Fields, End, Broken, Then, in_front, first_tokens, tokens, deeper, fields_within}
use Rattle.wire_format.proofs.Shorter.{if_read, token-shorter}

both : (r : Result (Field × List ℕ) WireFault) (f g : List ℕ → Fields) → ((x : Field × List ℕ) → r ≡ Ok x → f x.1 ≡ g x.1) → in_front r f ≡ in_front r g
both (Ok x) f g h = ap (Then x.0.number x.0.value) (h x refl)
both (Err e) f g h = refl

enough : (n m ends : ℕ) (bytes : List ℕ) → length bytes ≤ n → length bytes ≤ m → first_tokens n ends bytes ≡ first_tokens m ends bytes
unfolding first_tokens
enough n m ends [] h k = refl
enough zero m ends (b ∷ bytes) h k = absurd (omega arith)
enough (suc n) zero ends (b ∷ bytes) h k = absurd (omega arith)
enough (suc n) (suc m) ends (b ∷ bytes) h k =
    both (token ends (b ∷ bytes)) (first_tokens n ends) (first_tokens m ends)
    (λ x e. let lt = if_read (token ends (b ∷ bytes)) (λ (y : Field × List ℕ). length y.1 < suc (length bytes)) x e (token-shorter ends (b ∷ bytes)) in enough n m ends x.1 (omega (arith, lt)) (omega (arith, lt)))

pub shorter : (ends : ℕ) (bytes : List ℕ) (f : Field) (rest : List ℕ) → token ends bytes ≡ Ok (f, rest) → length rest < length bytes
shorter ends bytes f rest e = if_read (token ends bytes) (λ (y : Field × List ℕ). length y.1 < length bytes) (f, rest) e (token-shorter ends bytes)

pub tokens-more : (ends : ℕ) (bytes : List ℕ) (f : Field) (rest : List ℕ) → token ends bytes ≡ Ok (f, rest) → tokens ends bytes ≡ Then f.number f.value (tokens ends rest)
unfolding first_tokens
tokens-more ends [] f rest e = absurd (omega (arith, shorter ends [] f rest e))
tokens-more ends (b ∷ bytes) f rest e =
    let lt = shorter ends (b ∷ bytes) f rest e in
    ap (λ r. in_front r (first_tokens (length bytes) ends)) e ∙ ap (Then f.number f.value) (enough (length bytes) (length rest) ends rest (omega (arith, lt)) (omega arith))

pub tokens-none : (ends : ℕ) (bytes : List ℕ) → eqb (length bytes) 0 ≡ true → tokens ends bytes ≡ End
unfolding first_tokens
tokens-none ends [] e = refl
tokens-none ends (b ∷ bytes) e = absurd (omega (arith, eqb-true (suc (length bytes)) 0 e))

pub tokens-broken : (ends : ℕ) (bytes : List ℕ) (f : WireFault) → eqb (length bytes) 0 ≡ false → token ends bytes ≡ Err f → tokens ends bytes ≡ Broken f
unfolding first_tokens
tokens-broken ends [] f some e = absurd cc
tokens-broken ends (b ∷ bytes) f some e = ap (λ r. in_front r (first_tokens (length bytes) ends)) e

-- ---- groups

-- a token that is no beginning or end of a group
pub record IsPlain (v : code_value.Value) : Type 0 where
  pub no_group : (at : ℕ) → v ≡ variant.Group at → ⊥
  pub no_end : (at : ℕ) → v ≡ variant.EndGroup at → ⊥

plain-within : (levels ends m n : ℕ) (outer : List ℕ) (v : code_value.Value) (ts : Fields) → IsPlain v → fields_within levels ends (m ∷ outer) (Then n (value_seen v) ts) ≡ fields_within levels ends (m ∷ outer) ts
unfolding fields_within
plain-within levels ends m n outer (variant.Varint x) ts h = refl
plain-within levels ends m n outer (variant.I64 x) ts h = refl
plain-within levels ends m n outer (variant.Len x e) ts h = refl
plain-within levels ends m n outer (variant.Group at) ts h = absurd (h.no_group at refl)
plain-within levels ends m n outer (variant.EndGroup at) ts h = absurd (h.no_end at refl)
plain-within levels ends m n outer (variant.I32 x) ts h = refl

plain : (levels ends n : ℕ) (v : code_value.Value) (ts : Fields) → IsPlain v → fields_within levels ends [] (Then n (value_seen v) ts) ≡ Then n (value_seen v) (fields_within levels ends [] ts)
unfolding fields_within
plain levels ends n (variant.Varint x) ts h = refl
plain levels ends n (variant.I64 x) ts h = refl
plain levels ends n (variant.Len x e) ts h = refl
plain levels ends n (variant.Group at) ts h = absurd (h.no_group at refl)
plain levels ends n (variant.EndGroup at) ts h = absurd (h.no_end at refl)
plain levels ends n (variant.I32 x) ts h = refl

-- what each kind of token in front does
pub begins : (levels ends n at : ℕ) (outer : List ℕ) (v : code_value.Value) (ts more : Fields) → v ≡ variant.Group at → ts ≡ Then n (value_seen v) more
    → fields_within levels ends outer ts ≡ deeper levels at (λ left. fields_within left ends (n ∷ outer) more)
unfolding fields_within
begins levels ends n at outer v ts more e h = rw (h, e) refl

pub goes_on : (levels ends m n : ℕ) (outer : List ℕ) (v : code_value.Value) (ts more : Fields) → IsPlain v → ts ≡ Then n (value_seen v) more → fields_within levels ends (m ∷ outer) ts ≡ fields_within levels ends (m ∷ outer) more
goes_on levels ends m n outer v ts more p h = ap (fields_within levels ends (m ∷ outer)) h ∙ plain-within levels ends m n outer v more p

pub group-ends : (levels ends m n at : ℕ) (outer : List ℕ) (v : code_value.Value) (ts more : Fields) → v ≡ variant.EndGroup at → n ≡ m → ts ≡ Then n (value_seen v) more → fields_within levels ends (m ∷ outer) ts ≡ fields_within (suc levels) ends outer more
unfolding fields_within
group-ends levels ends m n at outer v ts more e same h = rw (h, e, eq-eqb n m same) refl

pub other-ends : (levels ends m n at : ℕ) (outer : List ℕ) (v : code_value.Value) (ts more : Fields) → v ≡ variant.EndGroup at → (n ≡ m → ⊥) → ts ≡ Then n (value_seen v) more → fields_within levels ends (m ∷ outer) ts ≡ Broken (record { kind = kind.EndGroup; at = at })
unfolding fields_within
other-ends levels ends m n at outer v ts more e other h = rw (h, e, ne_eqb n m other) refl

pub unfinished : (levels ends m : ℕ) (outer : List ℕ) (ts : Fields) → ts ≡ End → fields_within levels ends (m ∷ outer) ts ≡ Broken (record { kind = kind.Truncated; at = ends })
unfolding fields_within
unfinished levels ends m outer ts h = rw h refl

pub breaks : (levels ends : ℕ) (outer : List ℕ) (ts : Fields) (f : WireFault) → ts ≡ Broken f → fields_within levels ends outer ts ≡ Broken f
unfolding fields_within
breaks levels ends outer ts f h = rw h refl

-- a level further in
pub level : (levels left at : ℕ) (inner : ℕ → Fields) → levels ≡ suc left → deeper levels at inner ≡ inner left
level levels left at inner e = rw e refl

pub no_level : (levels at : ℕ) (inner : ℕ → Fields) → levels ≡ 0 → deeper levels at inner ≡ Broken (record { kind = kind.TooDeep; at = at })
no_level levels at inner e = rw e refl

-- outside groups
pub first-end : (levels ends n at : ℕ) (v : code_value.Value) (ts more : Fields) → v ≡ variant.EndGroup at → ts ≡ Then n (value_seen v) more → fields_within levels ends [] ts ≡ Broken (record { kind = kind.EndGroup; at = at })
unfolding fields_within
first-end levels ends n at v ts more e h = rw (h, e) refl

pub first-plain : (levels ends n : ℕ) (v : code_value.Value) (ts more : Fields) → IsPlain v → ts ≡ Then n (value_seen v) more → fields_within levels ends [] ts ≡ Then n (value_seen v) (fields_within levels ends [] more)
first-plain levels ends n v ts more p h = ap (fields_within levels ends []) h ∙ plain levels ends n v more p

pub first-none : (levels ends : ℕ) (ts : Fields) → ts ≡ End → fields_within levels ends [] ts ≡ End
unfolding fields_within
first-none levels ends ts h = rw h refl
