-- Bytes are read as the same values wherever they end, and whatever follows them.
use Rattle.std.proofs.Common.{◌≡◌, ℕ, suc, ◌-◌, ◌/◌, ◌%◌, ◌^◌, ◌<◌, ◌≤◌, Bool, true, false, cond, ltb, eqb, List, [], ◌∷◌, ◌++◌, length, Result, Ok, Err, refl, sym, ap, subst, arith, length-append}
use Rattle.std.specs.Int.{Width, w32, w64, byte_len}
use Rattle.std.proofs.lemmas.Bool.{lt-ltb, le-ltb, ltb-true, ltb-false}
use Rattle.std.proofs.lemmas.List.{take-append-le, drop-append-le}
use Rattle.wire_format.specs.declared.fault.WireFault.{WireFault}
use Rattle.wire_format.specs.Faults.{offset}
use Rattle.wire_format.specs.Reading.{◌>>=◌}
use Rattle.wire_format.specs.Varints.{continued, varint, tag}
use Rattle.wire_format.specs.Tokens.{Value, Varint, I64, Len, Group, EndGroup, I32, Field, fixed, delimited, value, token}

-- a value without offsets
abbrev pub bare : Value → Value
bare (Varint n) = Varint n
bare (I64 n) = I64 n
bare (Len b at) = Len b 0
bare (Group at) = Group 0
bare (EndGroup at) = EndGroup 0
bare (I32 n) = I32 n

-- what is read at the front of bytes is read there too where others follow, which are then left
abbrev pub Follows : {A : Type 0} → (A → A → Type 0) → List ℕ → Result (A × List ℕ) WireFault → Result (A × List ℕ) WireFault → Type 0
Follows {A} S b (Ok x) r = (y : A) × ((r ≡ Ok (y, x.1 ++ b)) × S x.0 y)
Follows S b (Err f) r = Unit {0}

abbrev Same : {A : Type 0} → A → A → Type 0
Same x y = x ≡ y

follows_then : {A C : Type 0} (S : C → C → Type 0) (b : List ℕ) (r s : Result (A × List ℕ) WireFault) (f g : A × List ℕ → Result (C × List ℕ) WireFault) → Follows Same b r s
    → ((x : A) (rest : List ℕ) → Follows S b (f (x, rest)) (g (x, rest ++ b))) → Follows S b (r >>= f) (s >>= g)
follows_then {A} {C} S b (Ok x) s f g h k =
    let at : Follows S b (f x) (g (h.0, x.1 ++ b)) = subst (λ y. Follows S b (f x) (g (y, x.1 ++ b))) h.1.1 (k x.0 x.1) in
    subst (λ q. Follows S b (f x) (q >>= g)) (sym h.1.0) at
follows_then S b (Err e) s f g h k = tt

follows_if : {A : Type 0} (S : A → A → Type 0) (b : List ℕ) (c : Bool) (r s q : Result (A × List ℕ) WireFault) → (c ≡ true → Follows S b r q) → (c ≡ false → Follows S b s q) → Follows S b (cond c r s) q
follows_if S b true r s q h k = h refl
follows_if S b false r s q h k = k refl

follows_both : {A : Type 0} (S : A → A → Type 0) (b : List ℕ) (c : Bool) (r s p q : Result (A × List ℕ) WireFault) → Follows S b r p → Follows S b s q → Follows S b (cond c r s) (cond c p q)
follows_both S b true r s p q h k = h
follows_both S b false r s p q h k = k

counted : (c : Bool) (m k len : ℕ) → (m < len → k ≡ m) → cond c 0 (suc m) < suc len → cond c 0 (suc k) ≡ cond c 0 (suc m)
counted true m k len same h = refl
counted false m k len same h = ap suc (same (omega arith))

continued-append : (a b : List ℕ) → continued a < length a → continued (a ++ b) ≡ continued a
continued-append [] b h = absurd (omega arith)
continued-append (x ∷ xs) b h = counted (ltb x 128) (continued xs) (continued (xs ++ b)) (length xs) (continued-append xs b) h

varint-follows : (ends later : ℕ) (a b : List ℕ) → Follows Same b (varint ends a) (varint later (a ++ b))
unfolding varint
varint-follows ends later a b =
    let n = continued a in
    follows_if Same b (ltb 9 n) _ _ _ (λ _. tt) (λ few. follows_if Same b (ltb n (length a)) _ _ _ (λ inside.
    let lt : n < length a = ltb-true _ _ inside in
    let more : ltb n (length (a ++ b)) ≡ true = lt-ltb _ _ (omega (arith, lt, length-append a b)) in
    (_, (rw (continued-append a b lt, few, more, take-append-le (suc n) a b (omega (arith, lt)), drop-append-le (suc n) a b (omega (arith, lt))) refl, refl))) (λ _. tt))

tag-follows : (ends later : ℕ) (a b : List ℕ) → Follows Same b (tag ends a) (tag later (a ++ b))
unfolding tag
tag-follows ends later a b =
    follows_then Same b (varint ends a) (varint later (a ++ b)) _ _ (varint-follows ends later a b) (λ n rest.
    let same : length (a ++ b) - length (rest ++ b) ≡ length a - length rest = omega (arith, length-append a b, length-append rest b) in
    follows_both Same b (ltb n (2 ^ 32)) _ _ _ _ (rw same (follows_both Same b (ltb 5 (length a - length rest)) _ _ _ _ tt (follows_both Same b (ltb n 8) _ _ _ _ tt (n, (refl, refl))))) tt)

fixed-follows : (w : Width) (ends later : ℕ) (a b : List ℕ) → Follows Same b (fixed w ends a) (fixed w later (a ++ b))
unfolding fixed
fixed-follows w ends later a b =
    let k = byte_len w in
    follows_if Same b (ltb (length a) k) _ _ _ (λ _. tt) (λ long.
    let le : k ≤ length a = ltb-false _ _ long in
    let more : ltb (length (a ++ b)) k ≡ false = le-ltb _ _ (omega (arith, le, length-append a b)) in
    (_, (rw (more, take-append-le k a b le, drop-append-le k a b le) refl, refl)))

delimited-follows : (ends later : ℕ) (a b : List ℕ) → Follows Same b (delimited ends a) (delimited later (a ++ b))
unfolding delimited
delimited-follows ends later a b =
    follows_then Same b (varint ends a) (varint later (a ++ b)) _ _ (varint-follows ends later a b) (λ n rest. follows_if Same b (ltb (length rest) n) _ _ _ (λ _. tt) (λ long.
    let le : n ≤ length rest = ltb-false _ _ long in
    let more : ltb (length (rest ++ b)) n ≡ false = le-ltb _ _ (omega (arith, le, length-append rest b)) in
    (_, (rw (more, take-append-le n rest b le, drop-append-le n rest b le) refl, refl))))

abbrev SameBare : Value → Value → Type 0
SameBare v w = bare v ≡ bare w

value-follows : (wire_type at then ends later : ℕ) (a b : List ℕ) → Follows SameBare b (value wire_type at ends a) (value wire_type then later (a ++ b))
unfolding value
value-follows wire_type at then ends later a b =
    follows_both SameBare b (eqb wire_type 0) _ _ _ _ (follows_then SameBare b (varint ends a) (varint later (a ++ b)) _ _ (varint-follows ends later a b) (λ n rest. (Varint n, (refl, refl)))) (
    follows_both SameBare b (eqb wire_type 1) _ _ _ _ (follows_then SameBare b (fixed w64 ends a) (fixed w64 later (a ++ b)) _ _ (fixed-follows w64 ends later a b) (λ n rest. (I64 n, (refl, refl)))) (
    follows_both SameBare b (eqb wire_type 2) _ _ _ _ (follows_then SameBare b (delimited ends a) (delimited later (a ++ b)) _ _ (delimited-follows ends later a b) (λ p rest. (Len p (offset later (rest ++ b)), (refl, refl)))) (
    follows_both SameBare b (eqb wire_type 3) _ _ _ _ (Group then, (refl, refl)) (
    follows_both SameBare b (eqb wire_type 4) _ _ _ _ (EndGroup then, (refl, refl)) (
    follows_both SameBare b (eqb wire_type 5) _ _ _ _ (follows_then SameBare b (fixed w32 ends a) (fixed w32 later (a ++ b)) _ _ (fixed-follows w32 ends later a b) (λ n rest. (I32 n, (refl, refl)))) tt)))))

-- the same for a numbered value
abbrev pub SameField : Field → Field → Type 0
SameField f g = (f.number ≡ g.number) × (bare f.value ≡ bare g.value)

numbered : (n : ℕ) (b : List ℕ) (r s : Result (Value × List ℕ) WireFault) → Follows SameBare b r s
    → Follows SameField b (r >>= λ v. Ok (record { number = n; value = v.0 }, v.1)) (s >>= λ v. Ok (record { number = n; value = v.0 }, v.1))
numbered n b (Ok x) s h = (record { number = n; value = h.0 }, (ap (λ (q : Result (Value × List ℕ) WireFault). q >>= λ v. Ok (record { number = n; value = v.0 }, v.1)) h.1.0, (refl, h.1.1)))
numbered n b (Err e) s h = tt

pub token-follows : (ends later : ℕ) (a b : List ℕ) → Follows SameField b (token ends a) (token later (a ++ b))
unfolding token
token-follows ends later a b =
    follows_then SameField b (tag ends a) (tag later (a ++ b)) _ _ (tag-follows ends later a b) (λ n rest.
    numbered (n / 8) b (value (n % 8) (offset ends a) ends rest) (value (n % 8) (offset later (a ++ b)) later (rest ++ b)) (value-follows (n % 8) (offset ends a) (offset later (a ++ b)) ends later rest b))
