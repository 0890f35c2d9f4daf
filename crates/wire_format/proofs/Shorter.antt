-- What is read gets shorter.
use Rattle.std.proofs.Common.{◌≡◌, ℕ, suc, ◌-◌, ◌%◌, ◌^◌, ◌<◌, ◌≤◌, Bool, true, false, cond, ltb, eqb, List, length, Result, Ok, Err, refl, subst, arith, length-drop}
use Rattle.std.specs.Int.{Width, w32, w64, byte_len}
use Rattle.std.proofs.lemmas.Bool.{ltb-true}
use Rattle.wire_format.specs.declared.fault.WireFault.{WireFault}
use Rattle.wire_format.specs.Faults.{offset}
use Rattle.wire_format.specs.Reading.{◌>>=◌}
use Rattle.wire_format.specs.Varints.{continued, varint, tag}
use Rattle.wire_format.specs.Tokens.{fixed, delimited, value, token}

-- a property of what is read, if it is read
abbrev pub IfRead : {A : Type 0} → Result A WireFault → (A → Type 0) → Type 0
IfRead (Ok x) P = P x
IfRead (Err f) P = Unit {0}

pub if_read : {A : Type 0} (r : Result A WireFault) (P : A → Type 0) (x : A) → r ≡ Ok x → IfRead r P → P x
if_read (Ok y) P x e h = let same : y ≡ x = cc in subst P same h
if_read (Err f) P x e h = absurd cc

read_then : {A B : Type 0} (r : Result A WireFault) (f : A → Result B WireFault) (P : A → Type 0) (Q : B → Type 0) → IfRead r P → ((x : A) → P x → IfRead (f x) Q) → IfRead (r >>= f) Q
read_then (Ok x) f P Q h k = k x h
read_then (Err e) f P Q h k = tt

chosen : {A : Type 0} (b : Bool) (r s : Result A WireFault) (P : A → Type 0) → (b ≡ true → IfRead r P) → (b ≡ false → IfRead s P) → IfRead (cond b r s) P
chosen true r s P h k = h refl
chosen false r s P h k = k refl

abbrev Shorter : {A : Type 0} → List ℕ → A × List ℕ → Type 0
Shorter bytes x = length x.1 < length bytes

abbrev NoLonger : {A : Type 0} → List ℕ → A × List ℕ → Type 0
NoLonger bytes x = length x.1 ≤ length bytes

pub varint-shorter : (ends : ℕ) (bytes : List ℕ) → IfRead (varint ends bytes) (Shorter bytes)
unfolding varint
varint-shorter ends bytes =
    let n = continued bytes in
    chosen (ltb 9 n) _ _ (Shorter bytes) (λ _. tt) (λ _. chosen (ltb n (length bytes)) _ _ (Shorter bytes) (λ e. let lt : n < length bytes = ltb-true _ _ e in omega (arith, length-drop (suc n) bytes)) (λ _. tt))

tag-shorter : (ends : ℕ) (bytes : List ℕ) → IfRead (tag ends bytes) (Shorter bytes)
unfolding tag
tag-shorter ends bytes =
    read_then (varint ends bytes) _ (Shorter bytes) (Shorter bytes) (varint-shorter ends bytes)
    (λ n h. chosen (ltb n.0 (2 ^ 32)) _ _ (Shorter bytes) (λ _. chosen (ltb 5 (length bytes - length n.1)) _ _ (Shorter bytes) (λ _. tt)
    (λ _. chosen (ltb n.0 8) _ _ (Shorter bytes) (λ _. tt) (λ _. h))) (λ _. tt))

fixed-shorter : (w : Width) (ends : ℕ) (bytes : List ℕ) → IfRead (fixed w ends bytes) (NoLonger bytes)
unfolding fixed
fixed-shorter w ends bytes = chosen (ltb (length bytes) (byte_len w)) _ _ (NoLonger bytes) (λ _. tt) (λ _. omega (arith, length-drop (byte_len w) bytes))

delimited-shorter : (ends : ℕ) (bytes : List ℕ) → IfRead (delimited ends bytes) (NoLonger bytes)
unfolding delimited
delimited-shorter ends bytes =
    read_then (varint ends bytes) _ (Shorter bytes) (NoLonger bytes) (varint-shorter ends bytes)
    (λ n h. chosen (ltb (length n.1) n.0) _ _ (NoLonger bytes) (λ _. tt) (λ _. omega (arith, h, length-drop n.0 n.1)))

value-shorter : (wire_type at ends : ℕ) (bytes : List ℕ) → IfRead (value wire_type at ends bytes) (NoLonger bytes)
unfolding value
value-shorter wire_type at ends bytes =
    chosen (eqb wire_type 0) _ _ (NoLonger bytes) (λ _. read_then (varint ends bytes) _ (Shorter bytes) (NoLonger bytes) (varint-shorter ends bytes) (λ n h. omega (arith, h)))
    (λ _. chosen (eqb wire_type 1) _ _ (NoLonger bytes) (λ _. read_then (fixed w64 ends bytes) _ (NoLonger bytes) (NoLonger bytes) (fixed-shorter w64 ends bytes) (λ n h. h))
    (λ _. chosen (eqb wire_type 2) _ _ (NoLonger bytes) (λ _. read_then (delimited ends bytes) _ (NoLonger bytes) (NoLonger bytes) (delimited-shorter ends bytes) (λ n h. h))
    (λ _. chosen (eqb wire_type 3) _ _ (NoLonger bytes) (λ _. omega arith)
    (λ _. chosen (eqb wire_type 4) _ _ (NoLonger bytes) (λ _. omega arith)
    (λ _. chosen (eqb wire_type 5) _ _ (NoLonger bytes) (λ _. read_then (fixed w32 ends bytes) _ (NoLonger bytes) (NoLonger bytes) (fixed-shorter w32 ends bytes) (λ n h. h)) (λ _. tt))))))

pub token-shorter : (ends : ℕ) (bytes : List ℕ) → IfRead (token ends bytes) (Shorter bytes)
unfolding token
token-shorter ends bytes =
    read_then (tag ends bytes) _ (Shorter bytes) (Shorter bytes) (tag-shorter ends bytes)
    (λ n h. read_then (value (n.0 % 8) (offset ends bytes) ends n.1) _ (NoLonger n.1) (Shorter bytes) (value-shorter _ _ ends n.1) (λ v k. omega (arith, h, k)))
