-- Fields without offsets: those of bytes one behind the other, wherever they end.
use Rattle.std.proofs.Common.{◌≡◌, ℕ, zero, suc, ◌+◌, ◌<◌, ◌≤◌, Bool, true, false, cond, eqb, List, [], ◌∷◌, ◌++◌, length, Result, Ok, Err, refl, sym, ap, subst, ◌∙◌, arith}
use Rattle.std.proofs.lemmas.Bool.{ne_eqb}
use Rattle.std.proofs.lemmas.List.{append-nil}
use Rattle.wire_format.specs.declared.fault.WireFault.{WireFault}
use Rattle.wire_format.specs.declared.fault.WireFaultKind.TheVariants.{Truncated}
use Rattle.wire_format.specs.Reading.{◌>>=◌}
use Rattle.wire_format.specs.Tokens.{Value, Varint, I64, Len, Group, EndGroup, I32, Field, token}
use Rattle.wire_format.specs.Fields.{Fields, End, Broken, Then, first_tokens, tokens, deeper, fields_within, fields}
use Rattle.wire_format.proofs.Steps.{shorter, tokens-more, tokens-broken}
use Rattle.descriptor_decoding.specs.Merging.{Merge, merged_all}
use Rattle.descriptor_encoding.proofs.Local.{bare, Follows, SameField, token-follows}

-- fields that do not break off
abbrev pub Unbroken : Fields → Type 0
Unbroken End = Unit {0}
Unbroken (Broken f) = ⊥
Unbroken (Then n v fs) = Unbroken fs

-- fields without offsets
abbrev pub bared : Fields → Fields
bared End = End
bared (Broken f) = Broken (record { kind = Truncated; at = 0 })
bared (Then n v fs) = Then n (bare v) (bared fs)

-- fields, and then others
abbrev pub joined : Fields → Fields → Fields
joined End gs = gs
joined (Broken f) gs = Broken f
joined (Then n v fs) gs = Then n v (joined fs gs)

unbroken-bared : (fs : Fields) → Unbroken fs → Unbroken (bared fs)
unbroken-bared End h = tt
unbroken-bared (Broken f) h = h
unbroken-bared (Then n v fs) h = unbroken-bared fs h

bared-unbroken : (fs : Fields) → Unbroken (bared fs) → Unbroken fs
bared-unbroken End h = tt
bared-unbroken (Broken f) h = h
bared-unbroken (Then n v fs) h = bared-unbroken fs h

joined-unbroken : (fs gs : Fields) → Unbroken fs → Unbroken gs → Unbroken (joined fs gs)
joined-unbroken End gs h k = k
joined-unbroken (Broken f) gs h k = absurd h
joined-unbroken (Then n v fs) gs h k = joined-unbroken fs gs h k

bared-joined : (fs gs : Fields) → bared (joined fs gs) ≡ joined (bared fs) (bared gs)
bared-joined End gs = refl
bared-joined (Broken f) gs = refl
bared-joined (Then n v fs) gs = ap (Then n (bare v)) (bared-joined fs gs)

joined-end : (fs : Fields) → joined fs End ≡ fs
joined-end End = refl
joined-end (Broken f) = refl
joined-end (Then n v fs) = ap (Then n v) (joined-end fs)

-- ---- tokens

tokens-none : (ends : ℕ) → tokens ends [] ≡ End
unfolding first_tokens
tokens-none ends = refl

one-joined : (ends later : ℕ) (x : ℕ) (xs b : List ℕ) (r : Result (Field × List ℕ) WireFault) → token ends (x ∷ xs) ≡ r → Follows SameField b r (token later ((x ∷ xs) ++ b)) → Unbroken (tokens ends (x ∷ xs))
    → ((rest : List ℕ) → length rest < suc (length xs) → Unbroken (tokens ends rest) → bared (tokens later (rest ++ b)) ≡ joined (bared (tokens ends rest)) (bared (tokens later b)))
    → bared (tokens later ((x ∷ xs) ++ b)) ≡ joined (bared (tokens ends (x ∷ xs))) (bared (tokens later b))
one-joined ends later x xs b (Ok (f, rest)) e h whole others =
    let g = h.0 in
    let first = tokens-more ends (x ∷ xs) f rest e in
    let second = tokens-more later ((x ∷ xs) ++ b) g (rest ++ b) h.1.0 in
    let more = others rest (shorter ends (x ∷ xs) f rest e) (subst Unbroken first whole) in
    ap bared second
    ∙ ap (λ (n : ℕ). Then n (bare g.value) (bared (tokens later (rest ++ b)))) (sym h.1.1.0)
    ∙ ap (λ (v : Value). Then f.number v (bared (tokens later (rest ++ b)))) (sym h.1.1.1)
    ∙ ap (Then f.number (bare f.value)) more
    ∙ ap (λ (fs : Fields). joined (bared fs) (bared (tokens later b))) (sym first)
one-joined ends later x xs b (Err f) e h whole others = absurd (subst Unbroken (tokens-broken ends (x ∷ xs) f (ne_eqb (suc (length xs)) 0 (λ z. omega (arith, z))) e) whole)

tokens-joined : (k ends later : ℕ) (a b : List ℕ) → length a ≤ k → Unbroken (tokens ends a) → bared (tokens later (a ++ b)) ≡ joined (bared (tokens ends a)) (bared (tokens later b))
tokens-joined k ends later [] b short whole = ap (λ (fs : Fields). joined (bared fs) (bared (tokens later b))) (sym (tokens-none ends))
tokens-joined zero ends later (x ∷ xs) b short whole = absurd (omega arith)
tokens-joined (suc k) ends later (x ∷ xs) b short whole =
    one-joined ends later x xs b (token ends (x ∷ xs)) refl (token-follows ends later (x ∷ xs) b) whole (λ rest less unbroken. tokens-joined k ends later rest b (omega (arith, less)) unbroken)

-- ---- groups

bared-if : (c : Bool) (r s p q : Fields) → bared r ≡ bared p → bared s ≡ bared q → bared (cond c r s) ≡ bared (cond c p q)
bared-if true r s p q h k = h
bared-if false r s p q h k = k

deeper-bared : (levels at then : ℕ) (f g : ℕ → Fields) → ((left : ℕ) → bared (f left) ≡ bared (g left)) → bared (deeper levels at f) ≡ bared (deeper levels then g)
deeper-bared zero at then f g h = refl
deeper-bared (suc levels) at then f g h = h levels

within-bared : (levels ends : ℕ) (outer : List ℕ) (ts : Fields) → bared (fields_within levels ends outer ts) ≡ bared (fields_within levels 0 outer (bared ts))
unfolding fields_within
within-bared levels ends [] End = refl
within-bared levels ends (m ∷ outer) End = refl
within-bared levels ends outer (Broken f) = refl
within-bared levels ends outer (Then n (Group at) ts) = deeper-bared levels at 0 (λ left. fields_within left ends (n ∷ outer) ts) (λ left. fields_within left 0 (n ∷ outer) (bared ts)) (λ left. within-bared left ends (n ∷ outer) ts)
within-bared levels ends [] (Then n (Varint x) ts) = ap (Then n (Varint x)) (within-bared levels ends [] ts)
within-bared levels ends [] (Then n (I64 x) ts) = ap (Then n (I64 x)) (within-bared levels ends [] ts)
within-bared levels ends [] (Then n (Len x at) ts) = ap (Then n (Len x 0)) (within-bared levels ends [] ts)
within-bared levels ends [] (Then n (EndGroup at) ts) = refl
within-bared levels ends [] (Then n (I32 x) ts) = ap (Then n (I32 x)) (within-bared levels ends [] ts)
within-bared levels ends (m ∷ outer) (Then n (Varint x) ts) = within-bared levels ends (m ∷ outer) ts
within-bared levels ends (m ∷ outer) (Then n (I64 x) ts) = within-bared levels ends (m ∷ outer) ts
within-bared levels ends (m ∷ outer) (Then n (Len x at) ts) = within-bared levels ends (m ∷ outer) ts
within-bared levels ends (m ∷ outer) (Then n (EndGroup at) ts) = bared-if (eqb n m) _ _ _ _ (within-bared (suc levels) ends outer ts) refl
within-bared levels ends (m ∷ outer) (Then n (I32 x) ts) = within-bared levels ends (m ∷ outer) ts

joined-if : (c : Bool) (r s p : Fields) (f : WireFault) (us : Fields) → (Unbroken r → p ≡ joined r us) → Unbroken (cond c r (Broken f)) → cond c p (Broken f) ≡ joined (cond c r (Broken f)) us
joined-if true r s p f us h whole = h whole
joined-if false r s p f us h whole = absurd whole

deeper-joined : (levels at : ℕ) (f g : ℕ → Fields) (us : Fields) → ((left : ℕ) → levels ≡ suc left → Unbroken (f left) → g left ≡ joined (f left) us) → Unbroken (deeper levels at f) → deeper levels at g ≡ joined (deeper levels at f) us
deeper-joined zero at f g us h whole = absurd whole
deeper-joined (suc levels) at f g us h whole = h levels refl whole

-- all levels are left again behind tokens that do not break off
within-joined : (all levels : ℕ) (outer : List ℕ) (ts us : Fields) → all ≡ length outer + levels → Unbroken (fields_within levels 0 outer ts) → fields_within levels 0 outer (joined ts us) ≡ joined (fields_within levels 0 outer ts) (fields_within all 0 [] us)
unfolding fields_within
within-joined all levels [] End us e h = ap (λ (l : ℕ). fields_within l 0 [] us) (omega (arith, e))
within-joined all levels (m ∷ outer) End us e h = absurd h
within-joined all levels outer (Broken f) us e h = absurd h
within-joined all levels outer (Then n (Group at) ts) us e h =
    deeper-joined levels at (λ left. fields_within left 0 (n ∷ outer) ts) (λ left. fields_within left 0 (n ∷ outer) (joined ts us)) (fields_within all 0 [] us) (λ left is. within-joined all left (n ∷ outer) ts us (omega (arith, e, is))) h
within-joined all levels [] (Then n (Varint x) ts) us e h = ap (Then n (Varint x)) (within-joined all levels [] ts us e h)
within-joined all levels [] (Then n (I64 x) ts) us e h = ap (Then n (I64 x)) (within-joined all levels [] ts us e h)
within-joined all levels [] (Then n (Len x at) ts) us e h = ap (Then n (Len x at)) (within-joined all levels [] ts us e h)
within-joined all levels [] (Then n (EndGroup at) ts) us e h = absurd h
within-joined all levels [] (Then n (I32 x) ts) us e h = ap (Then n (I32 x)) (within-joined all levels [] ts us e h)
within-joined all levels (m ∷ outer) (Then n (Varint x) ts) us e h = within-joined all levels (m ∷ outer) ts us e h
within-joined all levels (m ∷ outer) (Then n (I64 x) ts) us e h = within-joined all levels (m ∷ outer) ts us e h
within-joined all levels (m ∷ outer) (Then n (Len x at) ts) us e h = within-joined all levels (m ∷ outer) ts us e h
within-joined all levels (m ∷ outer) (Then n (EndGroup at) ts) us e h = joined-if (eqb n m) (fields_within (suc levels) 0 outer ts) End (fields_within (suc levels) 0 outer (joined ts us)) _ _ (λ k. within-joined all (suc levels) outer ts us (omega (arith, e)) k) h
within-joined all levels (m ∷ outer) (Then n (I32 x) ts) us e h = within-joined all levels (m ∷ outer) ts us e h

unbroken-if : (c : Bool) (r : Fields) (f : WireFault) → Unbroken (cond c r (Broken f)) → Unbroken r
unbroken-if true r f h = h
unbroken-if false r f h = absurd h

deeper-unbroken : (levels at : ℕ) (f : ℕ → Fields) (ts : Fields) → ((left : ℕ) → Unbroken (f left) → Unbroken ts) → Unbroken (deeper levels at f) → Unbroken ts
deeper-unbroken zero at f ts h whole = absurd whole
deeper-unbroken (suc levels) at f ts h whole = h levels whole

-- tokens whose fields do not break off do not either
within-unbroken : (levels ends : ℕ) (outer : List ℕ) (ts : Fields) → Unbroken (fields_within levels ends outer ts) → Unbroken ts
unfolding fields_within
within-unbroken levels ends outer End h = tt
within-unbroken levels ends outer (Broken f) h = h
within-unbroken levels ends outer (Then n (Group at) ts) h = deeper-unbroken levels at (λ left. fields_within left ends (n ∷ outer) ts) ts (λ left k. within-unbroken left ends (n ∷ outer) ts k) h
within-unbroken levels ends [] (Then n (Varint x) ts) h = within-unbroken levels ends [] ts h
within-unbroken levels ends [] (Then n (I64 x) ts) h = within-unbroken levels ends [] ts h
within-unbroken levels ends [] (Then n (Len x at) ts) h = within-unbroken levels ends [] ts h
within-unbroken levels ends [] (Then n (EndGroup at) ts) h = absurd h
within-unbroken levels ends [] (Then n (I32 x) ts) h = within-unbroken levels ends [] ts h
within-unbroken levels ends (m ∷ outer) (Then n (Varint x) ts) h = within-unbroken levels ends (m ∷ outer) ts h
within-unbroken levels ends (m ∷ outer) (Then n (I64 x) ts) h = within-unbroken levels ends (m ∷ outer) ts h
within-unbroken levels ends (m ∷ outer) (Then n (Len x at) ts) h = within-unbroken levels ends (m ∷ outer) ts h
within-unbroken levels ends (m ∷ outer) (Then n (EndGroup at) ts) h = within-unbroken (suc levels) ends outer ts (unbroken-if (eqb n m) (fields_within (suc levels) ends outer ts) _ h)
within-unbroken levels ends (m ∷ outer) (Then n (I32 x) ts) h = within-unbroken levels ends (m ∷ outer) ts h

-- ---- fields

pub fields-joined : (levels ends later : ℕ) (a b : List ℕ) → Unbroken (fields levels ends a) → bared (fields levels later (a ++ b)) ≡ joined (bared (fields levels ends a)) (bared (fields levels later b))
fields-joined levels ends later a b whole =
    let ts = bared (tokens ends a) in
    let us = bared (tokens later b) in
    let one : bared (fields levels ends a) ≡ bared (fields_within levels 0 [] ts) = within-bared levels ends [] (tokens ends a) in
    let two : bared (fields levels later b) ≡ bared (fields_within levels 0 [] us) = within-bared levels later [] (tokens later b) in
    let kept : Unbroken (fields_within levels 0 [] ts) = bared-unbroken (fields_within levels 0 [] ts) (subst Unbroken one (unbroken-bared (fields levels ends a) whole)) in
    within-bared levels later [] (tokens later (a ++ b))
    ∙ ap (λ (fs : Fields). bared (fields_within levels 0 [] fs)) (tokens-joined (length a) ends later a b (omega arith) (within-unbroken levels ends [] (tokens ends a) whole))
    ∙ ap bared (within-joined levels levels [] ts us (omega arith) kept)
    ∙ bared-joined (fields_within levels 0 [] ts) (fields_within levels 0 [] us)
    ∙ ap (λ (fs : Fields). joined fs (bared (fields_within levels 0 [] us))) (sym one)
    ∙ ap (λ (fs : Fields). joined (bared (fields levels ends a)) fs) (sym two)

none : (levels ends : ℕ) → fields levels ends [] ≡ End
unfolding first_tokens fields_within
none levels ends = refl

-- wherever they end
fields-same : (levels ends later : ℕ) (b : List ℕ) → Unbroken (fields levels ends b) → bared (fields levels later b) ≡ bared (fields levels ends b)
fields-same levels ends later b whole =
    ap (λ (bs : List ℕ). bared (fields levels later bs)) (sym (append-nil b))
    ∙ fields-joined levels ends later b [] whole
    ∙ ap (λ (fs : Fields). joined (bared (fields levels ends b)) (bared fs)) (none levels later)
    ∙ joined-end (bared (fields levels ends b))

-- ---- merging that does not look at offsets

abbrev pub IsBlind : {M : Type 0} → Merge M → Type 0
IsBlind {M} merge = (n : ℕ) (v : Value) (m : M) → merge n (bare v) m ≡ merge n v m

then-same : {A B : Type 0} (r : Result A WireFault) (f g : A → Result B WireFault) → ((x : A) → f x ≡ g x) → (r >>= f) ≡ (r >>= g)
then-same (Ok x) f g h = h x
then-same (Err e) f g h = refl

then-then : {A B C : Type 0} (r : Result A WireFault) (f : A → Result B WireFault) (g : B → Result C WireFault) → (r >>= λ x. f x >>= g) ≡ ((r >>= f) >>= g)
then-then (Ok x) f g = refl
then-then (Err e) f g = refl

blind : {M : Type 0} (merge : Merge M) → IsBlind merge → (fs : Fields) (m : M) → Unbroken fs → merged_all merge (bared fs) m ≡ merged_all merge fs m
blind merge b End m h = refl
blind merge b (Broken f) m h = absurd h
blind merge b (Then n v fs) m h =
    ap (λ r. r >>= merged_all merge (bared fs)) (b n v m) ∙ then-same (merge n v m) (merged_all merge (bared fs)) (merged_all merge fs) (λ x. blind merge b fs x h)

merged-joined : {M : Type 0} (merge : Merge M) (fs gs : Fields) (m : M) → merged_all merge (joined fs gs) m ≡ (merged_all merge fs m >>= merged_all merge gs)
merged-joined merge End gs m = refl
merged-joined merge (Broken f) gs m = refl
merged-joined merge (Then n v fs) gs m =
    then-same (merge n v m) (merged_all merge (joined fs gs)) (λ x. merged_all merge fs x >>= merged_all merge gs) (λ x. merged-joined merge fs gs x)
    ∙ then-then (merge n v m) (merged_all merge fs) (merged_all merge gs)

read-then : {A B : Type 0} (P : Type 0) (r : Result A WireFault) (f : A → Result B WireFault) (y : B) → ((x : A) → f x ≡ Ok y → P) → (r >>= f) ≡ Ok y → P
read-then P (Ok x) f y h e = h x e
read-then P (Err q) f y h e = absurd cc

read-unbroken : {M : Type 0} (merge : Merge M) (fs : Fields) (m r : M) → merged_all merge fs m ≡ Ok r → Unbroken fs
read-unbroken merge End m r e = tt
read-unbroken merge (Broken f) m r e = absurd cc
read-unbroken merge (Then n v fs) m r e = read-then (Unbroken fs) (merge n v m) (merged_all merge fs) r (λ x k. read-unbroken merge fs x r k) e

-- what bytes make of a message, and then other bytes, all of them make, wherever they end
pub read-joined : {M : Type 0} (merge : Merge M) → IsBlind merge → (levels ends at later : ℕ) (a b : List ℕ) (m more r : M)
    → merged_all merge (fields levels ends a) m ≡ Ok more → merged_all merge (fields levels at b) more ≡ Ok r → merged_all merge (fields levels later (a ++ b)) m ≡ Ok r
read-joined merge is levels ends at later a b m more r e h =
    let fs = fields levels ends a in
    let gs = fields levels at b in
    let first = read-unbroken merge fs m more e in
    let second = read-unbroken merge gs more r h in
    let both : bared (fields levels later (a ++ b)) ≡ joined (bared fs) (bared gs) =
    fields-joined levels ends later a b first ∙ ap (λ (us : Fields). joined (bared fs) us) (fields-same levels at later b second) in
    let whole : Unbroken (fields levels later (a ++ b)) =
    bared-unbroken (fields levels later (a ++ b)) (subst Unbroken (sym both) (joined-unbroken (bared fs) (bared gs) (unbroken-bared fs first) (unbroken-bared gs second))) in
    sym (blind merge is (fields levels later (a ++ b)) m whole)
    ∙ ap (λ (us : Fields). merged_all merge us m) both
    ∙ merged-joined merge (bared fs) (bared gs) m
    ∙ ap (λ q. q >>= merged_all merge (bared gs)) (blind merge is fs m first ∙ e)
    ∙ blind merge is gs more second
    ∙ h
