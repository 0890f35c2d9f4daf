-- Where faults lie: no offset is past the end of the bytes.
use Rattle.std.proofs.Common.{◌≡◌, ℕ, ℤ, zero, suc, ◌-◌, ◌%◌, ◌^◌, ◌≤◌, Bool, true, false, cond, ltb, eqb, List, [], ◌∷◌, length, Option, Result, Ok, Err, subst, arith, unwrap_or}
use Rattle.std.specs.Int.{Width, w32, w64, byte_len}
use Rattle.std.specs.Str.{is_utf8}
use Rattle.wire_format.specs.declared.fault.WireFault.{WireFault}
use Rattle.wire_format.specs.Faults.{offset}
use Rattle.wire_format.specs.Reading.{◌>>=◌}
use Rattle.wire_format.specs.Varints.{continued, varint, tag}
use Rattle.wire_format.specs.Packed.{first_numbers, numbers}
use Rattle.wire_format.specs.Tokens.{Value, Varint, I64, Len, Group, EndGroup, I32, Field, fixed, delimited, value, token}
use Rattle.wire_format.specs.Fields.{Fields, End, Broken, Then, in_front, first_tokens, tokens, deeper, fields_within, fields}
use Rattle.proto_types.specs.declared.records.options.Options.{Options}
use Rattle.descriptor_decoding.specs.Merging.{Merge, Reader, merged_all, merged_from, put, within}
use Rattle.descriptor_decoding.specs.Parts.{text_of, text_merged, texts_merged, int32s_merged, inner_merged, message_merged, messages_merged}
use Rattle.descriptor_decoding.specs.Options.{given, options_merged}

-- what is read has a property, or the fault is not past an offset
abbrev pub Lies : {A : Type 0} → ℕ → (A → Type 0) → Result A WireFault → Type 0
Lies ends P (Ok x) = P x
Lies ends P (Err f) = f.at ≤ ends

abbrev Any : {A : Type 0} → A → Type 0
Any x = Unit {0}

abbrev pub Told : {A : Type 0} → ℕ → Result A WireFault → Type 0
Told ends r = Lies ends Any r

pub told : {A : Type 0} (ends : ℕ) (r : Result A WireFault) (f : WireFault) → r ≡ Err f → Told ends r → f.at ≤ ends
told ends r f e h = subst (Told ends) e h

lies_then : {A B : Type 0} (ends : ℕ) (P : A → Type 0) (Q : B → Type 0) (r : Result A WireFault) (f : A → Result B WireFault) → Lies ends P r → ((x : A) → P x → Lies ends Q (f x)) → Lies ends Q (r >>= f)
lies_then ends P Q (Ok x) f h k = k x h
lies_then ends P Q (Err e) f h k = h

lies_if : {A : Type 0} (ends : ℕ) (P : A → Type 0) (b : Bool) (r s : Result A WireFault) → Lies ends P r → Lies ends P s → Lies ends P (cond b r s)
lies_if ends P true r s h k = h
lies_if ends P false r s h k = k

-- ---- tokens

-- the offsets of a value
abbrev pub IsPlaced : ℕ → Value → Type 0
IsPlaced ends (Varint n) = Unit {0}
IsPlaced ends (I64 n) = Unit {0}
IsPlaced ends (Len bytes at) = at ≤ ends
IsPlaced ends (Group at) = at ≤ ends
IsPlaced ends (EndGroup at) = at ≤ ends
IsPlaced ends (I32 n) = Unit {0}

varint-lies : (ends : ℕ) (bytes : List ℕ) → Told ends (varint ends bytes)
unfolding varint
varint-lies ends bytes = lies_if ends Any (ltb 9 (continued bytes)) _ _ (omega arith) (lies_if ends Any (ltb (continued bytes) (length bytes)) _ _ tt (omega arith))

tag-lies : (ends : ℕ) (bytes : List ℕ) → Told ends (tag ends bytes)
unfolding tag
tag-lies ends bytes =
    lies_then ends Any Any (varint ends bytes) _ (varint-lies ends bytes)
    (λ n h. lies_if ends Any (ltb n.0 (2 ^ 32)) _ _ (lies_if ends Any (ltb 5 (length bytes - length n.1)) _ _ (omega arith) (lies_if ends Any (ltb n.0 8) _ _ (omega arith) tt)) (omega arith))

fixed-lies : (w : Width) (ends : ℕ) (bytes : List ℕ) → Told ends (fixed w ends bytes)
unfolding fixed
fixed-lies w ends bytes = lies_if ends Any (ltb (length bytes) (byte_len w)) _ _ (omega arith) tt

delimited-lies : (ends : ℕ) (bytes : List ℕ) → Told ends (delimited ends bytes)
unfolding delimited
delimited-lies ends bytes =
    lies_then ends Any Any (varint ends bytes) _ (varint-lies ends bytes) (λ n h. lies_if ends Any (ltb (length n.1) n.0) _ _ (omega arith) tt)

abbrev First : ℕ → Value × List ℕ → Type 0
First ends x = IsPlaced ends x.0

value-lies : (wire_type at ends : ℕ) (bytes : List ℕ) → at ≤ ends → Lies ends (First ends) (value wire_type at ends bytes)
unfolding value
value-lies wire_type at ends bytes le =
    let P = First ends in
    lies_if ends P (eqb wire_type 0) _ _ (lies_then ends Any P (varint ends bytes) _ (varint-lies ends bytes) (λ n h. tt)) (
    lies_if ends P (eqb wire_type 1) _ _ (lies_then ends Any P (fixed w64 ends bytes) _ (fixed-lies w64 ends bytes) (λ n h. tt)) (
    lies_if ends P (eqb wire_type 2) _ _ (lies_then ends Any P (delimited ends bytes) _ (delimited-lies ends bytes) (λ p h. omega arith)) (
    lies_if ends P (eqb wire_type 3) _ _ le (
    lies_if ends P (eqb wire_type 4) _ _ le (
    lies_if ends P (eqb wire_type 5) _ _ (lies_then ends Any P (fixed w32 ends bytes) _ (fixed-lies w32 ends bytes) (λ n h. tt)) le)))))

abbrev FirstField : ℕ → Field × List ℕ → Type 0
FirstField ends x = IsPlaced ends x.0.value

token-lies : (ends : ℕ) (bytes : List ℕ) → Lies ends (FirstField ends) (token ends bytes)
unfolding token
token-lies ends bytes =
    lies_then ends Any (FirstField ends) (tag ends bytes) _ (tag-lies ends bytes)
    (λ n h. lies_then ends (First ends) (FirstField ends) (value (n.0 % 8) (offset ends bytes) ends n.1) _ (value-lies _ (offset ends bytes) ends n.1 (omega arith)) (λ v k. k))

-- ---- fields

abbrev pub AllLie : ℕ → Fields → Type 0
AllLie ends End = Unit {0}
AllLie ends (Broken f) = f.at ≤ ends
AllLie ends (Then n v fs) = IsPlaced ends v × AllLie ends fs

in_front-lies : (ends : ℕ) (r : Result (Field × List ℕ) WireFault) (others : List ℕ → Fields) → Lies ends (FirstField ends) r → ((rest : List ℕ) → AllLie ends (others rest)) → AllLie ends (in_front r others)
in_front-lies ends (Ok x) others h k = (h, k x.1)
in_front-lies ends (Err f) others h k = h

tokens-lie : (n ends : ℕ) (bytes : List ℕ) → AllLie ends (first_tokens n ends bytes)
unfolding first_tokens
tokens-lie n ends [] = tt
tokens-lie zero ends (b ∷ bytes) = tt
tokens-lie (suc n) ends (b ∷ bytes) = in_front-lies ends (token ends (b ∷ bytes)) (first_tokens n ends) (token-lies ends (b ∷ bytes)) (λ rest. tokens-lie n ends rest)

all_if : (ends : ℕ) (b : Bool) (r s : Fields) → AllLie ends r → AllLie ends s → AllLie ends (cond b r s)
all_if ends true r s h k = h
all_if ends false r s h k = k

deeper-lies : (ends levels at : ℕ) (f : ℕ → Fields) → at ≤ ends → ((left : ℕ) → AllLie ends (f left)) → AllLie ends (deeper levels at f)
deeper-lies ends zero at f le h = le
deeper-lies ends (suc levels) at f le h = h levels

within-lies : (levels ends : ℕ) (outer : List ℕ) (ts : Fields) → AllLie ends ts → AllLie ends (fields_within levels ends outer ts)
unfolding fields_within
within-lies levels ends [] End h = tt
within-lies levels ends (m ∷ outer) End h = omega arith
within-lies levels ends outer (Broken f) h = h
within-lies levels ends outer (Then n (Group at) ts) h = deeper-lies ends levels at (λ left. fields_within left ends (n ∷ outer) ts) h.0 (λ left. within-lies left ends (n ∷ outer) ts h.1)
within-lies levels ends [] (Then n (Varint x) ts) h = (tt, within-lies levels ends [] ts h.1)
within-lies levels ends [] (Then n (I64 x) ts) h = (tt, within-lies levels ends [] ts h.1)
within-lies levels ends [] (Then n (Len x at) ts) h = (h.0, within-lies levels ends [] ts h.1)
within-lies levels ends [] (Then n (EndGroup at) ts) h = h.0
within-lies levels ends [] (Then n (I32 x) ts) h = (tt, within-lies levels ends [] ts h.1)
within-lies levels ends (m ∷ outer) (Then n (Varint x) ts) h = within-lies levels ends (m ∷ outer) ts h.1
within-lies levels ends (m ∷ outer) (Then n (I64 x) ts) h = within-lies levels ends (m ∷ outer) ts h.1
within-lies levels ends (m ∷ outer) (Then n (Len x at) ts) h = within-lies levels ends (m ∷ outer) ts h.1
within-lies levels ends (m ∷ outer) (Then n (EndGroup at) ts) h = all_if ends (eqb n m) _ _ (within-lies (suc levels) ends outer ts h.1) h.0
within-lies levels ends (m ∷ outer) (Then n (I32 x) ts) h = within-lies levels ends (m ∷ outer) ts h.1

-- ---- merging

-- what a field makes of a message has no fault past an offset, if the value has none
abbrev pub Tells : {M : Type 0} → Merge M → Type 0
Tells {M} merge = (ends n : ℕ) (v : Value) (m : M) → IsPlaced ends v → Told ends (merge n v m)

all-told : {M : Type 0} (merge : Merge M) → Tells merge → (ends : ℕ) (fs : Fields) (m : M) → AllLie ends fs → Told ends (merged_all merge fs m)
all-told merge tells ends End m h = tt
all-told merge tells ends (Broken f) m h = h
all-told merge tells ends (Then n v fs) m h = lies_then ends Any Any (merge n v m) (merged_all merge fs) (tells ends n v m h.0) (λ x k. all-told merge tells ends fs x h.1)

pub from-told : {M : Type 0} (levels : ℕ) (merge : Merge M) → Tells merge → (ends : ℕ) (bytes : List ℕ) (m : M) → Told ends (merged_from levels merge ends bytes m)
from-told levels merge tells ends bytes m = all-told merge tells ends (fields levels ends bytes) m (within-lies levels ends [] (tokens ends bytes) (tokens-lie (length bytes) ends bytes))

-- the same of what is read one level further in
abbrev pub TellsInside : {M : Type 0} → Option (Reader M) → Type 0
TellsInside {M} inner = (ends : ℕ) (bytes : List ℕ) (m : M) → Told ends (inner_merged inner ends bytes m)

pub inside : {M : Type 0} (merged : ℕ → Merge M) → ((levels : ℕ) → Tells (merged levels)) → (levels : ℕ) → TellsInside (within levels merged)
inside merged tells zero ends bytes m = omega arith
inside merged tells (suc levels) ends bytes m = from-told levels (merged levels) (tells levels) ends bytes m

-- ---- parts

further : {A : Type 0} (at ends : ℕ) (r : Result A WireFault) → at ≤ ends → Told at r → Told ends r
further at ends (Ok x) le h = tt
further at ends (Err f) le h = omega (arith, h)

-- a row of a table, and the rows after it
pub told_if : {M : Type 0} (ends : ℕ) (b : Bool) (r s : Result M WireFault) → Told ends r → Told ends s → Told ends (cond b r s)
told_if ends true r s h k = h
told_if ends false r s h k = k

pub put-told : {A M : Type 0} (ends : ℕ) (r : Result A WireFault) (into : A → M) → Told ends r → Told ends (put r into)
put-told ends r into h = lies_then ends Any Any r (λ x. Ok (into x)) h (λ x _. tt)

text_of-told : (at ends : ℕ) (bytes : List ℕ) → at ≤ ends → Told ends (text_of at bytes)
text_of-told at ends bytes le = lies_if ends Any (is_utf8 bytes) _ _ tt (omega arith)

pub text-told : (ends : ℕ) (v : Value) (part : Option (List ℕ)) → IsPlaced ends v → Told ends (text_merged v part)
unfolding text_merged
text-told ends (Varint n) part h = tt
text-told ends (I64 n) part h = tt
text-told ends (Len b at) part h = lies_then ends Any Any (text_of at b) _ (text_of-told at ends b h) (λ t _. tt)
text-told ends (Group at) part h = tt
text-told ends (EndGroup at) part h = tt
text-told ends (I32 n) part h = tt

pub texts-told : (ends : ℕ) (v : Value) (items : List (List ℕ)) → IsPlaced ends v → Told ends (texts_merged v items)
unfolding texts_merged
texts-told ends (Varint n) items h = tt
texts-told ends (I64 n) items h = tt
texts-told ends (Len b at) items h = lies_then ends Any Any (text_of at b) _ (text_of-told at ends b h) (λ t _. tt)
texts-told ends (Group at) items h = tt
texts-told ends (EndGroup at) items h = tt
texts-told ends (I32 n) items h = tt

numbers-lie : (n ends : ℕ) (bytes : List ℕ) → Told ends (first_numbers n ends bytes)
unfolding first_numbers
numbers-lie n ends [] = tt
numbers-lie zero ends (b ∷ bytes) = tt
numbers-lie (suc n) ends (b ∷ bytes) =
    lies_then ends Any Any (varint ends (b ∷ bytes)) _ (varint-lies ends (b ∷ bytes)) (λ x _. lies_then ends Any Any (first_numbers n ends x.1) _ (numbers-lie n ends x.1) (λ ns _. tt))

pub int32s-told : (ends : ℕ) (v : Value) (items : List ℤ) → IsPlaced ends v → Told ends (int32s_merged v items)
unfolding int32s_merged
int32s-told ends (Varint n) items h = tt
int32s-told ends (I64 n) items h = tt
int32s-told ends (Len b at) items h = lies_then ends Any Any (numbers at b) _ (further at ends (numbers at b) h (numbers-lie (length b) at b)) (λ ns _. tt)
int32s-told ends (Group at) items h = tt
int32s-told ends (EndGroup at) items h = tt
int32s-told ends (I32 n) items h = tt

pub message-told : {M : Type 0} (ends : ℕ) (empty : M) (inner : Option (Reader M)) → TellsInside inner → (v : Value) (part : Option M) → IsPlaced ends v → Told ends (message_merged empty inner v part)
unfolding message_merged
message-told ends empty inner tells (Varint n) part h = tt
message-told ends empty inner tells (I64 n) part h = tt
message-told ends empty inner tells (Len b at) part h =
    lies_then ends Any Any (inner_merged inner at b (unwrap_or part empty)) _ (further at ends _ h (tells at b (unwrap_or part empty))) (λ m _. tt)
message-told ends empty inner tells (Group at) part h = tt
message-told ends empty inner tells (EndGroup at) part h = tt
message-told ends empty inner tells (I32 n) part h = tt

pub messages-told : {M : Type 0} (ends : ℕ) (empty : M) (inner : Option (Reader M)) → TellsInside inner → (v : Value) (items : List M) → IsPlaced ends v → Told ends (messages_merged empty inner v items)
unfolding messages_merged
messages-told ends empty inner tells (Varint n) items h = tt
messages-told ends empty inner tells (I64 n) items h = tt
messages-told ends empty inner tells (Len b at) items h = lies_then ends Any Any (inner_merged inner at b empty) _ (further at ends _ h (tells at b empty)) (λ m _. tt)
messages-told ends empty inner tells (Group at) items h = tt
messages-told ends empty inner tells (EndGroup at) items h = tt
messages-told ends empty inner tells (I32 n) items h = tt

pub options-told : {T : Type 0} (ends : ℕ) (empty : T) (inner : Option (Reader T)) → TellsInside inner → (v : Value) (part : Option (Options T)) → IsPlaced ends v → Told ends (options_merged empty inner v part)
unfolding options_merged
options-told ends empty inner tells (Varint n) part h = tt
options-told ends empty inner tells (I64 n) part h = tt
options-told ends empty inner tells (Len b at) part h =
    let before = (given empty part).value in
    lies_then ends Any Any (inner_merged inner at b before) _ (further at ends _ h (tells at b before)) (λ m _. tt)
options-told ends empty inner tells (Group at) part h = tt
options-told ends empty inner tells (EndGroup at) part h = tt
options-told ends empty inner tells (I32 n) part h = tt
