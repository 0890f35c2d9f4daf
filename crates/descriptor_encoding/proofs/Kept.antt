-- What is read is whole: each field keeps what holds of a message.
use Rattle.std.proofs.Common.{◌≡◌, ℕ, ℤ, zero, suc, ◌%◌, ◌^◌, Bool, true, false, cond, List, [], ◌∷◌, ◌++◌, map, Option, None, Some, IfSome, Result, Ok, Err, refl, subst, arith}
use Rattle.std.proofs.Math.Facts.{sfits_to_z}
use Rattle.std.specs.Int.{w32}
use Rattle.std.specs.Str.{is_utf8}
use Rattle.std.specs.List.{AllByRecursion}
use Rattle.wire_format.specs.declared.fault.WireFault.{WireFault}
use Rattle.wire_format.specs.Reading.{◌>>=◌}
use Rattle.wire_format.specs.Packed.{numbers}
use Rattle.wire_format.specs.Tokens.{Value, Varint, I64, Len, Group, EndGroup, I32}
use Rattle.wire_format.specs.Fields.{Fields, End, Broken, Then, fields}
use Rattle.descriptor_decoding.specs.Merging.{Merge, Reader, merged_all, merged_from, put, within}
use Rattle.descriptor_decoding.specs.Parts.{int32, int32_merged, text_of, text_merged, texts_merged, int32s_merged, inner_merged, message_merged, messages_merged}
use Rattle.descriptor_encoding.specs.Whole.{IsInt32, IsText, Within}

-- a property of what is read, if it is read
abbrev pub IfRead : {A : Type 0} → (A → Type 0) → Result A WireFault → Type 0
IfRead P (Ok x) = P x
IfRead P (Err f) = Unit {0}

pub if_read : {A : Type 0} (P : A → Type 0) (r : Result A WireFault) (x : A) → r ≡ Ok x → IfRead P r → P x
if_read P r x e h = subst (IfRead P) e h

read_then : {A B : Type 0} (P : A → Type 0) (Q : B → Type 0) (r : Result A WireFault) (f : A → Result B WireFault) → IfRead P r → ((x : A) → P x → IfRead Q (f x)) → IfRead Q (r >>= f)
read_then P Q (Ok x) f h k = k x h
read_then P Q (Err e) f h k = tt

-- fields keep a property that each keeps
abbrev pub Keeps : {M : Type 0} → Merge M → (M → Type 0) → Type 0
Keeps {M} merge P = (n : ℕ) (v : Value) (m : M) → P m → IfRead P (merge n v m)

all-kept : {M : Type 0} (merge : Merge M) (P : M → Type 0) → Keeps merge P → (fs : Fields) (m : M) → P m → IfRead P (merged_all merge fs m)
all-kept merge P keeps End m h = h
all-kept merge P keeps (Broken f) m h = tt
all-kept merge P keeps (Then n v fs) m h = read_then P P (merge n v m) (merged_all merge fs) (keeps n v m h) (λ x k. all-kept merge P keeps fs x k)

pub from-kept : {M : Type 0} (levels : ℕ) (merge : Merge M) (P : M → Type 0) → Keeps merge P → (ends : ℕ) (bytes : List ℕ) (m : M) → P m → IfRead P (merged_from levels merge ends bytes m)
from-kept levels merge P keeps ends bytes m h = all-kept merge P keeps (fields levels ends bytes) m h

-- a row of a table, and the rows after it
pub chosen : {M : Type 0} (P : M → Type 0) (b : Bool) (r s : Result M WireFault) → IfRead P r → IfRead P s → IfRead P (cond b r s)
chosen P true r s h k = h
chosen P false r s h k = k

-- a part that is read with a property, and put where it keeps the message's
pub put-kept : {A M : Type 0} (P : M → Type 0) (Q : A → Type 0) (r : Result A WireFault) (into : A → M) → IfRead Q r → ((x : A) → Q x → P (into x)) → IfRead P (put r into)
put-kept P Q r into h k = read_then Q P r (λ x. Ok (into x)) h k

-- ---- parts

int32-fits : (n : ℕ) → IsInt32 (int32 n)
int32-fits n = sfits_to_z {w = w32} {n = n % 2 ^ 32} (record { fits = omega arith })

pub int32-kept : (v : Value) (part : Option ℤ) → IfSome part IsInt32 → IfSome (int32_merged v part) IsInt32
int32-kept (Varint n) part h = int32-fits n
int32-kept (I64 n) part h = h
int32-kept (Len b at) part h = h
int32-kept (Group at) part h = h
int32-kept (EndGroup at) part h = h
int32-kept (I32 n) part h = h

text_of-kept : (ends : ℕ) (bytes : List ℕ) (b : Bool) → is_utf8 bytes ≡ b → (f : WireFault) → IfRead IsText (cond b (Ok bytes) (Err f))
text_of-kept ends bytes true e f = e
text_of-kept ends bytes false e f = tt

text_read : (ends : ℕ) (bytes : List ℕ) → IfRead IsText (text_of ends bytes)
text_read ends bytes = text_of-kept ends bytes (is_utf8 bytes) refl _

pub text-kept : (v : Value) (part : Option (List ℕ)) → IfSome part IsText → IfRead (λ x. IfSome x IsText) (text_merged v part)
unfolding text_merged
text-kept (Varint n) part h = h
text-kept (I64 n) part h = h
text-kept (Len b at) part h = read_then IsText (λ x. IfSome x IsText) (text_of at b) (λ t. Ok (Some t)) (text_read at b) (λ t k. k)
text-kept (Group at) part h = h
text-kept (EndGroup at) part h = h
text-kept (I32 n) part h = h

pub behind : {A : Type 0} (P : A → Type 0) (xs ys : List A) → AllByRecursion P xs → AllByRecursion P ys → AllByRecursion P (xs ++ ys)
behind P [] ys h k = k
behind P (x ∷ xs) ys h k = (h.0, behind P xs ys h.1 k)

pub texts-kept : (v : Value) (items : List (List ℕ)) → AllByRecursion IsText items → IfRead (AllByRecursion IsText) (texts_merged v items)
unfolding texts_merged
texts-kept (Varint n) items h = h
texts-kept (I64 n) items h = h
texts-kept (Len b at) items h = read_then IsText (AllByRecursion IsText) (text_of at b) (λ t. Ok (items ++ t ∷ [])) (text_read at b) (λ t k. behind IsText items (t ∷ []) h (k, tt))
texts-kept (Group at) items h = h
texts-kept (EndGroup at) items h = h
texts-kept (I32 n) items h = h

all-fit : (ns : List ℕ) → AllByRecursion IsInt32 (map int32 ns)
all-fit [] = tt
all-fit (n ∷ ns) = (int32-fits n, all-fit ns)

any : {A : Type 0} (r : Result A WireFault) → IfRead (λ _. Unit {0}) r
any (Ok x) = tt
any (Err f) = tt

pub int32s-kept : (v : Value) (items : List ℤ) → AllByRecursion IsInt32 items → IfRead (AllByRecursion IsInt32) (int32s_merged v items)
unfolding int32s_merged
int32s-kept (Varint n) items h = behind IsInt32 items (int32 n ∷ []) h (int32-fits n, tt)
int32s-kept (I64 n) items h = h
int32s-kept (Len b at) items h = read_then (λ _. Unit {0}) (AllByRecursion IsInt32) (numbers at b) (λ ns. Ok (items ++ map int32 ns)) (any (numbers at b)) (λ ns k. behind IsInt32 items (map int32 ns) h (all-fit ns))
int32s-kept (Group at) items h = h
int32s-kept (EndGroup at) items h = h
int32s-kept (I32 n) items h = h

-- ---- messages in messages

-- the fields of bytes keep a property, if a level is left
abbrev pub KeepsInside : {A : Type 0} → Option (Reader A) → (A → Type 0) → Type 0
KeepsInside {A} inner P = (ends : ℕ) (bytes : List ℕ) (m : A) → P m → IfRead P (inner_merged inner ends bytes m)

-- an empty message is whole, and stays so
pub record Grows {A : Type 0} (inner : Option (Reader A)) (empty : A) (P : A → Type 0) : Type 0 where
  pub grown : (ends : ℕ) (bytes : List ℕ) → IfRead P (inner_merged inner ends bytes empty)

pub grows : {A : Type 0} (merged : ℕ → Merge A) (empty : A) (P : ℕ → A → Type 0) → ((levels : ℕ) → P levels empty) → ((levels : ℕ) → Keeps (merged levels) (P levels)) → (levels : ℕ) → Grows (within levels merged) empty (Within levels P)
grows merged empty P begin keeps zero = record { grown = λ ends bytes. tt }
grows merged empty P begin keeps (suc levels) = record { grown = λ ends bytes. from-kept levels (merged levels) (P levels) (keeps levels) ends bytes empty (begin levels) }

pub messages-kept : {A : Type 0} (inner : Option (Reader A)) (empty : A) (P : A → Type 0) → Grows inner empty P → (v : Value) (items : List A) → AllByRecursion P items → IfRead (AllByRecursion P) (messages_merged empty inner v items)
unfolding messages_merged
messages-kept inner empty P g (Varint n) items h = h
messages-kept inner empty P g (I64 n) items h = h
messages-kept inner empty P g (Len b at) items h = read_then P (AllByRecursion P) (inner_merged inner at b empty) (λ m. Ok (items ++ m ∷ [])) (g.grown at b) (λ m k. behind P items (m ∷ []) h (k, tt))
messages-kept inner empty P g (Group at) items h = h
messages-kept inner empty P g (EndGroup at) items h = h
messages-kept inner empty P g (I32 n) items h = h

-- a message that may be there already
pub merges : {A : Type 0} (merged : ℕ → Merge A) (P : ℕ → A → Type 0) → ((levels : ℕ) → Keeps (merged levels) (P levels)) → (levels : ℕ) → KeepsInside (within levels merged) (Within levels P)
merges merged P keeps zero ends bytes m h = tt
merges merged P keeps (suc levels) ends bytes m h = from-kept levels (merged levels) (P levels) (keeps levels) ends bytes m h

pub message-kept : {A : Type 0} (inner : Option (Reader A)) (empty : A) (P : A → Type 0) → Grows inner empty P → KeepsInside inner P → (v : Value) (part : Option A) → IfSome part P → IfRead (λ x. IfSome x P) (message_merged empty inner v part)
unfolding message_merged
message-kept inner empty P g keeps (Varint n) part h = h
message-kept inner empty P g keeps (I64 n) part h = h
message-kept inner empty P g keeps (Len b at) None h = read_then P (λ x. IfSome x P) (inner_merged inner at b empty) (λ m. Ok (Some m)) (g.grown at b) (λ m k. k)
message-kept inner empty P g keeps (Len b at) (Some m) h = read_then P (λ x. IfSome x P) (inner_merged inner at b m) (λ m. Ok (Some m)) (keeps at b m h) (λ m k. k)
message-kept inner empty P g keeps (Group at) part h = h
message-kept inner empty P g keeps (EndGroup at) part h = h
message-kept inner empty P g keeps (I32 n) part h = h
