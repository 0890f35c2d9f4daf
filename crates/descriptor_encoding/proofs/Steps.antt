-- Parts are read as they were written, one after the other.
use Rattle.std.proofs.Common.{◌≡◌, ℕ, ℤ, pos, negsuc, zero, suc, ◌+◌, ◌*◌, ◌%◌, ◌^◌, ◌<◌, List, [], ◌∷◌, ◌++◌, length, map, Bool, true, false, Option, None, Some, IfSome, Result, Ok, refl, sym, ap, subst, ◌∙◌, arith, append_assoc, length-append, FitsSigned}
use Rattle.std.proofs.lemmas.List.{append-nil}
use Rattle.std.proofs.lemmas.Int.{to_z-of_z}
use Rattle.std.specs.Int.{w32, w64, cast_unsigned, cast_signed}
use Rattle.std.specs.List.{AllByRecursion}
use Rattle.wire_format.specs.declared.fault.WireFault.{WireFault}
use Rattle.wire_format.specs.Reading.{◌>>=◌}
use Rattle.wire_format.specs.Faults.{offset}
use Rattle.wire_format.specs.Tokens.{Value, Varint, Len}
use Rattle.wire_format.specs.Fields.{fields}
use Rattle.wire_format.specs.Packed.{numbers}
use Rattle.wire_format.specs.Encoding.{Part, Number, Bytes, Numbered, varint_of, part_of, encoding}
use Rattle.wire_format.proofs.Again.{varint-again, fields-more, fields-again}
use Rattle.wire_format.proofs.Numbers.{numbers-none, numbers-more}
use Rattle.proto_types.specs.declared.records.options.Options.{Options}
use Rattle.descriptor_decoding.specs.Merging.{Merge, Reader, merged_all, merged_from, put, within}
use Rattle.descriptor_decoding.specs.Parts.{int32, int32_merged, bool_merged, text_merged, texts_merged, int32s_merged, inner_merged, message_merged, messages_merged}
use Rattle.descriptor_decoding.specs.Options.{options_merged}
use Rattle.descriptor_encoding.specs.Wire.{number_field, bytes_field}
use Rattle.descriptor_encoding.specs.Parts.{bits, int32_listed, bool_listed, text_listed, options_listed, texts_listed, int32s_listed, packed, packed_listed, message_listed, messages_listed}
use Rattle.descriptor_encoding.specs.Whole.{IsInt32, IsText, Within, IsRead}

-- fields that end at an offset of the input make a result of a message, if their encoding is short
pub record Makes {M : Type 0} (depth : ℕ) (merge : Merge M) (ends : ℕ) (fs : List Numbered) (m : M) (r : Result M WireFault) : Type 0 where
  pub made : length (encoding fs) < 2 ^ 64 → merged_from depth merge ends (encoding fs) m ≡ r

-- a field has this number
abbrev pub Known : ℕ → Type 0
Known n = (0 < n) × (n < 2 ^ 29)

rest-short : (n : ℕ) (p : Part) (fs : List Numbered) → length (part_of n p ++ encoding fs) < 2 ^ 64 → length (encoding fs) < 2 ^ 64
rest-short n p fs h = omega (arith, length-append (part_of n p) (encoding fs))

bytes-short : (n : ℕ) (bytes : List ℕ) (fs : List Numbered) → length (part_of n (Bytes bytes) ++ encoding fs) < 2 ^ 64 → length bytes < 2 ^ 64
bytes-short n bytes fs h =
    let len = varint_of (length bytes) in
    omega (arith, length-append (part_of n (Bytes bytes)) (encoding fs), length-append (varint_of (8 * n + 2)) (len ++ bytes), length-append len bytes)

pub bytes-step : {M : Type 0} {depth : ℕ} {merge : Merge M} {ends : ℕ} {fs : List Numbered} {m more : M} {r : Result M WireFault} (n : ℕ) (bytes : List ℕ) → Known n
    → (length bytes < 2 ^ 64 → (at : ℕ) → merge n (Len bytes at) m ≡ Ok more) → Makes depth merge ends fs more r → Makes depth merge ends (bytes_field n bytes ∷ fs) m r
bytes-step {M} {depth} {merge} {ends} {fs} {m} {more} {r} n bytes known read next = record {
  made = λ h.
      let short = bytes-short n bytes fs h in
      ap (λ gs. merged_all merge gs m) (fields-more depth ends n (Bytes bytes) (encoding fs) known.0 known.1 short)
      ∙ ap (λ x. x >>= merged_all merge (fields depth ends (encoding fs))) (read short (offset ends (encoding fs)))
      ∙ next.made (rest-short n (Bytes bytes) fs h);
}

pub number-step : {M : Type 0} {depth : ℕ} {merge : Merge M} {ends : ℕ} {fs : List Numbered} {m more : M} {r : Result M WireFault} (n v : ℕ) → Known n → v < 2 ^ 64
    → merge n (Varint v) m ≡ Ok more → Makes depth merge ends fs more r → Makes depth merge ends (number_field n v ∷ fs) m r
number-step {M} {depth} {merge} {ends} {fs} {m} {more} {r} n v known wide read next = record {
  made = λ h.
      ap (λ gs. merged_all merge gs m) (fields-more depth ends n (Number v) (encoding fs) known.0 known.1 wide)
      ∙ ap (λ x. x >>= merged_all merge (fields depth ends (encoding fs))) read
      ∙ next.made (rest-short n (Number v) fs h);
}

pub done : {M : Type 0} {depth : ℕ} {merge : Merge M} {ends : ℕ} {m : M} → Makes depth merge ends [] m (Ok m)
done {M} {depth} {merge} {ends} {m} = record { made = λ h. ap (λ gs. merged_all merge gs m) (fields-again depth ends [] tt) }

-- before the last part
pub at_last : {M : Type 0} {depth : ℕ} {merge : Merge M} {ends : ℕ} {m : M} {r : Result M WireFault} (fs : List Numbered) → Makes depth merge ends (fs ++ []) m r → Makes depth merge ends fs m r
at_last {M} {depth} {merge} {ends} {m} {r} fs h = subst (λ gs. Makes depth merge ends gs m r) (append-nil fs) h

-- ---- numbers

low : (x : ℤ) → FitsSigned w32 x → cast_unsigned w64 x % 2 ^ 32 ≡ cast_unsigned w32 x
low (pos n) h = omega (arith, h)
low (negsuc n) h = omega (arith, h)

int32-again : (x : ℤ) → IsInt32 x → int32 (bits x) ≡ x
int32-again x h = ap (cast_signed w32) (low x h) ∙ to_z-of_z w32 x h

wide : (x : ℤ) → IsInt32 x → bits x < 2 ^ 64
wide (pos n) h = omega (arith, h)
wide (negsuc n) h = omega arith

pub int32-step : {M : Type 0} {depth : ℕ} {merge : Merge M} {ends : ℕ} {fs : List Numbered} {r : Result M WireFault} (n : ℕ) (part : Option ℤ) (with : Option ℤ → M) → Known n → IfSome part IsInt32
    → ((v : Value) (x : Option ℤ) → merge n v (with x) ≡ Ok (with (int32_merged v x))) → Makes depth merge ends fs (with part) r → Makes depth merge ends (int32_listed n part ++ fs) (with None) r
int32-step n None with known h row next = next
int32-step n (Some x) with known h row next = number-step n (bits x) known (wide x h) (row (Varint (bits x)) None ∙ ap (λ y. Ok (with (Some y))) (int32-again x h)) next

pub bool-step : {M : Type 0} {depth : ℕ} {merge : Merge M} {ends : ℕ} {fs : List Numbered} {r : Result M WireFault} (n : ℕ) (part : Option Bool) (with : Option Bool → M) → Known n
    → ((v : Value) (x : Option Bool) → merge n v (with x) ≡ Ok (with (bool_merged v x))) → Makes depth merge ends fs (with part) r → Makes depth merge ends (bool_listed n part ++ fs) (with None) r
bool-step n None with known row next = next
bool-step n (Some true) with known row next = number-step n 1 known (omega arith) (row (Varint 1) None) next
bool-step n (Some false) with known row next = number-step n 0 known (omega arith) (row (Varint 0) None) next

-- one item more behind those that were read
moved : {A M : Type 0} {depth : ℕ} {merge : Merge M} {ends : ℕ} {fs : List Numbered} {r : Result M WireFault} (with : List A → M) (before : List A) (x : A) (xs : List A)
    → Makes depth merge ends fs (with (before ++ x ∷ xs)) r → Makes depth merge ends fs (with ((before ++ x ∷ []) ++ xs)) r
moved {A} {M} {depth} {merge} {ends} {fs} {r} with before x xs h = subst (λ ys. Makes depth merge ends fs (with ys) r) (sym (append_assoc before (x ∷ []) xs)) h

ended : {A M : Type 0} {depth : ℕ} {merge : Merge M} {ends : ℕ} {fs : List Numbered} {r : Result M WireFault} (with : List A → M) (before : List A)
    → Makes depth merge ends fs (with (before ++ [])) r → Makes depth merge ends fs (with before) r
ended {A} {M} {depth} {merge} {ends} {fs} {r} with before h = subst (λ ys. Makes depth merge ends fs (with ys) r) (append-nil before) h

int32s-read : (k : ℕ) (items : List ℤ) → int32s_merged (Varint k) items ≡ Ok (items ++ int32 k ∷ [])
unfolding int32s_merged
int32s-read k items = refl

pub int32s-behind : {M : Type 0} {depth : ℕ} {merge : Merge M} {ends : ℕ} {fs : List Numbered} {r : Result M WireFault} (n : ℕ) (items : List ℤ) (with : List ℤ → M) (before : List ℤ) → Known n → AllByRecursion IsInt32 items
    → ((v : Value) (x : List ℤ) → merge n v (with x) ≡ put (int32s_merged v x) with) → Makes depth merge ends fs (with (before ++ items)) r → Makes depth merge ends (int32s_listed n items ++ fs) (with before) r
int32s-behind n [] with before known h row next = ended with before next
int32s-behind n (x ∷ xs) with before known h row next =
    number-step n (bits x) known (wide x h.0)
    (row (Varint (bits x)) before ∙ ap (λ p. put p with) (int32s-read (bits x) before) ∙ ap (λ y. Ok (with (before ++ y ∷ []))) (int32-again x h.0))
    (int32s-behind n xs with (before ++ x ∷ []) known h.1 row (moved with before x xs next))

numbers-again : (ends : ℕ) (xs : List ℤ) → AllByRecursion IsInt32 xs → numbers ends (packed xs) ≡ Ok (map bits xs)
numbers-again ends [] h = numbers-none ends [] refl
numbers-again ends (x ∷ xs) h =
    numbers-more ends (varint_of (bits x) ++ packed xs) (bits x) (packed xs) (varint-again ends (bits x) (packed xs) (wide x h.0))
    ∙ ap (λ (r : Result (List ℕ) WireFault). r >>= λ ns. Ok (bits x ∷ ns)) (numbers-again ends xs h.1)

all-again : (xs : List ℤ) → AllByRecursion IsInt32 xs → map int32 (map bits xs) ≡ xs
all-again [] h = refl
all-again (x ∷ xs) h = rw (int32-again x h.0, all-again xs h.1) refl

packed-read : (at : ℕ) (xs : List ℤ) → AllByRecursion IsInt32 xs → int32s_merged (Len (packed xs) at) [] ≡ Ok xs
unfolding int32s_merged
packed-read at xs h = ap (λ (r : Result (List ℕ) WireFault). r >>= λ ns. Ok (map int32 ns)) (numbers-again at xs h) ∙ ap Ok (all-again xs h)

pub packed-step : {M : Type 0} {depth : ℕ} {merge : Merge M} {ends : ℕ} {fs : List Numbered} {r : Result M WireFault} (n : ℕ) (items : List ℤ) (with : List ℤ → M) → Known n → AllByRecursion IsInt32 items
    → ((v : Value) (x : List ℤ) → merge n v (with x) ≡ put (int32s_merged v x) with) → Makes depth merge ends fs (with items) r → Makes depth merge ends (packed_listed n items ++ fs) (with []) r
packed-step n [] with known h row next = next
packed-step n (x ∷ xs) with known h row next =
    bytes-step n (packed (x ∷ xs)) known (λ short at. row (Len (packed (x ∷ xs)) at) [] ∙ ap (λ p. put p with) (packed-read at (x ∷ xs) h)) next

-- ---- texts

text-read : (t : List ℕ) (at : ℕ) → IsText t → text_merged (Len t at) None ≡ Ok (Some t)
unfolding text_merged
text-read t at h = rw h refl

pub text-step : {M : Type 0} {depth : ℕ} {merge : Merge M} {ends : ℕ} {fs : List Numbered} {r : Result M WireFault} (n : ℕ) (part : Option (List ℕ)) (with : Option (List ℕ) → M) → Known n → IfSome part IsText
    → ((v : Value) (x : Option (List ℕ)) → merge n v (with x) ≡ put (text_merged v x) with) → Makes depth merge ends fs (with part) r → Makes depth merge ends (text_listed n part ++ fs) (with None) r
text-step n None with known h row next = next
text-step n (Some t) with known h row next = bytes-step n t known (λ short at. row (Len t at) None ∙ ap (λ p. put p with) (text-read t at h)) next

texts-read : (t : List ℕ) (at : ℕ) (items : List (List ℕ)) → IsText t → texts_merged (Len t at) items ≡ Ok (items ++ t ∷ [])
unfolding texts_merged
texts-read t at items h = rw h refl

pub texts-behind : {M : Type 0} {depth : ℕ} {merge : Merge M} {ends : ℕ} {fs : List Numbered} {r : Result M WireFault} (n : ℕ) (items : List (List ℕ)) (with : List (List ℕ) → M) (before : List (List ℕ)) → Known n → AllByRecursion IsText items
    → ((v : Value) (x : List (List ℕ)) → merge n v (with x) ≡ put (texts_merged v x) with) → Makes depth merge ends fs (with (before ++ items)) r → Makes depth merge ends (texts_listed n items ++ fs) (with before) r
texts-behind n [] with before known h row next = ended with before next
texts-behind n (t ∷ ts) with before known h row next =
    bytes-step n t known (λ short at. row (Len t at) before ∙ ap (λ p. put p with) (texts-read t at before h.0))
    (texts-behind n ts with (before ++ t ∷ []) known h.1 row (moved with before t ts next))

-- ---- options

options-read : {T : Type 0} (merged : ℕ → Merge T) (empty : T) (levels : ℕ) (o : Options T) (at : ℕ) → Within levels (IsRead merged empty) o → options_merged empty (within levels merged) (Len o.encoded at) None ≡ Ok (Some o)
unfolding options_merged
options-read merged empty zero o at h = absurd h
options-read merged empty (suc levels) o at h = rw (h at) refl

pub options-step : {M T : Type 0} {depth : ℕ} {merge : Merge M} {ends : ℕ} {fs : List Numbered} {r : Result M WireFault} (merged : ℕ → Merge T) (empty : T) (levels n : ℕ) (part : Option (Options T)) (with : Option (Options T) → M) → Known n
    → IfSome part (Within levels (IsRead merged empty)) → ((v : Value) (x : Option (Options T)) → merge n v (with x) ≡ put (options_merged empty (within levels merged) v x) with)
    → Makes depth merge ends fs (with part) r → Makes depth merge ends (options_listed n part ++ fs) (with None) r
options-step merged empty levels n None with known h row next = next
options-step merged empty levels n (Some o) with known h row next =
    bytes-step n o.encoded known (λ short at. row (Len o.encoded at) None ∙ ap (λ p. put p with) (options-read merged empty levels o at h)) next

-- ---- messages in messages

-- a message is read as it was written
abbrev pub IsAgain : {A : Type 0} → ℕ → Merge A → (A → List Numbered) → A → A → Type 0
IsAgain levels merge listed empty x = (ends : ℕ) → length (encoding (listed x)) < 2 ^ 64 → merged_from levels merge ends (encoding (listed x)) empty ≡ Ok x

-- the same, if a level is left
abbrev pub IsInside : {A : Type 0} → Option (Reader A) → (A → List Numbered) → A → A → Type 0
IsInside inner listed empty x = (ends : ℕ) → length (encoding (listed x)) < 2 ^ 64 → inner_merged inner ends (encoding (listed x)) empty ≡ Ok x

pub inside : {A : Type 0} (merged : ℕ → Merge A) (listed : A → List Numbered) (empty : A) (P : ℕ → A → Type 0) → ((levels : ℕ) (x : A) → P levels x → IsAgain levels (merged levels) listed empty x)
    → (levels : ℕ) (x : A) → Within levels P x → IsInside (within levels merged) listed empty x
inside merged listed empty P law zero x h = absurd h
inside merged listed empty P law (suc levels) x h = law levels x h

message-read : {A : Type 0} (inner : Option (Reader A)) (empty x : A) (bytes : List ℕ) (at : ℕ) → inner_merged inner at bytes empty ≡ Ok x → message_merged empty inner (Len bytes at) None ≡ Ok (Some x)
unfolding message_merged
message-read inner empty x bytes at h = rw h refl

pub message-step : {M A : Type 0} {depth : ℕ} {merge : Merge M} {ends : ℕ} {fs : List Numbered} {r : Result M WireFault} (inner : Option (Reader A)) (listed : A → List Numbered) (empty : A) (P : A → Type 0)
    → ((x : A) → P x → IsInside inner listed empty x) → (n : ℕ) (part : Option A) (with : Option A → M) → Known n → IfSome part P
    → ((v : Value) (x : Option A) → merge n v (with x) ≡ put (message_merged empty inner v x) with) → Makes depth merge ends fs (with part) r → Makes depth merge ends (message_listed listed n part ++ fs) (with None) r
message-step inner listed empty P law n None with known h row next = next
message-step inner listed empty P law n (Some x) with known h row next =
    let bytes = encoding (listed x) in
    bytes-step n bytes known (λ short at. row (Len bytes at) None ∙ ap (λ p. put p with) (message-read inner empty x bytes at (law x h at short))) next

messages-read : {A : Type 0} (inner : Option (Reader A)) (empty x : A) (bytes : List ℕ) (at : ℕ) (items : List A) → inner_merged inner at bytes empty ≡ Ok x → messages_merged empty inner (Len bytes at) items ≡ Ok (items ++ x ∷ [])
unfolding messages_merged
messages-read inner empty x bytes at items h = rw h refl

pub messages-behind : {M A : Type 0} {depth : ℕ} {merge : Merge M} {ends : ℕ} {fs : List Numbered} {r : Result M WireFault} (inner : Option (Reader A)) (listed : A → List Numbered) (empty : A) (P : A → Type 0)
    → ((x : A) → P x → IsInside inner listed empty x) → (n : ℕ) (items : List A) (with : List A → M) (before : List A) → Known n → AllByRecursion P items
    → ((v : Value) (x : List A) → merge n v (with x) ≡ put (messages_merged empty inner v x) with) → Makes depth merge ends fs (with (before ++ items)) r → Makes depth merge ends (messages_listed n (map listed items) ++ fs) (with before) r
messages-behind inner listed empty P law n [] with before known h row next = ended with before next
messages-behind inner listed empty P law n (x ∷ xs) with before known h row next =
    let bytes = encoding (listed x) in
    bytes-step n bytes known (λ short at. row (Len bytes at) before ∙ ap (λ p. put p with) (messages-read inner empty x bytes at before (law x h.0 at short)))
    (messages-behind inner listed empty P law n xs with (before ++ x ∷ []) known h.1 row (moved with before x xs next))
