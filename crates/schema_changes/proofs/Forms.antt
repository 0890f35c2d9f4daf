-- A kind that the test lets pass has the values of the old one.
use Rattle.std.proofs.Common.{◌≡◌, ℕ, zero, suc, inl, inr, ◌^◌, ◌<◌, ℤ, pos, negsuc, Bool, true, false, not, cond, ◌&&◌, ◌||◌, List, [], ◌∷◌, refl, sym, subst, ◌∙◌, arith}
use Rattle.std.proofs.lemmas.Bool.{ltb-true, lt-ltb, and_parts, and_from, or_cases, or_left, or_right, false≢true}
use Rattle.std.proofs.lemmas.Bool.Decides.{Decides-int_eq}
use Rattle.std.specs.List.{list_all}
use Rattle.std.specs.Option.{option_map_or}
use Rattle.std.specs.Ordering.{int_eq}
use Rattle.pool_types.specs.declared.kinds.KindIndex.{KindIndex}
use Rattle.pool_types.specs.declared.kinds.KindIndex.TheVariants as index
use Rattle.pool_types.specs.declared.contents.enumeration.EnumValueDescriptorInner.{EnumValueDescriptorInner}
use Rattle.message_values.specs.Schema.{Kind}
use Rattle.message_values.specs.Numbers.{form, is_signed, is_unsigned, has_number}
use Rattle.message_values.specs.Numbers as form
use Rattle.message_values.specs.Fields.{has_text}
use Rattle.message_values.specs.Kept.{Pairs, KeepsForm}
use Rattle.schema_changes.specs.declared.entries.Entry.{Entry}
use Rattle.schema_changes.specs.Parts.{Parts, in_proto3, is_open, has_value, values_of, one_name}
use Rattle.schema_changes.specs.Entries.{kind_seen, schema_of}
use Rattle.schema_changes.specs.Kinds.{is_natural, is_bit, holds, holds_all, is_plain, holds_unsigned, keeps_numbers, text_check, keeps_check, messages_of}
use Rattle.schema_changes.specs.Pairs.{are_paired, are_matched, keeps_kind}
use Rattle.schema_changes.specs.Unchanged.{IsReached}

-- the pairs of some messages
abbrev pub named_alike : (ℕ → Bool) → Parts → Parts → Pairs
named_alike reached old new m n = reached m && are_matched old m new n

same_int : (x y : ℤ) → int_eq x y ≡ true → x ≡ y
same_int x y h = (Decides-int_eq x y).0 h

wider : (x : ℤ) → is_signed 31 x ≡ true → is_signed 63 x ≡ true
wider (pos x) h = let lt : x < 2 ^ 31 = ltb-true _ _ h in lt-ltb _ _ (omega arith)
wider (negsuc x) h = let lt : x < 2 ^ 31 = ltb-true _ _ h in lt-ltb _ _ (omega arith)

natural : (n : ℕ) (x : ℤ) → 2 ^ 31 < 2 ^ n → is_signed 31 x ≡ true → is_natural x ≡ true → is_unsigned n x ≡ true
natural n (pos x) le h k = let lt : x < 2 ^ 31 = ltb-true _ _ h in lt-ltb _ _ (omega arith)
natural n (negsuc x) le h k = absurd (false≢true k)

bit : (x : ℤ) → is_bit x ≡ true → is_unsigned 1 x ≡ true
bit (pos x) h = let lt : x < 2 = ltb-true _ _ h in lt-ltb _ _ (omega arith)
bit (negsuc x) h = absurd (false≢true h)

holds-has : (p : Parts) (b : Bool) (l : KindIndex) (x : ℤ) → is_signed 31 x ≡ true → holds p l x ≡ true → has_number (schema_of p) (kind_seen b l) x ≡ true
unfolding holds has_number
holds-has p b index.Int32 x s h = s
holds-has p b index.Int64 x s h = wider x s
holds-has p b index.Uint32 x s h = natural 32 x (omega arith) s h
holds-has p b index.Uint64 x s h = natural 64 x (omega arith) s h
holds-has p b index.Bool x s h = bit x h
holds-has p b (index.Enum e) x s h = and_from _ _ s h
holds-has p b _ x s h = absurd (false≢true h)

all-has : (p : Parts) (b : Bool) (l : KindIndex) (x : ℤ) → is_signed 31 x ≡ true → holds_all p l ≡ true → has_number (schema_of p) (kind_seen b l) x ≡ true
unfolding holds_all has_number
all-has p b index.Int32 x s h = s
all-has p b index.Int64 x s h = wider x s
all-has p b (index.Enum e) x s h = and_from _ _ s (or_left (is_open p e) (has_value (values_of p e) x) h)
all-has p b _ x s h = absurd (false≢true h)

unsigned-64 : (x : ℤ) → is_unsigned 32 x ≡ true → is_unsigned 64 x ≡ true
unsigned-64 (pos x) h = let lt : x < 2 ^ 32 = ltb-true _ _ h in lt-ltb _ _ (omega arith)
unsigned-64 (negsuc x) h = absurd (false≢true h)

unsigned-signed : (x : ℤ) → is_unsigned 32 x ≡ true → is_signed 63 x ≡ true
unsigned-signed (pos x) h = let lt : x < 2 ^ 32 = ltb-true _ _ h in lt-ltb _ _ (omega arith)
unsigned-signed (negsuc x) h = absurd (false≢true h)

unsigned-has : (p : Parts) (b : Bool) (l : KindIndex) (x : ℤ) → is_unsigned 32 x ≡ true → holds_unsigned l ≡ true → has_number (schema_of p) (kind_seen b l) x ≡ true
unfolding has_number
unsigned-has p b index.Uint32 x s h = s
unsigned-has p b index.Uint64 x s h = unsigned-64 x s
unsigned-has p b index.Int64 x s h = unsigned-signed x s
unsigned-has p b _ x s h = absurd (false≢true h)

bit-has : (p : Parts) (b : Bool) (l : KindIndex) (x : ℤ) → is_unsigned 1 x ≡ true → holds p l (pos 0) ≡ true → holds p l (pos 1) ≡ true → has_number (schema_of p) (kind_seen b l) x ≡ true
bit-has p b l (pos zero) s h k = holds-has p b l (pos 0) refl h
bit-has p b l (pos (suc zero)) s h k = holds-has p b l (pos 1) refl k
bit-has p b l (pos (suc (suc n))) s h k = let lt : suc (suc n) < 2 ^ 1 = ltb-true _ _ s in absurd (omega arith)
bit-has p b l (negsuc n) s h k = absurd (false≢true s)

any-all : (P : ℤ → Bool) (x : ℤ) (vs : List EnumValueDescriptorInner) → has_value vs x ≡ true → list_all (λ v. P v.number) vs ≡ true → P x ≡ true
any-all P x [] h k = absurd (false≢true h)
any-all P x (v ∷ vs) h k =
    let both = and_parts (P v.number) (list_all (λ v. P v.number) vs) k in
    elim (or_cases (int_eq v.number x) (has_value vs x) h) [
      | inl same ↦ subst (λ y. P y ≡ true) (same_int v.number x same) both.0
      | inr more ↦ any-all P x vs more both.1
    ]

listed-has : (old new : Parts) (b : Bool) (e : ℕ) (l : KindIndex) (x : ℤ) → is_open old e ≡ false → is_signed 31 x ≡ true → (is_open old e || has_value (values_of old e) x) ≡ true
    → list_all (λ v. holds new l v.number) (values_of old e) ≡ true → has_number (schema_of new) (kind_seen b l) x ≡ true
listed-has old new b e l x closed s h k =
    elim (or_cases (is_open old e) (has_value (values_of old e) x) h) [
      | inl is ↦ absurd (false≢true (sym closed ∙ is))
      | inr has ↦ holds-has new b l x s (any-all (holds new l) x (values_of old e) has k)
    ]

-- all numbers of a kind that is encoded as int32 is
into : (pairs : Pairs) (old new : Parts) (k : Kind) (b : Bool) (l : KindIndex) → is_plain l ≡ true → ((x : ℤ) → has_number (schema_of old) k x ≡ true → has_number (schema_of new) (kind_seen b l) x ≡ true)
    → KeepsForm pairs (schema_of old) k (form.Number form.Plain) (schema_of new) (kind_seen b l) (form (kind_seen b l))
into pairs old new k b index.Int32 h f = (refl, f)
into pairs old new k b index.Int64 h f = (refl, f)
into pairs old new k b index.Uint32 h f = (refl, f)
into pairs old new k b index.Uint64 h f = (refl, f)
into pairs old new k b index.Bool h f = (refl, f)
into pairs old new k b (index.Enum e) h f = (refl, f)
into pairs old new k b _ h f = absurd (false≢true h)

plain-all : (p : Parts) (l : KindIndex) → holds_all p l ≡ true → is_plain l ≡ true
unfolding holds_all
plain-all p index.Int32 h = refl
plain-all p index.Int64 h = refl
plain-all p (index.Enum e) h = refl
plain-all p _ h = absurd (false≢true h)

plain-one : (p : Parts) (l : KindIndex) (x : ℤ) → holds p l x ≡ true → is_plain l ≡ true
unfolding holds
plain-one p index.Int32 x h = refl
plain-one p index.Int64 x h = refl
plain-one p index.Uint32 x h = refl
plain-one p index.Uint64 x h = refl
plain-one p index.Bool x h = refl
plain-one p (index.Enum e) x h = refl
plain-one p _ x h = absurd (false≢true h)

plain-unsigned : (l : KindIndex) → holds_unsigned l ≡ true → is_plain l ≡ true
plain-unsigned index.Uint32 h = refl
plain-unsigned index.Uint64 h = refl
plain-unsigned index.Int64 h = refl
plain-unsigned _ h = absurd (false≢true h)

from-enum : (pairs : Pairs) (old new : Parts) (a b : Bool) (e : ℕ) (l : KindIndex) (o : Bool) → is_open old e ≡ o → cond o (holds_all new l) (is_plain l && list_all (λ v. holds new l v.number) (values_of old e)) ≡ true
    → KeepsForm pairs (schema_of old) (kind_seen a (index.Enum e)) (form.Number form.Plain) (schema_of new) (kind_seen b l) (form (kind_seen b l))
unfolding has_number
from-enum pairs old new a b e l true o h =
    into pairs old new (kind_seen a (index.Enum e)) b l (plain-all new l h) (λ x has. all-has new b l x (and_parts (is_signed 31 x) _ has).0 h)
from-enum pairs old new a b e l false o h =
    let p = and_parts (is_plain l) (list_all (λ v. holds new l v.number) (values_of old e)) h in
    into pairs old new (kind_seen a (index.Enum e)) b l p.0 (λ x has. let q = and_parts (is_signed 31 x) (is_open old e || has_value (values_of old e) x) has in listed-has old new b e l x o q.0 q.1 p.1)

numbers-form : (pairs : Pairs) (old new : Parts) (a b : Bool) (k l : KindIndex) → keeps_numbers old k new l ≡ true
    → KeepsForm pairs (schema_of old) (kind_seen a k) (form (kind_seen a k)) (schema_of new) (kind_seen b l) (form (kind_seen b l))
unfolding keeps_numbers has_number
numbers-form pairs old new a b index.Int32 l h = into pairs old new (kind_seen a index.Int32) b l (plain-all new l h) (λ x s. all-has new b l x s h)
numbers-form pairs old new a b (index.Enum e) l h = from-enum pairs old new a b e l (is_open old e) refl h
numbers-form pairs old new a b index.Bool l h = let p = and_parts (holds new l (pos 0)) (holds new l (pos 1)) h in into pairs old new (kind_seen a index.Bool) b l (plain-one new l (pos 0) p.0) (λ x s. bit-has new b l x s p.0 p.1)
numbers-form pairs old new a b index.Uint32 l h = into pairs old new (kind_seen a index.Uint32) b l (plain-unsigned l h) (λ x s. unsigned-has new b l x s h)
numbers-form pairs old new a b index.Int64 index.Int64 h = (refl, λ x s. s)
numbers-form pairs old new a b index.Uint64 index.Uint64 h = (refl, λ x s. s)
numbers-form pairs old new a b index.Sint32 index.Sint32 h = (refl, λ x s. s)
numbers-form pairs old new a b index.Sint32 index.Sint64 h = (refl, wider)
numbers-form pairs old new a b index.Sint64 index.Sint64 h = (refl, λ x s. s)
numbers-form pairs old new a b index.Fixed32 index.Fixed32 h = (refl, λ x s. s)
numbers-form pairs old new a b index.Fixed64 index.Fixed64 h = (refl, λ x s. s)
numbers-form pairs old new a b index.Sfixed32 index.Sfixed32 h = (refl, λ x s. s)
numbers-form pairs old new a b index.Sfixed64 index.Sfixed64 h = (refl, λ x s. s)
numbers-form pairs old new a b index.Float index.Float h = (refl, λ x s. s)
numbers-form pairs old new a b index.Double index.Double h = (refl, λ x s. s)
numbers-form pairs old new a b _ _ h = absurd (false≢true h)

-- texts that are checked as before, or no more
checked : (a b : Bool) (bytes : List ℕ) → (a || not b) ≡ true → has_text (kind_seen a index.String) bytes ≡ true → has_text (kind_seen b index.String) bytes ≡ true
checked true true bytes e h = h
checked true false bytes e h = refl
checked false true bytes e h = absurd (false≢true e)
checked false false bytes e h = refl

unchecked : (b : Bool) (bytes : List ℕ) → (false || not b) ≡ true → has_text (kind_seen b index.String) bytes ≡ true
unchecked true bytes e = absurd (false≢true e)
unchecked false bytes e = refl

texts-form : (pairs : Pairs) (old new : Parts) (a b : Bool) (k l : KindIndex) → keeps_check (text_check a k) (text_check b l) ≡ true
    → KeepsForm pairs (schema_of old) (kind_seen a k) (form (kind_seen a k)) (schema_of new) (kind_seen b l) (form (kind_seen b l))
texts-form pairs old new a b index.String index.String h = λ bytes. checked a b bytes h
texts-form pairs old new a b index.String index.Bytes h = λ bytes t. refl
texts-form pairs old new a b index.Bytes index.Bytes h = λ bytes t. refl
texts-form pairs old new a b index.Bytes index.String h = λ bytes t. unchecked b bytes h
texts-form pairs old new a b _ _ h = absurd (false≢true h)

messages-form : (reached : ℕ → Bool) (old new : Parts) (a b : Bool) (k l : KindIndex) → IsReached reached k → option_map_or (λ e. are_paired old e.0 new e.1) (messages_of k l) false ≡ true
    → KeepsForm (named_alike reached old new) (schema_of old) (kind_seen a k) (form (kind_seen a k)) (schema_of new) (kind_seen b l) (form (kind_seen b l))
messages-form reached old new a b (index.Message m) (index.Message n) r h = and_from (reached m) (are_matched old m new n) r (or_right (one_name old m new n) (are_paired old m new n) h)
messages-form reached old new a b (index.Group m) (index.Group n) r h = and_from (reached m) (are_matched old m new n) r (or_right (one_name old m new n) (are_paired old m new n) h)
messages-form reached old new a b _ _ r h = absurd (false≢true h)

pub keeps-form : (reached : ℕ → Bool) (old new : Parts) (f g : Entry) → IsReached reached f.kind → keeps_kind old f new g ≡ true
    → KeepsForm (named_alike reached old new) (schema_of old) (kind_seen (in_proto3 old f.file) f.kind) (form (kind_seen (in_proto3 old f.file) f.kind))
    (schema_of new) (kind_seen (in_proto3 new g.file) g.kind) (form (kind_seen (in_proto3 new g.file) g.kind))
keeps-form reached old new f g r h =
    let a = in_proto3 old f.file in
    let b = in_proto3 new g.file in
    elim (or_cases (keeps_numbers old f.kind new g.kind || keeps_check (text_check a f.kind) (text_check b g.kind)) (option_map_or (λ e. are_paired old e.0 new e.1) (messages_of f.kind g.kind) false) h) [
      | inl first ↦ elim (or_cases (keeps_numbers old f.kind new g.kind) (keeps_check (text_check a f.kind) (text_check b g.kind)) first) [
        | inl numbers ↦ numbers-form (named_alike reached old new) old new a b f.kind g.kind numbers
        | inr texts ↦ texts-form (named_alike reached old new) old new a b f.kind g.kind texts
      ]
      | inr messages ↦ messages-form reached old new a b f.kind g.kind r messages
    ]
