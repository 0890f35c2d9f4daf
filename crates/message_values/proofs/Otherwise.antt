-- A kind of a scalar type keeps the values of another one, or takes one of them otherwise.
use Rattle.std.proofs.Common.{◌≡◌, ◌≢◌, ◌⊎◌, ℕ, zero, suc, ◌^◌, ◌<◌, ℤ, pos, negsuc, Bool, true, false, cond, [], ◌∷◌, Option, Some, None, option_map, option_and_then, inl, inr, refl, ap, sym, ◌∙◌, arith}
use Rattle.std.proofs.lemmas.Bool.{and_from, cases_eq, false≢true, lt-ltb, ltb-true}
use Rattle.std.proofs.lemmas.Bool.Decides.{Decides-int_eq}
use Rattle.std.specs.Ordering.{int_eq}
use Rattle.std.specs.Str.{is_utf8, chars}
use Rattle.wire_format.specs.Varints.{varint, tag}
use Rattle.wire_format.specs.Tokens.{fixed, delimited, token}
use Rattle.wire_format.specs.Tokens as token
use Rattle.wire_format.specs.Fields.{first_tokens}
use Rattle.wire_format.specs.Packed.{first_numbers}
use Rattle.message_values.specs.Values.{Value, Varint, Fixed64, Bytes, Fixed32, levels, values}
use Rattle.message_values.specs.Schema.{Schema, Kind, Field, Cardinality, Optional, Required, Repeated}
use Rattle.message_values.specs.Schema as kind
use Rattle.message_values.specs.Numbers.{Coding, Plain, ZigZag, Four, Eight, FloatBits, DoubleBits, form, has_number, encoded, enum_number, number_read, packed, first_fixed, is_signed, is_unsigned}
use Rattle.message_values.specs.Fields.{Item, Number, Bits, Text, Items, one_taken, other_taken, number_item, items_in, taken, counted}
use Rattle.message_values.specs.Reading.{Fact, OfMessage}
use Rattle.message_values.specs.Writing.{IsValue}
use Rattle.message_values.specs.Items.{IsItem}
use Rattle.message_values.specs.Kept.{Pairs, KeepsForm}
use Rattle.message_values.specs.Unkept.{IsWrittenWithin, OtherKindIsLost, ScalarHasItem, TakesOtherwise, is_scalar}
use Rattle.message_values.proofs.Numbers.{reads-again}
use Rattle.message_values.proofs.Typed.{item-written}
use Rattle.message_values.proofs.Unkept.{one-counted, other-value}

-- ---- numbers that are numbers of a wider kind

signed-more : (x : ℤ) → is_signed 31 x ≡ true → is_signed 63 x ≡ true
signed-more (pos x) h = let lt : x < 2 ^ 31 = ltb-true _ _ h in lt-ltb x (2 ^ 63) (omega arith)
signed-more (negsuc x) h = let lt : x < 2 ^ 31 = ltb-true _ _ h in lt-ltb x (2 ^ 63) (omega arith)

unsigned-more : (x : ℤ) → is_unsigned 32 x ≡ true → is_unsigned 64 x ≡ true
unsigned-more (pos x) h = let lt : x < 2 ^ 32 = ltb-true _ _ h in lt-ltb x (2 ^ 64) (omega arith)
unsigned-more (negsuc x) h = absurd (false≢true h)

unsigned-signed : (x : ℤ) → is_unsigned 32 x ≡ true → is_signed 63 x ≡ true
unsigned-signed (pos x) h = let lt : x < 2 ^ 32 = ltb-true _ _ h in lt-ltb x (2 ^ 63) (omega arith)
unsigned-signed (negsuc x) h = absurd (false≢true h)

bit-signed : (x : ℤ) → is_unsigned 1 x ≡ true → is_signed 31 x ≡ true
bit-signed (pos x) h = let lt : x < 2 ^ 1 = ltb-true _ _ h in lt-ltb x (2 ^ 31) (omega arith)
bit-signed (negsuc x) h = absurd (false≢true h)

bit-unsigned : (x : ℤ) → is_unsigned 1 x ≡ true → is_unsigned 32 x ≡ true
bit-unsigned (pos x) h = let lt : x < 2 ^ 1 = ltb-true _ _ h in lt-ltb x (2 ^ 32) (omega arith)
bit-unsigned (negsuc x) h = absurd (false≢true h)

-- a truth value is 0 or 1
bit-is : (P : ℤ → Type 0) → P (pos 0) → P (pos 1) → (x : ℤ) → is_unsigned 1 x ≡ true → P x
bit-is P a b (pos zero) h = a
bit-is P a b (pos (suc zero)) h = b
bit-is P a b (pos (suc (suc x))) h = absurd (let lt : suc (suc x) < 2 ^ 1 = ltb-true _ _ h in omega arith)
bit-is P a b (negsuc x) h = absurd (false≢true h)

-- ---- whether each number of 32 bits passes a test, or one fails it

all-below : (p : ℕ → Bool) (n : ℕ) → ((x : ℕ) → x < n → p x ≡ true) ⊎ ((x : ℕ) × (x < n) × (p x ≡ false))
all-below p zero = inl (λ x below. absurd (omega arith))
all-below p (suc n) =
    elim (all-below p n) [
      | inl all ↦ last (p n) refl all
      | inr fails ↦ inr (fails.0, omega (arith, fails.1), fails.2)
    ]
  where
    at-last : ((x : ℕ) → x < n → p x ≡ true) → p n ≡ true → (x : ℕ) → x < suc n → p x ≡ true
    at-last all is x below = elim (cases_eq x n) [ inl same ↦ ap p same ∙ is | inr other ↦ all x (omega (arith, below, other)) ]

    last : (b : Bool) → p n ≡ b → ((x : ℕ) → x < n → p x ≡ true) → ((x : ℕ) → x < suc n → p x ≡ true) ⊎ ((x : ℕ) × (x < suc n) × (p x ≡ false))
    last true is all = inl (at-last all is)
    last false is all = inr (n, omega arith, is)

-- and so of numbers with a sign
all-signed : (p : ℤ → Bool) → ((x : ℤ) → is_signed 31 x ≡ true → p x ≡ true) ⊎ ((x : ℤ) × (is_signed 31 x ≡ true) × (p x ≡ false))
all-signed p =
    elim (all-below (λ n. p (pos n)) (2 ^ 31)) [
      | inl naturals ↦ elim (all-below (λ n. p (negsuc n)) (2 ^ 31)) [
        | inl negatives ↦ inl (both naturals negatives)
        | inr fails ↦ inr (negsuc fails.0, lt-ltb fails.0 (2 ^ 31) fails.1, fails.2)
      ]
      | inr fails ↦ inr (pos fails.0, lt-ltb fails.0 (2 ^ 31) fails.1, fails.2)
    ]
  where
    both : ((n : ℕ) → n < 2 ^ 31 → p (pos n) ≡ true) → ((n : ℕ) → n < 2 ^ 31 → p (negsuc n) ≡ true) → (x : ℤ) → is_signed 31 x ≡ true → p x ≡ true
    both naturals negatives (pos n) h = naturals n (ltb-true _ _ h)
    both naturals negatives (negsuc n) h = negatives n (ltb-true _ _ h)

-- ---- what differs

other-number : (x y : ℤ) → int_eq x y ≡ false → Number x ∷ [] ≢ Number y ∷ []
other-number x y h e = let same : x ≡ y = cc in false≢true (sym h ∙ (Decides-int_eq x y).1 same)

bits-number : (x y : ℤ) → Bits x ∷ [] ≢ Number y ∷ []
bits-number x y e = absurd cc

number-bits : (x y : ℤ) → Number x ∷ [] ≢ Bits y ∷ []
number-bits x y e = absurd cc

is-some : (x : Item) → x ∷ [] ≢ []
is-some x e = absurd cc

-- a number that an enum has or has not
enum-number : (b : Bool) (x y : ℤ) → int_eq x y ≡ false → Number x ∷ [] ≢ items_in (one_taken (option_map (number_item Plain) (cond b (Some y) None)))
enum-number true x y h e = other-number x y h e
enum-number false x y h e = is-some (Number x) e

-- one item at most counts once, however often the field may stand
once : (c : Cardinality) (got : Option Item) → counted c (items_in (one_taken got)) ≡ items_in (one_taken got)
once c (Some x) = one-counted c x
once Optional None = refl
once Required None = refl
once Repeated None = refl

-- no packed numbers are in no bytes
none-packed : (s : Schema) (g : Field) (c : Coding) → items_in (other_taken s g c (Bytes [])) ≡ []
unfolding packed first_fixed first_numbers
none-packed s g c = by g.cardinality c
  where
    by : (d : Cardinality) (c : Coding) → items_in (other_taken s (record g { cardinality = d }) c (Bytes [])) ≡ []
    by Optional c = refl
    by Required c = refl
    by Repeated Plain = refl
    by Repeated ZigZag = refl
    by Repeated Four = refl
    by Repeated Eight = refl
    by Repeated FloatBits = refl
    by Repeated DoubleBits = refl

module _ (pairs : Pairs) (old new : Schema) (c d : Cardinality) (o p : Option ℕ) where
  abbrev before : Kind → Field
  before k = record { kind = k; cardinality = c; oneof = o }

  abbrev after : Kind → Field
  after l = record { kind = l; cardinality = d; oneof = p }

  -- a kind is kept by another one, or a value of it is taken otherwise
  abbrev Decided : Kind → Kind → Type 0
  Decided k l = KeepsForm pairs old k (form k) new l (form l) ⊎ TakesOtherwise old (before k) new (after l)

  other : (k l : Kind) (v : Value) (x : Item) (got : Option Item) → IsValue old (before k) v → taken old (before k) v ≡ Items (x ∷ []) → items_in (taken new (after l) v) ≡ items_in (one_taken got)
      → x ∷ [] ≢ items_in (one_taken got) → Decided k l
  other k l v x got is_value is_taken is apart = inr (record {
    value = v;
    item = x;
    is_value = is_value;
    is_taken = is_taken;
    is_other = λ e. apart (e ∙ ap (λ ys. counted c (counted d ys)) is ∙ ap (counted c) (once d got) ∙ once c got);
  })

  unknown : (k l : Kind) (v : Value) (x : Item) → IsValue old (before k) v → taken old (before k) v ≡ Items (x ∷ []) → items_in (taken new (after l) v) ≡ [] → Decided k l
  unknown k l v x is_value is_taken is = other k l v x None is_value is_taken is (is-some x)

  -- an enum that has each number of 32 bits, or lacks one
  int32-enum : (e : ℕ) → ((x : ℤ) → is_signed 31 x ≡ true → new.has_value e x ≡ true) ⊎ ((x : ℤ) × (is_signed 31 x ≡ true) × (new.has_value e x ≡ false)) → Decided kind.Int32 (kind.Enum e)
  unfolding IsValue has_number encoded taken number_read
  int32-enum e (inl all) = inl (refl, λ x h. and_from (is_signed 31 x) (new.has_value e x) h (all x h))
  int32-enum e (inr lacks) =
      let x = lacks.0 in
      let n = encoded Plain x in
      let again : number_read old kind.Int32 n ≡ Some x = reads-again old kind.Int32 x lacks.1 in
      let none : number_read new (kind.Enum e) n ≡ None = ap (option_and_then (λ y. enum_number new e y)) again ∙ ap (λ b. cond b (Some x) None) lacks.2 in
      unknown kind.Int32 (kind.Enum e) (Varint n) (Number x) (record { number = x; has = lacks.1; encoding = refl }) (ap (λ got. one_taken (option_map (number_item Plain) got)) again) (ap (λ got. items_in (one_taken (option_map (number_item Plain) got))) none)

  -- an enum that has 0 and 1, or lacks one of them
  boolean-enum : (e : ℕ) (a b : Bool) → new.has_value e (pos 0) ≡ a → new.has_value e (pos 1) ≡ b → Decided kind.Boolean (kind.Enum e)
  unfolding IsValue has_number encoded taken number_read
  boolean-enum e true true first second = inl (refl, bit-is (λ x. has_number new (kind.Enum e) x ≡ true) first second)
  boolean-enum e false b first second =
      unknown kind.Boolean (kind.Enum e) (Varint 0) (Number (pos 0)) (record { number = pos 0; has = refl; encoding = refl }) refl (ap (λ b. items_in (one_taken (option_map (number_item Plain) (cond b (Some (pos 0)) None)))) first)
  boolean-enum e true false first second =
      unknown kind.Boolean (kind.Enum e) (Varint 1) (Number (pos 1)) (record { number = pos 1; has = refl; encoding = refl }) refl (ap (λ b. items_in (one_taken (option_map (number_item Plain) (cond b (Some (pos 1)) None)))) second)

  from-double : (l : Kind) → Decided kind.Double l
  unfolding IsValue has_number encoded taken number_read
  from-double kind.Double = inl (refl, λ x h. h)
  from-double kind.Fixed64 = other kind.Double kind.Fixed64 (Fixed64 1) (Bits (pos 1)) (Some (Number (pos 1))) (record { number = pos 1; has = refl; encoding = refl }) refl refl (bits-number (pos 1) (pos 1))
  from-double kind.Sfixed64 = other kind.Double kind.Sfixed64 (Fixed64 1) (Bits (pos 1)) (Some (Number (pos 1))) (record { number = pos 1; has = refl; encoding = refl }) refl refl (bits-number (pos 1) (pos 1))
  from-double l = unknown kind.Double l (Fixed64 1) (Bits (pos 1)) (record { number = pos 1; has = refl; encoding = refl }) refl refl

  from-float : (l : Kind) → Decided kind.Float l
  unfolding IsValue has_number encoded taken number_read
  from-float kind.Float = inl (refl, λ x h. h)
  from-float kind.Fixed32 = other kind.Float kind.Fixed32 (Fixed32 1) (Bits (pos 1)) (Some (Number (pos 1))) (record { number = pos 1; has = refl; encoding = refl }) refl refl (bits-number (pos 1) (pos 1))
  from-float kind.Sfixed32 = other kind.Float kind.Sfixed32 (Fixed32 1) (Bits (pos 1)) (Some (Number (pos 1))) (record { number = pos 1; has = refl; encoding = refl }) refl refl (bits-number (pos 1) (pos 1))
  from-float l = unknown kind.Float l (Fixed32 1) (Bits (pos 1)) (record { number = pos 1; has = refl; encoding = refl }) refl refl

  from-int32 : (l : Kind) → Decided kind.Int32 l
  unfolding IsValue has_number encoded taken number_read
  from-int32 kind.Int32 = inl (refl, λ x h. h)
  from-int32 kind.Int64 = inl (refl, signed-more)
  from-int32 kind.Uint32 = other kind.Int32 kind.Uint32 (Varint 18446744073709551615) (Number (negsuc 0)) (Some (Number (pos 4294967295))) (record { number = negsuc 0; has = refl; encoding = refl }) refl refl (other-number (negsuc 0) (pos 4294967295) refl)
  from-int32 kind.Uint64 = other kind.Int32 kind.Uint64 (Varint 18446744073709551615) (Number (negsuc 0)) (Some (Number (pos 18446744073709551615))) (record { number = negsuc 0; has = refl; encoding = refl }) refl refl (other-number (negsuc 0) (pos 18446744073709551615) refl)
  from-int32 kind.Sint32 = other kind.Int32 kind.Sint32 (Varint 1) (Number (pos 1)) (Some (Number (negsuc 0))) (record { number = pos 1; has = refl; encoding = refl }) refl refl (other-number (pos 1) (negsuc 0) refl)
  from-int32 kind.Sint64 = other kind.Int32 kind.Sint64 (Varint 1) (Number (pos 1)) (Some (Number (negsuc 0))) (record { number = pos 1; has = refl; encoding = refl }) refl refl (other-number (pos 1) (negsuc 0) refl)
  from-int32 kind.Boolean = other kind.Int32 kind.Boolean (Varint 2) (Number (pos 2)) (Some (Number (pos 1))) (record { number = pos 2; has = refl; encoding = refl }) refl refl (other-number (pos 2) (pos 1) refl)
  from-int32 (kind.Enum e) = int32-enum e (all-signed (new.has_value e))
  from-int32 l = unknown kind.Int32 l (Varint 1) (Number (pos 1)) (record { number = pos 1; has = refl; encoding = refl }) refl refl

  from-int64 : (l : Kind) → Decided kind.Int64 l
  unfolding IsValue has_number encoded taken number_read
  from-int64 kind.Int32 = other kind.Int64 kind.Int32 (Varint 4294967295) (Number (pos 4294967295)) (Some (Number (negsuc 0))) (record { number = pos 4294967295; has = refl; encoding = refl }) refl refl (other-number (pos 4294967295) (negsuc 0) refl)
  from-int64 kind.Int64 = inl (refl, λ x h. h)
  from-int64 kind.Uint32 = other kind.Int64 kind.Uint32 (Varint 18446744073709551615) (Number (negsuc 0)) (Some (Number (pos 4294967295))) (record { number = negsuc 0; has = refl; encoding = refl }) refl refl (other-number (negsuc 0) (pos 4294967295) refl)
  from-int64 kind.Uint64 = other kind.Int64 kind.Uint64 (Varint 18446744073709551615) (Number (negsuc 0)) (Some (Number (pos 18446744073709551615))) (record { number = negsuc 0; has = refl; encoding = refl }) refl refl (other-number (negsuc 0) (pos 18446744073709551615) refl)
  from-int64 kind.Sint32 = other kind.Int64 kind.Sint32 (Varint 1) (Number (pos 1)) (Some (Number (negsuc 0))) (record { number = pos 1; has = refl; encoding = refl }) refl refl (other-number (pos 1) (negsuc 0) refl)
  from-int64 kind.Sint64 = other kind.Int64 kind.Sint64 (Varint 1) (Number (pos 1)) (Some (Number (negsuc 0))) (record { number = pos 1; has = refl; encoding = refl }) refl refl (other-number (pos 1) (negsuc 0) refl)
  from-int64 kind.Boolean = other kind.Int64 kind.Boolean (Varint 2) (Number (pos 2)) (Some (Number (pos 1))) (record { number = pos 2; has = refl; encoding = refl }) refl refl (other-number (pos 2) (pos 1) refl)
  from-int64 (kind.Enum e) = other kind.Int64 (kind.Enum e) (Varint 4294967295) (Number (pos 4294967295)) (option_map (number_item Plain) (cond (new.has_value e (negsuc 0)) (Some (negsuc 0)) None)) (record { number = pos 4294967295; has = refl; encoding = refl }) refl refl (enum-number (new.has_value e (negsuc 0)) (pos 4294967295) (negsuc 0) refl)
  from-int64 l = unknown kind.Int64 l (Varint 1) (Number (pos 1)) (record { number = pos 1; has = refl; encoding = refl }) refl refl

  from-uint32 : (l : Kind) → Decided kind.Uint32 l
  unfolding IsValue has_number encoded taken number_read
  from-uint32 kind.Int32 = other kind.Uint32 kind.Int32 (Varint 4294967295) (Number (pos 4294967295)) (Some (Number (negsuc 0))) (record { number = pos 4294967295; has = refl; encoding = refl }) refl refl (other-number (pos 4294967295) (negsuc 0) refl)
  from-uint32 kind.Int64 = inl (refl, unsigned-signed)
  from-uint32 kind.Uint32 = inl (refl, λ x h. h)
  from-uint32 kind.Uint64 = inl (refl, unsigned-more)
  from-uint32 kind.Sint32 = other kind.Uint32 kind.Sint32 (Varint 1) (Number (pos 1)) (Some (Number (negsuc 0))) (record { number = pos 1; has = refl; encoding = refl }) refl refl (other-number (pos 1) (negsuc 0) refl)
  from-uint32 kind.Sint64 = other kind.Uint32 kind.Sint64 (Varint 1) (Number (pos 1)) (Some (Number (negsuc 0))) (record { number = pos 1; has = refl; encoding = refl }) refl refl (other-number (pos 1) (negsuc 0) refl)
  from-uint32 kind.Boolean = other kind.Uint32 kind.Boolean (Varint 2) (Number (pos 2)) (Some (Number (pos 1))) (record { number = pos 2; has = refl; encoding = refl }) refl refl (other-number (pos 2) (pos 1) refl)
  from-uint32 (kind.Enum e) = other kind.Uint32 (kind.Enum e) (Varint 4294967295) (Number (pos 4294967295)) (option_map (number_item Plain) (cond (new.has_value e (negsuc 0)) (Some (negsuc 0)) None)) (record { number = pos 4294967295; has = refl; encoding = refl }) refl refl (enum-number (new.has_value e (negsuc 0)) (pos 4294967295) (negsuc 0) refl)
  from-uint32 l = unknown kind.Uint32 l (Varint 1) (Number (pos 1)) (record { number = pos 1; has = refl; encoding = refl }) refl refl

  from-uint64 : (l : Kind) → Decided kind.Uint64 l
  unfolding IsValue has_number encoded taken number_read
  from-uint64 kind.Int32 = other kind.Uint64 kind.Int32 (Varint 4294967295) (Number (pos 4294967295)) (Some (Number (negsuc 0))) (record { number = pos 4294967295; has = refl; encoding = refl }) refl refl (other-number (pos 4294967295) (negsuc 0) refl)
  from-uint64 kind.Int64 = other kind.Uint64 kind.Int64 (Varint 18446744073709551615) (Number (pos 18446744073709551615)) (Some (Number (negsuc 0))) (record { number = pos 18446744073709551615; has = refl; encoding = refl }) refl refl (other-number (pos 18446744073709551615) (negsuc 0) refl)
  from-uint64 kind.Uint32 = other kind.Uint64 kind.Uint32 (Varint 18446744073709551615) (Number (pos 18446744073709551615)) (Some (Number (pos 4294967295))) (record { number = pos 18446744073709551615; has = refl; encoding = refl }) refl refl (other-number (pos 18446744073709551615) (pos 4294967295) refl)
  from-uint64 kind.Uint64 = inl (refl, λ x h. h)
  from-uint64 kind.Sint32 = other kind.Uint64 kind.Sint32 (Varint 1) (Number (pos 1)) (Some (Number (negsuc 0))) (record { number = pos 1; has = refl; encoding = refl }) refl refl (other-number (pos 1) (negsuc 0) refl)
  from-uint64 kind.Sint64 = other kind.Uint64 kind.Sint64 (Varint 1) (Number (pos 1)) (Some (Number (negsuc 0))) (record { number = pos 1; has = refl; encoding = refl }) refl refl (other-number (pos 1) (negsuc 0) refl)
  from-uint64 kind.Boolean = other kind.Uint64 kind.Boolean (Varint 2) (Number (pos 2)) (Some (Number (pos 1))) (record { number = pos 2; has = refl; encoding = refl }) refl refl (other-number (pos 2) (pos 1) refl)
  from-uint64 (kind.Enum e) = other kind.Uint64 (kind.Enum e) (Varint 4294967295) (Number (pos 4294967295)) (option_map (number_item Plain) (cond (new.has_value e (negsuc 0)) (Some (negsuc 0)) None)) (record { number = pos 4294967295; has = refl; encoding = refl }) refl refl (enum-number (new.has_value e (negsuc 0)) (pos 4294967295) (negsuc 0) refl)
  from-uint64 l = unknown kind.Uint64 l (Varint 1) (Number (pos 1)) (record { number = pos 1; has = refl; encoding = refl }) refl refl

  from-sint32 : (l : Kind) → Decided kind.Sint32 l
  unfolding IsValue has_number encoded taken number_read
  from-sint32 kind.Int32 = other kind.Sint32 kind.Int32 (Varint 2) (Number (pos 1)) (Some (Number (pos 2))) (record { number = pos 1; has = refl; encoding = refl }) refl refl (other-number (pos 1) (pos 2) refl)
  from-sint32 kind.Int64 = other kind.Sint32 kind.Int64 (Varint 2) (Number (pos 1)) (Some (Number (pos 2))) (record { number = pos 1; has = refl; encoding = refl }) refl refl (other-number (pos 1) (pos 2) refl)
  from-sint32 kind.Uint32 = other kind.Sint32 kind.Uint32 (Varint 2) (Number (pos 1)) (Some (Number (pos 2))) (record { number = pos 1; has = refl; encoding = refl }) refl refl (other-number (pos 1) (pos 2) refl)
  from-sint32 kind.Uint64 = other kind.Sint32 kind.Uint64 (Varint 2) (Number (pos 1)) (Some (Number (pos 2))) (record { number = pos 1; has = refl; encoding = refl }) refl refl (other-number (pos 1) (pos 2) refl)
  from-sint32 kind.Sint32 = inl (refl, λ x h. h)
  from-sint32 kind.Sint64 = inl (refl, signed-more)
  from-sint32 kind.Boolean = other kind.Sint32 kind.Boolean (Varint 4) (Number (pos 2)) (Some (Number (pos 1))) (record { number = pos 2; has = refl; encoding = refl }) refl refl (other-number (pos 2) (pos 1) refl)
  from-sint32 (kind.Enum e) = other kind.Sint32 (kind.Enum e) (Varint 2) (Number (pos 1)) (option_map (number_item Plain) (cond (new.has_value e (pos 2)) (Some (pos 2)) None)) (record { number = pos 1; has = refl; encoding = refl }) refl refl (enum-number (new.has_value e (pos 2)) (pos 1) (pos 2) refl)
  from-sint32 l = unknown kind.Sint32 l (Varint 2) (Number (pos 1)) (record { number = pos 1; has = refl; encoding = refl }) refl refl

  from-sint64 : (l : Kind) → Decided kind.Sint64 l
  unfolding IsValue has_number encoded taken number_read
  from-sint64 kind.Int32 = other kind.Sint64 kind.Int32 (Varint 2) (Number (pos 1)) (Some (Number (pos 2))) (record { number = pos 1; has = refl; encoding = refl }) refl refl (other-number (pos 1) (pos 2) refl)
  from-sint64 kind.Int64 = other kind.Sint64 kind.Int64 (Varint 2) (Number (pos 1)) (Some (Number (pos 2))) (record { number = pos 1; has = refl; encoding = refl }) refl refl (other-number (pos 1) (pos 2) refl)
  from-sint64 kind.Uint32 = other kind.Sint64 kind.Uint32 (Varint 2) (Number (pos 1)) (Some (Number (pos 2))) (record { number = pos 1; has = refl; encoding = refl }) refl refl (other-number (pos 1) (pos 2) refl)
  from-sint64 kind.Uint64 = other kind.Sint64 kind.Uint64 (Varint 2) (Number (pos 1)) (Some (Number (pos 2))) (record { number = pos 1; has = refl; encoding = refl }) refl refl (other-number (pos 1) (pos 2) refl)
  from-sint64 kind.Sint32 = other kind.Sint64 kind.Sint32 (Varint 8589934590) (Number (pos 4294967295)) (Some (Number (pos 2147483647))) (record { number = pos 4294967295; has = refl; encoding = refl }) refl refl (other-number (pos 4294967295) (pos 2147483647) refl)
  from-sint64 kind.Sint64 = inl (refl, λ x h. h)
  from-sint64 kind.Boolean = other kind.Sint64 kind.Boolean (Varint 4) (Number (pos 2)) (Some (Number (pos 1))) (record { number = pos 2; has = refl; encoding = refl }) refl refl (other-number (pos 2) (pos 1) refl)
  from-sint64 (kind.Enum e) = other kind.Sint64 (kind.Enum e) (Varint 2) (Number (pos 1)) (option_map (number_item Plain) (cond (new.has_value e (pos 2)) (Some (pos 2)) None)) (record { number = pos 1; has = refl; encoding = refl }) refl refl (enum-number (new.has_value e (pos 2)) (pos 1) (pos 2) refl)
  from-sint64 l = unknown kind.Sint64 l (Varint 2) (Number (pos 1)) (record { number = pos 1; has = refl; encoding = refl }) refl refl

  from-fixed32 : (l : Kind) → Decided kind.Fixed32 l
  unfolding IsValue has_number encoded taken number_read
  from-fixed32 kind.Float = other kind.Fixed32 kind.Float (Fixed32 1) (Number (pos 1)) (Some (Bits (pos 1))) (record { number = pos 1; has = refl; encoding = refl }) refl refl (number-bits (pos 1) (pos 1))
  from-fixed32 kind.Fixed32 = inl (refl, λ x h. h)
  from-fixed32 kind.Sfixed32 = other kind.Fixed32 kind.Sfixed32 (Fixed32 4294967295) (Number (pos 4294967295)) (Some (Number (negsuc 0))) (record { number = pos 4294967295; has = refl; encoding = refl }) refl refl (other-number (pos 4294967295) (negsuc 0) refl)
  from-fixed32 l = unknown kind.Fixed32 l (Fixed32 1) (Number (pos 1)) (record { number = pos 1; has = refl; encoding = refl }) refl refl

  from-fixed64 : (l : Kind) → Decided kind.Fixed64 l
  unfolding IsValue has_number encoded taken number_read
  from-fixed64 kind.Double = other kind.Fixed64 kind.Double (Fixed64 1) (Number (pos 1)) (Some (Bits (pos 1))) (record { number = pos 1; has = refl; encoding = refl }) refl refl (number-bits (pos 1) (pos 1))
  from-fixed64 kind.Fixed64 = inl (refl, λ x h. h)
  from-fixed64 kind.Sfixed64 = other kind.Fixed64 kind.Sfixed64 (Fixed64 18446744073709551615) (Number (pos 18446744073709551615)) (Some (Number (negsuc 0))) (record { number = pos 18446744073709551615; has = refl; encoding = refl }) refl refl (other-number (pos 18446744073709551615) (negsuc 0) refl)
  from-fixed64 l = unknown kind.Fixed64 l (Fixed64 1) (Number (pos 1)) (record { number = pos 1; has = refl; encoding = refl }) refl refl

  from-sfixed32 : (l : Kind) → Decided kind.Sfixed32 l
  unfolding IsValue has_number encoded taken number_read
  from-sfixed32 kind.Float = other kind.Sfixed32 kind.Float (Fixed32 1) (Number (pos 1)) (Some (Bits (pos 1))) (record { number = pos 1; has = refl; encoding = refl }) refl refl (number-bits (pos 1) (pos 1))
  from-sfixed32 kind.Fixed32 = other kind.Sfixed32 kind.Fixed32 (Fixed32 4294967295) (Number (negsuc 0)) (Some (Number (pos 4294967295))) (record { number = negsuc 0; has = refl; encoding = refl }) refl refl (other-number (negsuc 0) (pos 4294967295) refl)
  from-sfixed32 kind.Sfixed32 = inl (refl, λ x h. h)
  from-sfixed32 l = unknown kind.Sfixed32 l (Fixed32 1) (Number (pos 1)) (record { number = pos 1; has = refl; encoding = refl }) refl refl

  from-sfixed64 : (l : Kind) → Decided kind.Sfixed64 l
  unfolding IsValue has_number encoded taken number_read
  from-sfixed64 kind.Double = other kind.Sfixed64 kind.Double (Fixed64 1) (Number (pos 1)) (Some (Bits (pos 1))) (record { number = pos 1; has = refl; encoding = refl }) refl refl (number-bits (pos 1) (pos 1))
  from-sfixed64 kind.Fixed64 = other kind.Sfixed64 kind.Fixed64 (Fixed64 18446744073709551615) (Number (negsuc 0)) (Some (Number (pos 18446744073709551615))) (record { number = negsuc 0; has = refl; encoding = refl }) refl refl (other-number (negsuc 0) (pos 18446744073709551615) refl)
  from-sfixed64 kind.Sfixed64 = inl (refl, λ x h. h)
  from-sfixed64 l = unknown kind.Sfixed64 l (Fixed64 1) (Number (pos 1)) (record { number = pos 1; has = refl; encoding = refl }) refl refl

  from-boolean : (l : Kind) → Decided kind.Boolean l
  unfolding IsValue has_number encoded taken number_read
  from-boolean kind.Int32 = inl (refl, bit-signed)
  from-boolean kind.Int64 = inl (refl, λ x h. signed-more x (bit-signed x h))
  from-boolean kind.Uint32 = inl (refl, bit-unsigned)
  from-boolean kind.Uint64 = inl (refl, λ x h. unsigned-more x (bit-unsigned x h))
  from-boolean kind.Sint32 = other kind.Boolean kind.Sint32 (Varint 1) (Number (pos 1)) (Some (Number (negsuc 0))) (record { number = pos 1; has = refl; encoding = refl }) refl refl (other-number (pos 1) (negsuc 0) refl)
  from-boolean kind.Sint64 = other kind.Boolean kind.Sint64 (Varint 1) (Number (pos 1)) (Some (Number (negsuc 0))) (record { number = pos 1; has = refl; encoding = refl }) refl refl (other-number (pos 1) (negsuc 0) refl)
  from-boolean kind.Boolean = inl (refl, λ x h. h)
  from-boolean (kind.Enum e) = boolean-enum e (new.has_value e (pos 0)) (new.has_value e (pos 1)) refl refl
  from-boolean l = unknown kind.Boolean l (Varint 1) (Number (pos 1)) (record { number = pos 1; has = refl; encoding = refl }) refl refl

  -- texts: no packed numbers, no group, no message in the byte 8, which breaks off, and no text that is checked in the byte 255
  from-bytes : (l : Kind) → Decided kind.Bytes l
  unfolding IsValue taken is_utf8 chars values levels first_tokens token tag varint token.value delimited fixed
  from-bytes kind.Bytes = inl (λ bytes h. refl)
  from-bytes (kind.Text false) = inl (λ bytes h. refl)
  from-bytes (kind.Text true) = unknown kind.Bytes (kind.Text true) (Bytes (255 ∷ [])) (Text (255 ∷ [])) refl refl refl
  from-bytes (kind.Message m) = unknown kind.Bytes (kind.Message m) (Bytes (8 ∷ [])) (Text (8 ∷ [])) refl refl refl
  from-bytes (kind.Group m) = unknown kind.Bytes (kind.Group m) (Bytes []) (Text []) refl refl refl
  from-bytes kind.Double = unknown kind.Bytes kind.Double (Bytes []) (Text []) refl refl (none-packed new (after kind.Double) DoubleBits)
  from-bytes kind.Float = unknown kind.Bytes kind.Float (Bytes []) (Text []) refl refl (none-packed new (after kind.Float) FloatBits)
  from-bytes kind.Int32 = unknown kind.Bytes kind.Int32 (Bytes []) (Text []) refl refl (none-packed new (after kind.Int32) Plain)
  from-bytes kind.Int64 = unknown kind.Bytes kind.Int64 (Bytes []) (Text []) refl refl (none-packed new (after kind.Int64) Plain)
  from-bytes kind.Uint32 = unknown kind.Bytes kind.Uint32 (Bytes []) (Text []) refl refl (none-packed new (after kind.Uint32) Plain)
  from-bytes kind.Uint64 = unknown kind.Bytes kind.Uint64 (Bytes []) (Text []) refl refl (none-packed new (after kind.Uint64) Plain)
  from-bytes kind.Sint32 = unknown kind.Bytes kind.Sint32 (Bytes []) (Text []) refl refl (none-packed new (after kind.Sint32) ZigZag)
  from-bytes kind.Sint64 = unknown kind.Bytes kind.Sint64 (Bytes []) (Text []) refl refl (none-packed new (after kind.Sint64) ZigZag)
  from-bytes kind.Fixed32 = unknown kind.Bytes kind.Fixed32 (Bytes []) (Text []) refl refl (none-packed new (after kind.Fixed32) Four)
  from-bytes kind.Fixed64 = unknown kind.Bytes kind.Fixed64 (Bytes []) (Text []) refl refl (none-packed new (after kind.Fixed64) Eight)
  from-bytes kind.Sfixed32 = unknown kind.Bytes kind.Sfixed32 (Bytes []) (Text []) refl refl (none-packed new (after kind.Sfixed32) Four)
  from-bytes kind.Sfixed64 = unknown kind.Bytes kind.Sfixed64 (Bytes []) (Text []) refl refl (none-packed new (after kind.Sfixed64) Eight)
  from-bytes kind.Boolean = unknown kind.Bytes kind.Boolean (Bytes []) (Text []) refl refl (none-packed new (after kind.Boolean) Plain)
  from-bytes (kind.Enum e) = unknown kind.Bytes (kind.Enum e) (Bytes []) (Text []) refl refl (none-packed new (after (kind.Enum e)) Plain)

  from-text : (l : Kind) → Decided (kind.Text false) l
  unfolding IsValue taken is_utf8 chars values levels first_tokens token tag varint token.value delimited fixed
  from-text kind.Bytes = inl (λ bytes h. refl)
  from-text (kind.Text false) = inl (λ bytes h. refl)
  from-text (kind.Text true) = unknown (kind.Text false) (kind.Text true) (Bytes (255 ∷ [])) (Text (255 ∷ [])) refl refl refl
  from-text (kind.Message m) = unknown (kind.Text false) (kind.Message m) (Bytes (8 ∷ [])) (Text (8 ∷ [])) refl refl refl
  from-text (kind.Group m) = unknown (kind.Text false) (kind.Group m) (Bytes []) (Text []) refl refl refl
  from-text kind.Double = unknown (kind.Text false) kind.Double (Bytes []) (Text []) refl refl (none-packed new (after kind.Double) DoubleBits)
  from-text kind.Float = unknown (kind.Text false) kind.Float (Bytes []) (Text []) refl refl (none-packed new (after kind.Float) FloatBits)
  from-text kind.Int32 = unknown (kind.Text false) kind.Int32 (Bytes []) (Text []) refl refl (none-packed new (after kind.Int32) Plain)
  from-text kind.Int64 = unknown (kind.Text false) kind.Int64 (Bytes []) (Text []) refl refl (none-packed new (after kind.Int64) Plain)
  from-text kind.Uint32 = unknown (kind.Text false) kind.Uint32 (Bytes []) (Text []) refl refl (none-packed new (after kind.Uint32) Plain)
  from-text kind.Uint64 = unknown (kind.Text false) kind.Uint64 (Bytes []) (Text []) refl refl (none-packed new (after kind.Uint64) Plain)
  from-text kind.Sint32 = unknown (kind.Text false) kind.Sint32 (Bytes []) (Text []) refl refl (none-packed new (after kind.Sint32) ZigZag)
  from-text kind.Sint64 = unknown (kind.Text false) kind.Sint64 (Bytes []) (Text []) refl refl (none-packed new (after kind.Sint64) ZigZag)
  from-text kind.Fixed32 = unknown (kind.Text false) kind.Fixed32 (Bytes []) (Text []) refl refl (none-packed new (after kind.Fixed32) Four)
  from-text kind.Fixed64 = unknown (kind.Text false) kind.Fixed64 (Bytes []) (Text []) refl refl (none-packed new (after kind.Fixed64) Eight)
  from-text kind.Sfixed32 = unknown (kind.Text false) kind.Sfixed32 (Bytes []) (Text []) refl refl (none-packed new (after kind.Sfixed32) Four)
  from-text kind.Sfixed64 = unknown (kind.Text false) kind.Sfixed64 (Bytes []) (Text []) refl refl (none-packed new (after kind.Sfixed64) Eight)
  from-text kind.Boolean = unknown (kind.Text false) kind.Boolean (Bytes []) (Text []) refl refl (none-packed new (after kind.Boolean) Plain)
  from-text (kind.Enum e) = unknown (kind.Text false) (kind.Enum e) (Bytes []) (Text []) refl refl (none-packed new (after (kind.Enum e)) Plain)

  from-checked : (l : Kind) → Decided (kind.Text true) l
  unfolding IsValue taken is_utf8 chars values levels first_tokens token tag varint token.value delimited fixed lib.Utf8.encode
  from-checked kind.Bytes = inl (λ bytes h. refl)
  from-checked (kind.Text false) = inl (λ bytes h. refl)
  from-checked (kind.Text true) = inl (λ bytes h. h)
  from-checked (kind.Message m) = unknown (kind.Text true) (kind.Message m) (Bytes (8 ∷ [])) (Text (8 ∷ [])) refl refl refl
  from-checked (kind.Group m) = unknown (kind.Text true) (kind.Group m) (Bytes []) (Text []) refl refl refl
  from-checked kind.Double = unknown (kind.Text true) kind.Double (Bytes []) (Text []) refl refl (none-packed new (after kind.Double) DoubleBits)
  from-checked kind.Float = unknown (kind.Text true) kind.Float (Bytes []) (Text []) refl refl (none-packed new (after kind.Float) FloatBits)
  from-checked kind.Int32 = unknown (kind.Text true) kind.Int32 (Bytes []) (Text []) refl refl (none-packed new (after kind.Int32) Plain)
  from-checked kind.Int64 = unknown (kind.Text true) kind.Int64 (Bytes []) (Text []) refl refl (none-packed new (after kind.Int64) Plain)
  from-checked kind.Uint32 = unknown (kind.Text true) kind.Uint32 (Bytes []) (Text []) refl refl (none-packed new (after kind.Uint32) Plain)
  from-checked kind.Uint64 = unknown (kind.Text true) kind.Uint64 (Bytes []) (Text []) refl refl (none-packed new (after kind.Uint64) Plain)
  from-checked kind.Sint32 = unknown (kind.Text true) kind.Sint32 (Bytes []) (Text []) refl refl (none-packed new (after kind.Sint32) ZigZag)
  from-checked kind.Sint64 = unknown (kind.Text true) kind.Sint64 (Bytes []) (Text []) refl refl (none-packed new (after kind.Sint64) ZigZag)
  from-checked kind.Fixed32 = unknown (kind.Text true) kind.Fixed32 (Bytes []) (Text []) refl refl (none-packed new (after kind.Fixed32) Four)
  from-checked kind.Fixed64 = unknown (kind.Text true) kind.Fixed64 (Bytes []) (Text []) refl refl (none-packed new (after kind.Fixed64) Eight)
  from-checked kind.Sfixed32 = unknown (kind.Text true) kind.Sfixed32 (Bytes []) (Text []) refl refl (none-packed new (after kind.Sfixed32) Four)
  from-checked kind.Sfixed64 = unknown (kind.Text true) kind.Sfixed64 (Bytes []) (Text []) refl refl (none-packed new (after kind.Sfixed64) Eight)
  from-checked kind.Boolean = unknown (kind.Text true) kind.Boolean (Bytes []) (Text []) refl refl (none-packed new (after kind.Boolean) Plain)
  from-checked (kind.Enum e) = unknown (kind.Text true) (kind.Enum e) (Bytes []) (Text []) refl refl (none-packed new (after (kind.Enum e)) Plain)

  pub decided : (k l : Kind) → is_scalar k ≡ true → Decided k l
  decided kind.Double l is = from-double l
  decided kind.Float l is = from-float l
  decided kind.Int32 l is = from-int32 l
  decided kind.Int64 l is = from-int64 l
  decided kind.Uint32 l is = from-uint32 l
  decided kind.Uint64 l is = from-uint64 l
  decided kind.Sint32 l is = from-sint32 l
  decided kind.Sint64 l is = from-sint64 l
  decided kind.Fixed32 l is = from-fixed32 l
  decided kind.Fixed64 l is = from-fixed64 l
  decided kind.Sfixed32 l is = from-sfixed32 l
  decided kind.Sfixed64 l is = from-sfixed64 l
  decided kind.Boolean l is = from-boolean l
  decided kind.Bytes l is = from-bytes l
  decided (kind.Text false) l is = from-text l
  decided (kind.Text true) l is = from-checked l
  decided (kind.Enum e) l is = absurd (false≢true is)
  decided (kind.Message m) l is = absurd (false≢true is)
  decided (kind.Group m) l is = absurd (false≢true is)

-- an item of a scalar type holds no message
scalar-within : (P : Fact) (k : Kind) (x : Item) → is_scalar k ≡ true → OfMessage P (form k) x
scalar-within P kind.Double x is = tt
scalar-within P kind.Float x is = tt
scalar-within P kind.Int32 x is = tt
scalar-within P kind.Int64 x is = tt
scalar-within P kind.Uint32 x is = tt
scalar-within P kind.Uint64 x is = tt
scalar-within P kind.Sint32 x is = tt
scalar-within P kind.Sint64 x is = tt
scalar-within P kind.Fixed32 x is = tt
scalar-within P kind.Fixed64 x is = tt
scalar-within P kind.Sfixed32 x is = tt
scalar-within P kind.Sfixed64 x is = tt
scalar-within P kind.Boolean x is = tt
scalar-within P kind.Bytes x is = tt
scalar-within P (kind.Text checked) x is = tt
scalar-within P (kind.Enum e) x is = absurd (false≢true is)
scalar-within P (kind.Message m) x is = absurd (false≢true is)
scalar-within P (kind.Group m) x is = absurd (false≢true is)

scalar-item : (s : Schema) (c : Cardinality) (o : Option ℕ) (k : Kind) → is_scalar k ≡ true → (x : Item) × IsItem s (record { kind = k; cardinality = c; oneof = o }) x
unfolding has_number is_utf8 chars
scalar-item s c o kind.Double is = (Bits (pos 1), (refl, refl))
scalar-item s c o kind.Float is = (Bits (pos 1), (refl, refl))
scalar-item s c o kind.Int32 is = (Number (pos 1), (refl, refl))
scalar-item s c o kind.Int64 is = (Number (pos 1), (refl, refl))
scalar-item s c o kind.Uint32 is = (Number (pos 1), (refl, refl))
scalar-item s c o kind.Uint64 is = (Number (pos 1), (refl, refl))
scalar-item s c o kind.Sint32 is = (Number (pos 1), (refl, refl))
scalar-item s c o kind.Sint64 is = (Number (pos 1), (refl, refl))
scalar-item s c o kind.Fixed32 is = (Number (pos 1), (refl, refl))
scalar-item s c o kind.Fixed64 is = (Number (pos 1), (refl, refl))
scalar-item s c o kind.Sfixed32 is = (Number (pos 1), (refl, refl))
scalar-item s c o kind.Sfixed64 is = (Number (pos 1), (refl, refl))
scalar-item s c o kind.Boolean is = (Number (pos 1), (refl, refl))
scalar-item s c o kind.Bytes is = (Text [], refl)
scalar-item s c o (kind.Text true) is = (Text [], refl)
scalar-item s c o (kind.Text false) is = (Text [], refl)
scalar-item s c o (kind.Enum e) is = absurd (false≢true is)
scalar-item s c o (kind.Message m) is = absurd (false≢true is)
scalar-item s c o (kind.Group m) is = absurd (false≢true is)

-- so where a kind is not kept, something is lost
pub other-kind : OtherKindIsLost
other-kind old new pairs besides m n i f g e e' optional scalar unkept levels vs w =
    elim (decided pairs old new f.cardinality g.cardinality f.oneof g.oneof f.kind g.kind scalar) [
      | inl kept ↦ absurd (unkept kept)
      | inr other ↦ other-value old new besides m n i f g e e' optional other levels (scalar-within (IsWrittenWithin old besides levels) f.kind other.item scalar) vs w
    ]

-- each field of a scalar type has an item: 1, or the empty text
pub scalar-has : ScalarHasItem
scalar-has s besides levels f scalar =
    let has = scalar-item s f.cardinality f.oneof f.kind scalar in
    record { item = has.0; writes = item-written s f has.0 has.1; within = scalar-within (IsWrittenWithin s besides levels) f.kind has.0 scalar }
