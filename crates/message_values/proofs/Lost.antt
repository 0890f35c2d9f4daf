-- What is lost of each old schema.
use Rattle.std.proofs.Common.{◌≡◌, ◌≢◌, ℕ, ℤ, pos, negsuc, Bool, true, false, cond, eqb, ◌||◌, List, [], ◌∷◌, ◌++◌, Option, Some, None, refl, ap, sym, subst, subst₂, ◌∙◌}
use Rattle.std.proofs.lemmas.Bool.{eqb-true, false≢true}
use Rattle.std.proofs.lemmas.Bool.Decides.{Decides-int_eq}
use Rattle.std.specs.List.{AllByRecursion}
use Rattle.std.specs.Ordering.{int_eq}
use Rattle.std.specs.Str.{is_utf8, chars}
use Rattle.message_values.proofs.Lists.{all_of}
use Rattle.wire_format.specs.Varints.{varint, tag}
use Rattle.wire_format.specs.Tokens.{fixed, delimited, token}
use Rattle.wire_format.specs.Tokens as token
use Rattle.wire_format.specs.Fields.{first_tokens}
use Rattle.message_values.specs.Values.{Value, Varint, Fixed64, Bytes, Group, Fixed32, Numbered, Nothing, levels, values}
use Rattle.message_values.specs.Schema.{Schema, Kind, Field, Cardinality, Optional, Required, Repeated}
use Rattle.message_values.specs.Schema as kind
use Rattle.message_values.specs.Numbers.{has_number, number_read, encoded}
use Rattle.message_values.specs.Fields.{Item, Number, Bits, Text, Message, Refused, Unknown, Items, in_one, taken, items_in, counted, value}
use Rattle.message_values.specs.Reading.{Fact, OfMessages, TakenWith, TooDeep, AreWellFormed, IsComplete, IsRead}
use Rattle.message_values.specs.Writing.{Besides, IsValue, IsValueOf, IsWrittenOver, IsWritten}
use Rattle.message_values.specs.Kept.{KeepsAll}
use Rattle.message_values.specs.Carried.{AreCarried}
use Rattle.message_values.specs.Lost.{AllLose, Loses, LosesTogether, LosesWidths, varints, fours, eights, texts, fields_one_and_two, field_one, two_fields, enum_of, open_enum, optional, required, repeated, in_oneof, no_field, field_within, message_of, holding, needing, losing, losing_numbers}

abbrev at : ℕ → Value → Numbered
at n v = record { number = n; value = v }

-- ---- written by a schema of one field

only-one : (f g : Field) (n : ℕ) (b c : Bool) → eqb n 1 ≡ b → cond b (Some f) (cond c None None) ≡ Some g → (n ≡ 1) × (f ≡ g)
only-one f g n true c e h = let same : f ≡ g = cc in (eqb-true n 1 e, same)
only-one f g n false true e h = absurd cc
only-one f g n false false e h = absurd cc

written-one : (f : Field) (has : ℤ → Bool) (vs : List Numbered) → (f.cardinality ≢ Required) → ((P : Fact) (xs : List Item) → OfMessages P f.kind xs)
    → AllByRecursion (λ x. IsValueOf (fields_one_and_two f None has) false ((fields_one_and_two f None has).field 0 x.number) x.value) vs → IsWritten (fields_one_and_two f None has) (λ m k. false) 0 0 vs
unfolding IsWritten
written-one f has vs free bare known = record {
  known = known;
  oneofs = λ n k g h e e' one a b. (only-one f g n (eqb n 1) (eqb n 2) refl e).0 ∙ sym (only-one f h k (eqb k 1) (eqb k 2) refl e').0;
  required = λ n g e req. absurd (free (ap (λ (x : Field). x.cardinality) (only-one f g n (eqb n 1) (eqb n 2) refl e).1 ∙ req));
  within = λ n g e. subst (λ (x : Field). OfMessages TooDeep x.kind (value (fields_one_and_two f None has) 0 n g vs)) (only-one f g n (eqb n 1) (eqb n 2) refl e).1 (bare TooDeep _);
}

optional-free : Optional ≢ Required
optional-free h = absurd cc

repeated-free : Repeated ≢ Required
repeated-free h = absurd cc

-- ---- read otherwise

differ : (s t : Schema) (f g : Field) (vs : List Numbered) → s.field 0 1 ≡ Some f → t.field 0 1 ≡ Some g → value s 0 1 f vs ≢ counted f.cardinality (value t 0 1 g vs) → IsRead t 0 0 vs → AreCarried s t 0 0 0 vs → ⊥
unfolding AreCarried
differ s t f g vs e e' apart read carried = apart (carried.same 1 f g e e')

-- an optional field of another kind has another value
other-value : (k l : Kind) (has : ℤ → Bool) (v : Value) (xs ys : List Item) → ((P : Fact) (zs : List Item) → OfMessages P k zs) → IsValue (fields_one_and_two (optional k) None has) (optional k) v
    → value (fields_one_and_two (optional k) None has) 0 1 (optional k) (at 1 v ∷ []) ≡ xs → value (field_one (optional l)) 0 1 (optional l) (at 1 v ∷ []) ≡ ys → xs ≢ counted Optional ys
    → Loses (fields_one_and_two (optional k) None has) (field_one (optional l))
other-value k l has v xs ys bare is e e' apart = record {
  levels = 0;
  values = at 1 v ∷ [];
  written = written-one (optional k) has (at 1 v ∷ []) optional-free bare (is, tt);
  lost = differ (fields_one_and_two (optional k) None has) (field_one (optional l)) (optional k) (optional l) (at 1 v ∷ []) refl refl (λ same. apart (sym e ∙ same ∙ ap (counted Optional) e'));
}

numbers-differ : (x y : ℤ) → int_eq x y ≡ false → Number x ∷ [] ≢ Number y ∷ []
numbers-differ x y h e = let same : x ≡ y = cc in false≢true (sym h ∙ (Decides-int_eq x y).1 same)

none-there : (x : Item) → x ∷ [] ≢ []
none-there x e = absurd cc

abbrev none_has : ℤ → Bool
none_has x = false

-- ---- numbers

bits-differ : (x y : ℤ) → Bits x ∷ [] ≢ Number y ∷ []
bits-differ x y e = absurd cc

long : Loses (field_one (optional kind.Int64)) (field_one (optional kind.Int32))
unfolding IsValue has_number encoded value taken number_read
long = other-value kind.Int64 kind.Int32 none_has (Varint 1099511627776) (Number (pos 1099511627776) ∷ []) (Number (pos 0) ∷ []) (λ P. all_of _ (λ x. tt)) (record { number = pos 1099511627776; has = refl; encoding = refl }) refl refl (numbers-differ _ _ refl)

long-unsigned : Loses (field_one (optional kind.Uint64)) (field_one (optional kind.Uint32))
unfolding IsValue has_number encoded value taken number_read
long-unsigned = other-value kind.Uint64 kind.Uint32 none_has (Varint 1099511627776) (Number (pos 1099511627776) ∷ []) (Number (pos 0) ∷ []) (λ P. all_of _ (λ x. tt)) (record { number = pos 1099511627776; has = refl; encoding = refl }) refl refl (numbers-differ _ _ refl)

negative : Loses (field_one (optional kind.Int32)) (field_one (optional kind.Uint32))
unfolding IsValue has_number encoded value taken number_read
negative = other-value kind.Int32 kind.Uint32 none_has (Varint 18446744073709551615) (Number (negsuc 0) ∷ []) (Number (pos 4294967295) ∷ []) (λ P. all_of _ (λ x. tt)) (record { number = negsuc 0; has = refl; encoding = refl }) refl refl (numbers-differ _ _ refl)

negative-long : Loses (field_one (optional kind.Int32)) (field_one (optional kind.Uint64))
unfolding IsValue has_number encoded value taken number_read
negative-long = other-value kind.Int32 kind.Uint64 none_has (Varint 18446744073709551615) (Number (negsuc 0) ∷ []) (Number (pos 18446744073709551615) ∷ []) (λ P. all_of _ (λ x. tt)) (record { number = negsuc 0; has = refl; encoding = refl }) refl refl (numbers-differ _ _ refl)

unsigned : Loses (field_one (optional kind.Uint32)) (field_one (optional kind.Int32))
unfolding IsValue has_number encoded value taken number_read
unsigned = other-value kind.Uint32 kind.Int32 none_has (Varint 4294967295) (Number (pos 4294967295) ∷ []) (Number (negsuc 0) ∷ []) (λ P. all_of _ (λ x. tt)) (record { number = pos 4294967295; has = refl; encoding = refl }) refl refl (numbers-differ _ _ refl)

unsigned-long : Loses (field_one (optional kind.Uint64)) (field_one (optional kind.Int64))
unfolding IsValue has_number encoded value taken number_read
unsigned-long = other-value kind.Uint64 kind.Int64 none_has (Varint 18446744073709551615) (Number (pos 18446744073709551615) ∷ []) (Number (negsuc 0) ∷ []) (λ P. all_of _ (λ x. tt)) (record { number = pos 18446744073709551615; has = refl; encoding = refl }) refl refl (numbers-differ _ _ refl)

signed-long : Loses (field_one (optional kind.Int64)) (field_one (optional kind.Uint64))
unfolding IsValue has_number encoded value taken number_read
signed-long = other-value kind.Int64 kind.Uint64 none_has (Varint 18446744073709551615) (Number (negsuc 0) ∷ []) (Number (pos 18446744073709551615) ∷ []) (λ P. all_of _ (λ x. tt)) (record { number = negsuc 0; has = refl; encoding = refl }) refl refl (numbers-differ _ _ refl)

truth : Loses (field_one (optional kind.Int32)) (field_one (optional kind.Boolean))
unfolding IsValue has_number encoded value taken number_read
truth = other-value kind.Int32 kind.Boolean none_has (Varint 2) (Number (pos 2) ∷ []) (Number (pos 1) ∷ []) (λ P. all_of _ (λ x. tt)) (record { number = pos 2; has = refl; encoding = refl }) refl refl (numbers-differ _ _ refl)

by-turns : Loses (field_one (optional kind.Int32)) (field_one (optional kind.Sint32))
unfolding IsValue has_number encoded value taken number_read
by-turns = other-value kind.Int32 kind.Sint32 none_has (Varint 1) (Number (pos 1) ∷ []) (Number (negsuc 0) ∷ []) (λ P. all_of _ (λ x. tt)) (record { number = pos 1; has = refl; encoding = refl }) refl refl (numbers-differ _ _ refl)

no-turns : Loses (field_one (optional kind.Sint32)) (field_one (optional kind.Int32))
unfolding IsValue has_number encoded value taken number_read
no-turns = other-value kind.Sint32 kind.Int32 none_has (Varint 2) (Number (pos 1) ∷ []) (Number (pos 2) ∷ []) (λ P. all_of _ (λ x. tt)) (record { number = pos 1; has = refl; encoding = refl }) refl refl (numbers-differ _ _ refl)

long-turns : Loses (field_one (optional kind.Sint64)) (field_one (optional kind.Sint32))
unfolding IsValue has_number encoded value taken number_read
long-turns = other-value kind.Sint64 kind.Sint32 none_has (Varint 1099511627776) (Number (pos 549755813888) ∷ []) (Number (pos 0) ∷ []) (λ P. all_of _ (λ x. tt)) (record { number = pos 549755813888; has = refl; encoding = refl }) refl refl (numbers-differ _ _ refl)

fixed-signed : Loses (field_one (optional kind.Fixed32)) (field_one (optional kind.Sfixed32))
unfolding IsValue has_number encoded value taken number_read
fixed-signed = other-value kind.Fixed32 kind.Sfixed32 none_has (Fixed32 4294967295) (Number (pos 4294967295) ∷ []) (Number (negsuc 0) ∷ []) (λ P. all_of _ (λ x. tt)) (record { number = pos 4294967295; has = refl; encoding = refl }) refl refl (numbers-differ _ _ refl)

fixed-unsigned : Loses (field_one (optional kind.Sfixed32)) (field_one (optional kind.Fixed32))
unfolding IsValue has_number encoded value taken number_read
fixed-unsigned = other-value kind.Sfixed32 kind.Fixed32 none_has (Fixed32 4294967295) (Number (negsuc 0) ∷ []) (Number (pos 4294967295) ∷ []) (λ P. all_of _ (λ x. tt)) (record { number = negsuc 0; has = refl; encoding = refl }) refl refl (numbers-differ _ _ refl)

long-fixed-signed : Loses (field_one (optional kind.Fixed64)) (field_one (optional kind.Sfixed64))
unfolding IsValue has_number encoded value taken number_read
long-fixed-signed = other-value kind.Fixed64 kind.Sfixed64 none_has (Fixed64 18446744073709551615) (Number (pos 18446744073709551615) ∷ []) (Number (negsuc 0) ∷ []) (λ P. all_of _ (λ x. tt)) (record { number = pos 18446744073709551615; has = refl; encoding = refl }) refl refl (numbers-differ _ _ refl)

long-fixed-unsigned : Loses (field_one (optional kind.Sfixed64)) (field_one (optional kind.Fixed64))
unfolding IsValue has_number encoded value taken number_read
long-fixed-unsigned = other-value kind.Sfixed64 kind.Fixed64 none_has (Fixed64 18446744073709551615) (Number (negsuc 0) ∷ []) (Number (pos 18446744073709551615) ∷ []) (λ P. all_of _ (λ x. tt)) (record { number = negsuc 0; has = refl; encoding = refl }) refl refl (numbers-differ _ _ refl)

float-fixed : Loses (field_one (optional kind.Float)) (field_one (optional kind.Fixed32))
unfolding IsValue has_number encoded value taken number_read
float-fixed = other-value kind.Float kind.Fixed32 none_has (Fixed32 1) (Bits (pos 1) ∷ []) (Number (pos 1) ∷ []) (λ P. all_of _ (λ x. tt)) (record { number = pos 1; has = refl; encoding = refl }) refl refl (bits-differ (pos 1) (pos 1))

fixed-float : Loses (field_one (optional kind.Fixed32)) (field_one (optional kind.Float))
unfolding IsValue has_number encoded value taken number_read
fixed-float = other-value kind.Fixed32 kind.Float none_has (Fixed32 1) (Number (pos 1) ∷ []) (Bits (pos 1) ∷ []) (λ P. all_of _ (λ x. tt)) (record { number = pos 1; has = refl; encoding = refl }) refl refl (λ e. bits-differ (pos 1) (pos 1) (sym e))

float-signed : Loses (field_one (optional kind.Float)) (field_one (optional kind.Sfixed32))
unfolding IsValue has_number encoded value taken number_read
float-signed = other-value kind.Float kind.Sfixed32 none_has (Fixed32 1) (Bits (pos 1) ∷ []) (Number (pos 1) ∷ []) (λ P. all_of _ (λ x. tt)) (record { number = pos 1; has = refl; encoding = refl }) refl refl (bits-differ (pos 1) (pos 1))

double-fixed : Loses (field_one (optional kind.Double)) (field_one (optional kind.Fixed64))
unfolding IsValue has_number encoded value taken number_read
double-fixed = other-value kind.Double kind.Fixed64 none_has (Fixed64 1) (Bits (pos 1) ∷ []) (Number (pos 1) ∷ []) (λ P. all_of _ (λ x. tt)) (record { number = pos 1; has = refl; encoding = refl }) refl refl (bits-differ (pos 1) (pos 1))

fixed-double : Loses (field_one (optional kind.Fixed64)) (field_one (optional kind.Double))
unfolding IsValue has_number encoded value taken number_read
fixed-double = other-value kind.Fixed64 kind.Double none_has (Fixed64 1) (Number (pos 1) ∷ []) (Bits (pos 1) ∷ []) (λ P. all_of _ (λ x. tt)) (record { number = pos 1; has = refl; encoding = refl }) refl refl (λ e. bits-differ (pos 1) (pos 1) (sym e))

double-signed : Loses (field_one (optional kind.Double)) (field_one (optional kind.Sfixed64))
unfolding IsValue has_number encoded value taken number_read
double-signed = other-value kind.Double kind.Sfixed64 none_has (Fixed64 1) (Bits (pos 1) ∷ []) (Number (pos 1) ∷ []) (λ P. all_of _ (λ x. tt)) (record { number = pos 1; has = refl; encoding = refl }) refl refl (bits-differ (pos 1) (pos 1))

int32-sint64 : Loses (field_one (optional kind.Int32)) (field_one (optional kind.Sint64))
unfolding IsValue has_number encoded value taken number_read
int32-sint64 = other-value kind.Int32 kind.Sint64 none_has (Varint 1) (Number (pos 1) ∷ []) (Number (negsuc 0) ∷ []) (λ P. all_of _ (λ x. tt)) (record { number = pos 1; has = refl; encoding = refl }) refl refl (numbers-differ (pos 1) (negsuc 0) refl)

int64-uint32 : Loses (field_one (optional kind.Int64)) (field_one (optional kind.Uint32))
unfolding IsValue has_number encoded value taken number_read
int64-uint32 = other-value kind.Int64 kind.Uint32 none_has (Varint 18446744073709551615) (Number (negsuc 0) ∷ []) (Number (pos 4294967295) ∷ []) (λ P. all_of _ (λ x. tt)) (record { number = negsuc 0; has = refl; encoding = refl }) refl refl (numbers-differ (negsuc 0) (pos 4294967295) refl)

int64-sint32 : Loses (field_one (optional kind.Int64)) (field_one (optional kind.Sint32))
unfolding IsValue has_number encoded value taken number_read
int64-sint32 = other-value kind.Int64 kind.Sint32 none_has (Varint 1) (Number (pos 1) ∷ []) (Number (negsuc 0) ∷ []) (λ P. all_of _ (λ x. tt)) (record { number = pos 1; has = refl; encoding = refl }) refl refl (numbers-differ (pos 1) (negsuc 0) refl)

int64-sint64 : Loses (field_one (optional kind.Int64)) (field_one (optional kind.Sint64))
unfolding IsValue has_number encoded value taken number_read
int64-sint64 = other-value kind.Int64 kind.Sint64 none_has (Varint 1) (Number (pos 1) ∷ []) (Number (negsuc 0) ∷ []) (λ P. all_of _ (λ x. tt)) (record { number = pos 1; has = refl; encoding = refl }) refl refl (numbers-differ (pos 1) (negsuc 0) refl)

int64-boolean : Loses (field_one (optional kind.Int64)) (field_one (optional kind.Boolean))
unfolding IsValue has_number encoded value taken number_read
int64-boolean = other-value kind.Int64 kind.Boolean none_has (Varint 2) (Number (pos 2) ∷ []) (Number (pos 1) ∷ []) (λ P. all_of _ (λ x. tt)) (record { number = pos 2; has = refl; encoding = refl }) refl refl (numbers-differ (pos 2) (pos 1) refl)

uint32-sint32 : Loses (field_one (optional kind.Uint32)) (field_one (optional kind.Sint32))
unfolding IsValue has_number encoded value taken number_read
uint32-sint32 = other-value kind.Uint32 kind.Sint32 none_has (Varint 1) (Number (pos 1) ∷ []) (Number (negsuc 0) ∷ []) (λ P. all_of _ (λ x. tt)) (record { number = pos 1; has = refl; encoding = refl }) refl refl (numbers-differ (pos 1) (negsuc 0) refl)

uint32-sint64 : Loses (field_one (optional kind.Uint32)) (field_one (optional kind.Sint64))
unfolding IsValue has_number encoded value taken number_read
uint32-sint64 = other-value kind.Uint32 kind.Sint64 none_has (Varint 1) (Number (pos 1) ∷ []) (Number (negsuc 0) ∷ []) (λ P. all_of _ (λ x. tt)) (record { number = pos 1; has = refl; encoding = refl }) refl refl (numbers-differ (pos 1) (negsuc 0) refl)

uint32-boolean : Loses (field_one (optional kind.Uint32)) (field_one (optional kind.Boolean))
unfolding IsValue has_number encoded value taken number_read
uint32-boolean = other-value kind.Uint32 kind.Boolean none_has (Varint 2) (Number (pos 2) ∷ []) (Number (pos 1) ∷ []) (λ P. all_of _ (λ x. tt)) (record { number = pos 2; has = refl; encoding = refl }) refl refl (numbers-differ (pos 2) (pos 1) refl)

uint64-int32 : Loses (field_one (optional kind.Uint64)) (field_one (optional kind.Int32))
unfolding IsValue has_number encoded value taken number_read
uint64-int32 = other-value kind.Uint64 kind.Int32 none_has (Varint 1099511627776) (Number (pos 1099511627776) ∷ []) (Number (pos 0) ∷ []) (λ P. all_of _ (λ x. tt)) (record { number = pos 1099511627776; has = refl; encoding = refl }) refl refl (numbers-differ (pos 1099511627776) (pos 0) refl)

uint64-sint32 : Loses (field_one (optional kind.Uint64)) (field_one (optional kind.Sint32))
unfolding IsValue has_number encoded value taken number_read
uint64-sint32 = other-value kind.Uint64 kind.Sint32 none_has (Varint 1) (Number (pos 1) ∷ []) (Number (negsuc 0) ∷ []) (λ P. all_of _ (λ x. tt)) (record { number = pos 1; has = refl; encoding = refl }) refl refl (numbers-differ (pos 1) (negsuc 0) refl)

uint64-sint64 : Loses (field_one (optional kind.Uint64)) (field_one (optional kind.Sint64))
unfolding IsValue has_number encoded value taken number_read
uint64-sint64 = other-value kind.Uint64 kind.Sint64 none_has (Varint 1) (Number (pos 1) ∷ []) (Number (negsuc 0) ∷ []) (λ P. all_of _ (λ x. tt)) (record { number = pos 1; has = refl; encoding = refl }) refl refl (numbers-differ (pos 1) (negsuc 0) refl)

uint64-boolean : Loses (field_one (optional kind.Uint64)) (field_one (optional kind.Boolean))
unfolding IsValue has_number encoded value taken number_read
uint64-boolean = other-value kind.Uint64 kind.Boolean none_has (Varint 2) (Number (pos 2) ∷ []) (Number (pos 1) ∷ []) (λ P. all_of _ (λ x. tt)) (record { number = pos 2; has = refl; encoding = refl }) refl refl (numbers-differ (pos 2) (pos 1) refl)

sint32-int64 : Loses (field_one (optional kind.Sint32)) (field_one (optional kind.Int64))
unfolding IsValue has_number encoded value taken number_read
sint32-int64 = other-value kind.Sint32 kind.Int64 none_has (Varint 2) (Number (pos 1) ∷ []) (Number (pos 2) ∷ []) (λ P. all_of _ (λ x. tt)) (record { number = pos 1; has = refl; encoding = refl }) refl refl (numbers-differ (pos 1) (pos 2) refl)

sint32-uint32 : Loses (field_one (optional kind.Sint32)) (field_one (optional kind.Uint32))
unfolding IsValue has_number encoded value taken number_read
sint32-uint32 = other-value kind.Sint32 kind.Uint32 none_has (Varint 2) (Number (pos 1) ∷ []) (Number (pos 2) ∷ []) (λ P. all_of _ (λ x. tt)) (record { number = pos 1; has = refl; encoding = refl }) refl refl (numbers-differ (pos 1) (pos 2) refl)

sint32-uint64 : Loses (field_one (optional kind.Sint32)) (field_one (optional kind.Uint64))
unfolding IsValue has_number encoded value taken number_read
sint32-uint64 = other-value kind.Sint32 kind.Uint64 none_has (Varint 2) (Number (pos 1) ∷ []) (Number (pos 2) ∷ []) (λ P. all_of _ (λ x. tt)) (record { number = pos 1; has = refl; encoding = refl }) refl refl (numbers-differ (pos 1) (pos 2) refl)

sint32-boolean : Loses (field_one (optional kind.Sint32)) (field_one (optional kind.Boolean))
unfolding IsValue has_number encoded value taken number_read
sint32-boolean = other-value kind.Sint32 kind.Boolean none_has (Varint 4) (Number (pos 2) ∷ []) (Number (pos 1) ∷ []) (λ P. all_of _ (λ x. tt)) (record { number = pos 2; has = refl; encoding = refl }) refl refl (numbers-differ (pos 2) (pos 1) refl)

sint64-int32 : Loses (field_one (optional kind.Sint64)) (field_one (optional kind.Int32))
unfolding IsValue has_number encoded value taken number_read
sint64-int32 = other-value kind.Sint64 kind.Int32 none_has (Varint 2) (Number (pos 1) ∷ []) (Number (pos 2) ∷ []) (λ P. all_of _ (λ x. tt)) (record { number = pos 1; has = refl; encoding = refl }) refl refl (numbers-differ (pos 1) (pos 2) refl)

sint64-int64 : Loses (field_one (optional kind.Sint64)) (field_one (optional kind.Int64))
unfolding IsValue has_number encoded value taken number_read
sint64-int64 = other-value kind.Sint64 kind.Int64 none_has (Varint 2) (Number (pos 1) ∷ []) (Number (pos 2) ∷ []) (λ P. all_of _ (λ x. tt)) (record { number = pos 1; has = refl; encoding = refl }) refl refl (numbers-differ (pos 1) (pos 2) refl)

sint64-uint32 : Loses (field_one (optional kind.Sint64)) (field_one (optional kind.Uint32))
unfolding IsValue has_number encoded value taken number_read
sint64-uint32 = other-value kind.Sint64 kind.Uint32 none_has (Varint 2) (Number (pos 1) ∷ []) (Number (pos 2) ∷ []) (λ P. all_of _ (λ x. tt)) (record { number = pos 1; has = refl; encoding = refl }) refl refl (numbers-differ (pos 1) (pos 2) refl)

sint64-uint64 : Loses (field_one (optional kind.Sint64)) (field_one (optional kind.Uint64))
unfolding IsValue has_number encoded value taken number_read
sint64-uint64 = other-value kind.Sint64 kind.Uint64 none_has (Varint 2) (Number (pos 1) ∷ []) (Number (pos 2) ∷ []) (λ P. all_of _ (λ x. tt)) (record { number = pos 1; has = refl; encoding = refl }) refl refl (numbers-differ (pos 1) (pos 2) refl)

sint64-boolean : Loses (field_one (optional kind.Sint64)) (field_one (optional kind.Boolean))
unfolding IsValue has_number encoded value taken number_read
sint64-boolean = other-value kind.Sint64 kind.Boolean none_has (Varint 4) (Number (pos 2) ∷ []) (Number (pos 1) ∷ []) (λ P. all_of _ (λ x. tt)) (record { number = pos 2; has = refl; encoding = refl }) refl refl (numbers-differ (pos 2) (pos 1) refl)

boolean-sint32 : Loses (field_one (optional kind.Boolean)) (field_one (optional kind.Sint32))
unfolding IsValue has_number encoded value taken number_read
boolean-sint32 = other-value kind.Boolean kind.Sint32 none_has (Varint 1) (Number (pos 1) ∷ []) (Number (negsuc 0) ∷ []) (λ P. all_of _ (λ x. tt)) (record { number = pos 1; has = refl; encoding = refl }) refl refl (numbers-differ (pos 1) (negsuc 0) refl)

boolean-sint64 : Loses (field_one (optional kind.Boolean)) (field_one (optional kind.Sint64))
unfolding IsValue has_number encoded value taken number_read
boolean-sint64 = other-value kind.Boolean kind.Sint64 none_has (Varint 1) (Number (pos 1) ∷ []) (Number (negsuc 0) ∷ []) (λ P. all_of _ (λ x. tt)) (record { number = pos 1; has = refl; encoding = refl }) refl refl (numbers-differ (pos 1) (negsuc 0) refl)

sfixed32-float : Loses (field_one (optional kind.Sfixed32)) (field_one (optional kind.Float))
unfolding IsValue has_number encoded value taken number_read
sfixed32-float = other-value kind.Sfixed32 kind.Float none_has (Fixed32 1) (Number (pos 1) ∷ []) (Bits (pos 1) ∷ []) (λ P. all_of _ (λ x. tt)) (record { number = pos 1; has = refl; encoding = refl }) refl refl (λ e. bits-differ (pos 1) (pos 1) (sym e))

sfixed64-double : Loses (field_one (optional kind.Sfixed64)) (field_one (optional kind.Double))
unfolding IsValue has_number encoded value taken number_read
sfixed64-double = other-value kind.Sfixed64 kind.Double none_has (Fixed64 1) (Number (pos 1) ∷ []) (Bits (pos 1) ∷ []) (λ P. all_of _ (λ x. tt)) (record { number = pos 1; has = refl; encoding = refl }) refl refl (λ e. bits-differ (pos 1) (pos 1) (sym e))

number-bytes : Loses (field_one (optional kind.Int32)) (field_one (optional kind.Bytes))
unfolding IsValue has_number encoded value taken number_read
number-bytes = other-value kind.Int32 kind.Bytes none_has (Varint 1) (Number (pos 1) ∷ []) [] (λ P. all_of _ (λ x. tt)) (record { number = pos 1; has = refl; encoding = refl }) refl refl (none-there _)

to-closed : Loses (field_one (optional kind.Int32)) (field_one (optional (kind.Enum 0)))
unfolding IsValue has_number encoded value taken number_read
to-closed = other-value kind.Int32 (kind.Enum 0) none_has (Varint 1) (Number (pos 1) ∷ []) [] (λ P. all_of _ (λ x. tt)) (record { number = pos 1; has = refl; encoding = refl }) refl refl (none-there _)

fewer-values : Loses (enum_of (pos 5)) (field_one (optional (kind.Enum 0)))
unfolding IsValue has_number encoded value taken number_read
fewer-values = other-value (kind.Enum 0) (kind.Enum 0) (λ x. int_eq x (pos 5)) (Varint 5) (Number (pos 5) ∷ []) [] (λ P. all_of _ (λ x. tt)) (record { number = pos 5; has = refl; encoding = refl }) refl refl (none-there _)

open-closed : Loses open_enum (field_one (optional (kind.Enum 0)))
unfolding IsValue has_number encoded value taken number_read
open-closed = other-value (kind.Enum 0) (kind.Enum 0) (λ x. true) (Varint 1) (Number (pos 1) ∷ []) [] (λ P. all_of _ (λ x. tt)) (record { number = pos 1; has = refl; encoding = refl }) refl refl (none-there _)

-- ---- kinds of other wire types, to which a value is unknown

nothing-of : (l : Kind) (v : Value) → taken (field_one (optional l)) (optional l) v ≡ Unknown → value (field_one (optional l)) 0 1 (optional l) (at 1 v ∷ []) ≡ []
unfolding value
nothing-of l v h = ap (λ t. counted Optional ([] ++ items_in t)) h

unknown-to : (k : Kind) (v : Value) (x : Item) → ((P : Fact) (zs : List Item) → OfMessages P k zs) → IsValue (field_one (optional k)) (optional k) v → value (field_one (optional k)) 0 1 (optional k) (at 1 v ∷ []) ≡ x ∷ []
    → (ls : List Kind) → AllByRecursion (λ l. taken (field_one (optional l)) (optional l) v ≡ Unknown) ls → AllByRecursion (λ l. Loses (field_one (optional k)) (field_one (optional l))) ls
unknown-to k v x bare is e [] h = tt
unknown-to k v x bare is e (l ∷ ls) h = (other-value k l none_has v (x ∷ []) [] bare is e (nothing-of l v h.0) (none-there x), unknown-to k v x bare is e ls h.1)

varints-lost : AllLose varints (fours ++ (eights ++ texts))
unfolding IsValue has_number encoded value taken number_read
varints-lost = (
  unknown-to kind.Int32 (Varint 1) (Number (pos 1)) (λ P. all_of _ (λ x. tt)) (record { number = pos 1; has = refl; encoding = refl }) refl (fours ++ (eights ++ texts)) (refl, (refl, (refl, (refl, (refl, (refl, (refl, (refl, (refl, tt))))))))),
  (
    unknown-to kind.Int64 (Varint 1) (Number (pos 1)) (λ P. all_of _ (λ x. tt)) (record { number = pos 1; has = refl; encoding = refl }) refl (fours ++ (eights ++ texts)) (refl, (refl, (refl, (refl, (refl, (refl, (refl, (refl, (refl, tt))))))))),
    (
      unknown-to kind.Uint32 (Varint 1) (Number (pos 1)) (λ P. all_of _ (λ x. tt)) (record { number = pos 1; has = refl; encoding = refl }) refl (fours ++ (eights ++ texts)) (refl, (refl, (refl, (refl, (refl, (refl, (refl, (refl, (refl, tt))))))))),
      (
        unknown-to kind.Uint64 (Varint 1) (Number (pos 1)) (λ P. all_of _ (λ x. tt)) (record { number = pos 1; has = refl; encoding = refl }) refl (fours ++ (eights ++ texts)) (refl, (refl, (refl, (refl, (refl, (refl, (refl, (refl, (refl, tt))))))))),
        (
          unknown-to kind.Sint32 (Varint 2) (Number (pos 1)) (λ P. all_of _ (λ x. tt)) (record { number = pos 1; has = refl; encoding = refl }) refl (fours ++ (eights ++ texts)) (refl, (refl, (refl, (refl, (refl, (refl, (refl, (refl, (refl, tt))))))))),
          (
            unknown-to kind.Sint64 (Varint 2) (Number (pos 1)) (λ P. all_of _ (λ x. tt)) (record { number = pos 1; has = refl; encoding = refl }) refl (fours ++ (eights ++ texts)) (refl, (refl, (refl, (refl, (refl, (refl, (refl, (refl, (refl, tt))))))))),
            (
              unknown-to kind.Boolean (Varint 1) (Number (pos 1)) (λ P. all_of _ (λ x. tt)) (record { number = pos 1; has = refl; encoding = refl }) refl (fours ++ (eights ++ texts)) (refl, (refl, (refl, (refl, (refl, (refl, (refl, (refl, (refl, tt))))))))),
              tt,
            ),
          ),
        ),
      ),
    ),
  ),
)

fours-lost : AllLose fours (varints ++ (eights ++ texts))
unfolding IsValue has_number encoded value taken number_read
fours-lost = (
  unknown-to kind.Fixed32 (Fixed32 1) (Number (pos 1)) (λ P. all_of _ (λ x. tt)) (record { number = pos 1; has = refl; encoding = refl }) refl (varints ++ (eights ++ texts)) (refl, (refl, (refl, (refl, (refl, (refl, (refl, (refl, (refl, (refl, (refl, (refl, (refl, tt))))))))))))),
  (
    unknown-to kind.Sfixed32 (Fixed32 1) (Number (pos 1)) (λ P. all_of _ (λ x. tt)) (record { number = pos 1; has = refl; encoding = refl }) refl (varints ++ (eights ++ texts)) (refl, (refl, (refl, (refl, (refl, (refl, (refl, (refl, (refl, (refl, (refl, (refl, (refl, tt))))))))))))),
    (
      unknown-to kind.Float (Fixed32 1) (Bits (pos 1)) (λ P. all_of _ (λ x. tt)) (record { number = pos 1; has = refl; encoding = refl }) refl (varints ++ (eights ++ texts)) (refl, (refl, (refl, (refl, (refl, (refl, (refl, (refl, (refl, (refl, (refl, (refl, (refl, tt))))))))))))),
      tt,
    ),
  ),
)

eights-lost : AllLose eights (varints ++ (fours ++ texts))
unfolding IsValue has_number encoded value taken number_read
eights-lost = (
  unknown-to kind.Fixed64 (Fixed64 1) (Number (pos 1)) (λ P. all_of _ (λ x. tt)) (record { number = pos 1; has = refl; encoding = refl }) refl (varints ++ (fours ++ texts)) (refl, (refl, (refl, (refl, (refl, (refl, (refl, (refl, (refl, (refl, (refl, (refl, (refl, tt))))))))))))),
  (
    unknown-to kind.Sfixed64 (Fixed64 1) (Number (pos 1)) (λ P. all_of _ (λ x. tt)) (record { number = pos 1; has = refl; encoding = refl }) refl (varints ++ (fours ++ texts)) (refl, (refl, (refl, (refl, (refl, (refl, (refl, (refl, (refl, (refl, (refl, (refl, (refl, tt))))))))))))),
    (
      unknown-to kind.Double (Fixed64 1) (Bits (pos 1)) (λ P. all_of _ (λ x. tt)) (record { number = pos 1; has = refl; encoding = refl }) refl (varints ++ (fours ++ texts)) (refl, (refl, (refl, (refl, (refl, (refl, (refl, (refl, (refl, (refl, (refl, (refl, (refl, tt))))))))))))),
      tt,
    ),
  ),
)

texts-lost : AllLose texts (varints ++ (fours ++ eights))
unfolding IsValue value taken is_utf8 chars
texts-lost = (
  unknown-to kind.Bytes (Bytes []) (Text []) (λ P. all_of _ (λ x. tt)) refl refl (varints ++ (fours ++ eights)) (refl, (refl, (refl, (refl, (refl, (refl, (refl, (refl, (refl, (refl, (refl, (refl, (refl, tt))))))))))))),
  (
    unknown-to (kind.Text false) (Bytes []) (Text []) (λ P. all_of _ (λ x. tt)) refl refl (varints ++ (fours ++ eights)) (refl, (refl, (refl, (refl, (refl, (refl, (refl, (refl, (refl, (refl, (refl, (refl, (refl, tt))))))))))))),
    (
      unknown-to (kind.Text true) (Bytes []) (Text []) (λ P. all_of _ (λ x. tt)) refl refl (varints ++ (fours ++ eights)) (refl, (refl, (refl, (refl, (refl, (refl, (refl, (refl, (refl, (refl, (refl, (refl, (refl, tt))))))))))))),
      tt,
    ),
  ),
)

pub widths-lost : LosesWidths
widths-lost = record { of_varints = varints-lost; of_fours = fours-lost; of_eights = eights-lost; of_texts = texts-lost }

-- ---- texts, which the new schema refuses

refused-by : (b : Bool) (bytes : List ℕ) → b ≡ false → TakenWith TooDeep (kind.Text true) (cond (false || b) (Items (Text bytes ∷ [])) Refused) → ⊥
refused-by true bytes e h = absurd (false≢true (sym e))
refused-by false bytes e h = h

refused : (bytes : List ℕ) → is_utf8 bytes ≡ false → IsRead (field_one (optional (kind.Text true))) 0 0 (at 1 (Bytes bytes) ∷ []) → ⊥
unfolding AreWellFormed taken
refused bytes bad read = refused-by (is_utf8 bytes) bytes bad (read.well_formed).0

pub bytes-checked : (bytes : List ℕ) → is_utf8 bytes ≡ false → Loses (field_one (optional kind.Bytes)) (field_one (optional (kind.Text true)))
unfolding IsValue
bytes-checked bytes bad = record {
  levels = 0;
  values = at 1 (Bytes bytes) ∷ [];
  written = written-one (optional kind.Bytes) none_has (at 1 (Bytes bytes) ∷ []) optional-free (λ P. all_of _ (λ x. tt)) (refl, tt);
  lost = λ read carried. refused bytes bad read;
}

pub text-checked : (bytes : List ℕ) → is_utf8 bytes ≡ false → Loses (field_one (optional (kind.Text false))) (field_one (optional (kind.Text true)))
unfolding IsValue
text-checked bytes bad = record {
  levels = 0;
  values = at 1 (Bytes bytes) ∷ [];
  written = written-one (optional (kind.Text false)) none_has (at 1 (Bytes bytes) ∷ []) optional-free (λ P. all_of _ (λ x. tt)) (refl, tt);
  lost = λ read carried. refused bytes bad read;
}

-- ---- cardinalities and oneofs

two-of-them : (x y z : Item) → x ∷ y ∷ [] ≢ z ∷ []
two-of-them x y z e = absurd cc

no-more : Loses (field_one (repeated kind.Int32)) (field_one (optional kind.Int32))
unfolding IsValue has_number encoded value taken number_read
no-more = record {
  levels = 0;
  values = at 1 (Varint 5) ∷ at 1 (Varint 6) ∷ [];
  written = written-one (repeated kind.Int32) none_has (at 1 (Varint 5) ∷ at 1 (Varint 6) ∷ []) repeated-free (λ P. all_of _ (λ x. tt))
      (record { number = pos 5; has = refl; encoding = refl }, (record { number = pos 6; has = refl; encoding = refl }, tt));
  lost = differ (field_one (repeated kind.Int32)) (field_one (optional kind.Int32)) (repeated kind.Int32) (optional kind.Int32) (at 1 (Varint 5) ∷ at 1 (Varint 6) ∷ []) refl refl (two-of-them (Number (pos 5)) (Number (pos 6)) (Number (pos 6)));
}

field-of-two : (f g : Field) (b c : Bool) → cond b (Some f) (cond c (Some f) None) ≡ Some g → f ≡ g
field-of-two f g true c e = cc
field-of-two f g false true e = cc
field-of-two f g false false e = absurd cc

nothing-joins : (f g h : Field) → f.oneof ≡ None → f ≡ g → in_one g.oneof h.oneof ≡ true → ⊥
nothing-joins f g h none same one = false≢true (subst (λ (o : Option ℕ). in_one o h.oneof ≡ true) (ap (λ (x : Field). x.oneof) (sym same) ∙ none) one)

came-together : Loses (two_fields (optional kind.Int32)) (two_fields (in_oneof kind.Int32))
unfolding IsWritten IsValue has_number encoded value taken number_read
came-together = record {
  levels = 0;
  values = at 1 (Varint 5) ∷ at 2 (Varint 6) ∷ [];
  written = record {
    known = (record { number = pos 5; has = refl; encoding = refl }, (record { number = pos 6; has = refl; encoding = refl }, tt));
    oneofs = λ n k g h e e' one a b. absurd (nothing-joins (optional kind.Int32) g h refl (field-of-two (optional kind.Int32) g (eqb n 1) (eqb n 2) e) one);
    required = λ n g e req. absurd (optional-free (ap (λ (x : Field). x.cardinality) (field-of-two (optional kind.Int32) g (eqb n 1) (eqb n 2) e) ∙ req));
    within = λ n g e. subst (λ (x : Field). OfMessages TooDeep x.kind (value (two_fields (optional kind.Int32)) 0 n g (at 1 (Varint 5) ∷ at 2 (Varint 6) ∷ []))) (field-of-two (optional kind.Int32) g (eqb n 1) (eqb n 2) e) (all_of _ (λ x. tt) _);
  };
  lost = differ (two_fields (optional kind.Int32)) (two_fields (in_oneof kind.Int32)) (optional kind.Int32) (in_oneof kind.Int32) (at 1 (Varint 5) ∷ at 2 (Varint 6) ∷ []) refl refl (none-there (Number (pos 5)));
}

wanted : Loses (field_one (optional kind.Int32)) (field_one (required kind.Int32))
unfolding IsComplete value
wanted = record {
  levels = 0;
  values = [];
  written = written-one (optional kind.Int32) none_has [] optional-free (λ P. all_of _ (λ x. tt)) tt;
  lost = λ read carried. (read.complete).required 1 (required kind.Int32) refl refl refl;
}

wanted-anew : Loses no_field (field_one (required kind.Int32))
unfolding IsWritten IsComplete value
wanted-anew = record {
  levels = 0;
  values = [];
  written = record {
    known = tt;
    oneofs = λ n k g h e e' one a b. absurd cc;
    required = λ n g e req. absurd cc;
    within = λ n g e. absurd cc;
  };
  lost = λ read carried. (read.complete).required 1 (required kind.Int32) refl refl refl;
}

-- ---- messages

abbrev none_besides : Besides
none_besides m k = false

-- a message of one field, with number 1
written-over : (inner : Fact) (s : Schema) (m : ℕ) (f : Field) (vs : List Numbered) → ((n : ℕ) (g : Field) → s.field m n ≡ Some g → (n ≡ 1) × (f ≡ g)) → (f.cardinality ≡ Required → value s m 1 f vs ≢ [])
    → OfMessages inner f.kind (value s m 1 f vs) → AllByRecursion (λ x. IsValueOf s false (s.field m x.number) x.value) vs → IsWrittenOver inner s none_besides m vs
written-over inner s m f vs only needs bare known = record {
  known = known;
  oneofs = λ n k g h e e' one a b. (only n g e).0 ∙ sym (only k h e').0;
  required = λ n g e req.
      let is = only n g e in
      subst₂ (λ (k : ℕ) (x : Field). value s m k x vs ≢ []) (sym is.0) is.1 (needs (ap (λ (x : Field). x.cardinality) is.1 ∙ req));
  within = λ n g e.
      let is = only n g e in
      subst₂ (λ (k : ℕ) (x : Field). OfMessages inner x.kind (value s m k x vs)) (sym is.0) is.1 bare;
}

-- the fields of a schema with one field in its first message, and maybe one in others
one-within : (f g h : Field) (b : Bool) (n : ℕ) → eqb n 1 ≡ b → cond b (Some f) None ≡ Some h → (n ≡ 1) × (f ≡ h)
one-within f g h true n e is = let same : f ≡ h = cc in (eqb-true n 1 e, same)
one-within f g h false n e is = absurd cc

none-within : (h : Field) (b : Bool) → cond b None None ≡ Some h → ⊥
none-within h true is = absurd cc
none-within h false is = absurd cc

first-field : (f : Field) (g : Option Field) (n : ℕ) (h : Field) → (field_within f g).field 0 n ≡ Some h → (n ≡ 1) × (f ≡ h)
first-field f g n h = one-within f f h (eqb n 1) n refl

other-field : (f g : Field) (n : ℕ) (h : Field) → (field_within f (Some g)).field 1 n ≡ Some h → (n ≡ 1) × (g ≡ h)
other-field f g n h = one-within g g h (eqb n 1) n refl

-- a message without fields
written-empty : (inner : Fact) (f : Field) → IsWrittenOver inner (field_within f None) none_besides 1 []
written-empty inner f = record {
  known = tt;
  oneofs = λ n k g h e e' one a b. absurd (none-within g (eqb n 1) e);
  required = λ n g e req. absurd (none-within g (eqb n 1) e);
  within = λ n g e. absurd (none-within g (eqb n 1) e);
}

carried-apart : (s t : Schema) (f g : Field) (vs : List Numbered) → s.field 0 1 ≡ Some f → t.field 0 1 ≡ Some g → value s 0 1 f vs ≢ counted f.cardinality (value t 0 1 g vs) → AreCarried s t 1 0 0 vs → ⊥
unfolding AreCarried
carried-apart s t f g vs e e' apart carried = apart (carried.same 1 f g e e')

abbrev empty-message : List Numbered
empty-message = at 1 (Bytes []) ∷ []

-- an empty message is written
writes-empty : (l : Kind) → IsWritten (holding (kind.Message 1)) none_besides 1 0 empty-message
unfolding IsWritten IsValue value taken values levels first_tokens
writes-empty l =
    written-over (IsWritten (holding (kind.Message 1)) none_besides 0) (holding (kind.Message 1)) 0 (optional (kind.Message 1)) empty-message (first-field (optional (kind.Message 1)) None) (λ req. absurd (optional-free req))
    (written-empty TooDeep (optional (kind.Message 1)), tt) (([], refl), tt)

message-group : Loses (holding (kind.Message 1)) (holding (kind.Group 1))
unfolding value taken values levels first_tokens
message-group = record {
  levels = 1;
  values = empty-message;
  written = writes-empty (kind.Group 1);
  lost = λ read. carried-apart (holding (kind.Message 1)) (holding (kind.Group 1)) (optional (kind.Message 1)) (optional (kind.Group 1)) empty-message refl refl (none-there (Message []));
}

item-apart : (vs : List Numbered) (bytes : List ℕ) → Message vs ∷ [] ≢ Text bytes ∷ []
item-apart vs bytes e = absurd cc

message-bytes : Loses (holding (kind.Message 1)) (holding kind.Bytes)
unfolding value taken values levels first_tokens
message-bytes = record {
  levels = 1;
  values = empty-message;
  written = writes-empty kind.Bytes;
  lost = λ read. carried-apart (holding (kind.Message 1)) (holding kind.Bytes) (optional (kind.Message 1)) (optional kind.Bytes) empty-message refl refl (item-apart [] []);
}

abbrev empty-group : List Numbered
empty-group = at 1 (Group Nothing) ∷ []

group-message : Loses (holding (kind.Group 1)) (holding (kind.Message 1))
unfolding IsWritten IsValue value taken
group-message = record {
  levels = 1;
  values = empty-group;
  written = written-over (IsWritten (holding (kind.Group 1)) none_besides 0) (holding (kind.Group 1)) 0 (optional (kind.Group 1)) empty-group (first-field (optional (kind.Group 1)) None) (λ req. absurd (optional-free req))
      (written-empty TooDeep (optional (kind.Group 1)), tt) (tt, tt);
  lost = λ read. carried-apart (holding (kind.Group 1)) (holding (kind.Message 1)) (optional (kind.Group 1)) (optional (kind.Message 1)) empty-group refl refl (none-there (Message []));
}

-- bytes that are no message
abbrev no-message : List Numbered
no-message = at 1 (Bytes (8 ∷ [])) ∷ []

bytes-message : Loses (holding kind.Bytes) (holding (kind.Message 1))
unfolding IsWritten IsValue value taken AreWellFormed values levels first_tokens token tag varint token.value delimited fixed
bytes-message = record {
  levels = 0;
  values = no-message;
  written = written-over TooDeep (holding kind.Bytes) 0 (optional kind.Bytes) no-message (first-field (optional kind.Bytes) None) (λ req. absurd (optional-free req)) (tt, tt) (refl, tt);
  lost = λ read carried. (read.well_formed).0;
}

-- a message whose number another message reads otherwise
abbrev a-number : List Numbered
a-number = at 1 (Varint 2) ∷ []

abbrev number-within : List Numbered
number-within = at 1 (Bytes (8 ∷ 2 ∷ [])) ∷ []

numbers-apart : (x y : ℤ) → int_eq x y ≡ false → Number x ∷ [] ≢ counted Optional (Number y ∷ [])
numbers-apart x y h e = numbers-differ x y h e

other-message : Loses (message_of kind.Int32) (message_of kind.Sint32)
unfolding IsWritten IsValue has_number encoded number_read value taken AreCarried values levels first_tokens token tag varint token.value delimited fixed
other-message = record {
  levels = 1;
  values = number-within;
  written = written-over (IsWritten (message_of kind.Int32) none_besides 0) (message_of kind.Int32) 0 (optional (kind.Message 1)) number-within (first-field (optional (kind.Message 1)) (Some (optional kind.Int32))) (λ req. absurd (optional-free req)) (
    written-over TooDeep (message_of kind.Int32) 1 (optional kind.Int32) a-number (other-field (optional (kind.Message 1)) (optional kind.Int32)) (λ req. absurd (optional-free req)) (tt, tt)
        (record { number = pos 2; has = refl; encoding = refl }, tt),
    tt,
  ) ((a-number, refl), tt);
  lost = λ read carried. numbers-apart (pos 2) (pos 1) refl (((carried.within 1 (optional (kind.Message 1)) (optional (kind.Message 1)) refl refl).0).same 1 (optional kind.Int32) (optional kind.Sint32) refl refl);
}

-- a message in two parts, of which the first has not what is required
abbrev in-parts : List Numbered
in-parts = at 1 (Bytes []) ∷ at 1 (Bytes (8 ∷ 2 ∷ [])) ∷ []

parts-apart : Loses (needing (optional (kind.Message 1))) (needing (repeated (kind.Message 1)))
unfolding IsWritten IsValue has_number encoded number_read value taken IsComplete values levels first_tokens token tag varint token.value delimited fixed
parts-apart = record {
  levels = 1;
  values = in-parts;
  written = written-over (IsWritten (needing (optional (kind.Message 1))) none_besides 0) (needing (optional (kind.Message 1))) 0 (optional (kind.Message 1)) in-parts
      (first-field (optional (kind.Message 1)) (Some (required kind.Int32))) (λ req. absurd (optional-free req)) (
        written-over TooDeep (needing (optional (kind.Message 1))) 1 (required kind.Int32) a-number (other-field (optional (kind.Message 1)) (required kind.Int32)) (λ req. none-there (Number (pos 2))) (tt, tt)
            (record { number = pos 2; has = refl; encoding = refl }, tt),
        tt,
      ) (([], refl), ((a-number, refl), tt));
  lost = λ read carried. (((read.complete).within 1 (repeated (kind.Message 1)) refl).0).required 1 (required kind.Int32) refl refl refl;
}

-- ---- a number that is free, and used again

removed-keeps : (f : Field) → KeepsAll (λ m n. true) none_besides (field_one f) no_field
removed-keeps f m n pair = record {
  fields = λ k g h e e'. absurd cc;
  required = λ k g e req. absurd cc;
  oneofs = λ k l g g' h h' e e' i i' apart one. absurd cc;
  left_out = λ k g e. absurd cc;
}

added-keeps : (f : Field) → (f.cardinality ≢ Required) → KeepsAll (λ m n. true) none_besides no_field (field_one f)
added-keeps f free m n pair = record {
  fields = λ k g h e e'. absurd cc;
  required = λ k g e req. absurd (free (ap (λ (x : Field). x.cardinality) (only-one f g k (eqb k 1) (eqb k 2) refl e).1 ∙ req));
  oneofs = λ k l g g' h h' e e' i i' apart one. absurd cc;
  left_out = λ k g e. refl;
}

pub used-again : LosesTogether (field_one (optional kind.Int32)) no_field (field_one (optional kind.Bytes))
used-again = record {
  first = removed-keeps (optional kind.Int32);
  second = added-keeps (optional kind.Bytes) optional-free;
  both = number-bytes;
}

pub numbers-lost : AllByRecursion (λ p. Loses (field_one (optional p.0)) (field_one (optional p.1))) losing_numbers
numbers-lost = (negative, (negative-long, (by-turns, (int32-sint64, (truth, (long, (int64-uint32, (signed-long, (int64-sint32, (int64-sint64, (int64-boolean, (unsigned, (uint32-sint32, (uint32-sint64, (uint32-boolean, (uint64-int32, (unsigned-long, (long-unsigned, (uint64-sint32, (uint64-sint64, (uint64-boolean, (no-turns, (sint32-int64, (sint32-uint32, (sint32-uint64, (sint32-boolean, (sint64-int32, (sint64-int64, (sint64-uint32, (sint64-uint64, (long-turns, (sint64-boolean, (boolean-sint32, (boolean-sint64, (fixed-signed, (fixed-float, (fixed-unsigned, (sfixed32-float, (float-fixed, (float-signed, (long-fixed-signed, (fixed-double, (long-fixed-unsigned, (sfixed64-double, (double-fixed, (double-signed, tt))))))))))))))))))))))))))))))))))))))))))))))

pub all-lost : AllByRecursion (λ p. Loses p.0 p.1) losing
all-lost = (to-closed, (open-closed, (fewer-values, (no-more, (came-together, (wanted, (wanted-anew, (other-message, (message-group, (group-message, (message-bytes, (bytes-message, (parts-apart, tt)))))))))))))
