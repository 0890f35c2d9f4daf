-- What a new entry does not keep is lost.
use Rattle.std.proofs.Common.{◌≡◌, ◌≢◌, ℕ, ℤ, pos, negsuc, Bool, true, false, not, cond, ◌&&◌, ◌||◌, List, [], ◌∷◌, Option, Some, None, option_map, inl, inr, refl, ap, sym, subst, ◌∙◌}
use Rattle.std.proofs.lemmas.Bool.{and_from, false≢true, or_left, or_parts, or_right}
use Rattle.std.specs.Option.{option_map_or}
use Rattle.std.specs.Str.{is_utf8, chars}
use Rattle.pool_types.specs.Kinds.{is_message}
use Rattle.pool_types.specs.declared.kinds.Cardinality.{Cardinality}
use Rattle.pool_types.specs.declared.kinds.Cardinality.TheVariants as cardinality
use Rattle.pool_types.specs.declared.kinds.KindIndex.{KindIndex}
use Rattle.pool_types.specs.declared.kinds.KindIndex.TheVariants as index
use Rattle.message_values.specs.Schema.{Schema, Kind, Field, Required}
use Rattle.message_values.specs.Numbers.{Coding, Form, form, is_signed, has_number}
use Rattle.message_values.specs.Numbers as form
use Rattle.message_values.specs.Fields.{has_text, is_repeated, in_one}
use Rattle.message_values.specs.Kept.{Pairs, KeepsForm}
use Rattle.message_values.specs.Unkept.{is_scalar}
use Rattle.message_values.proofs.Otherwise.{other-kind, scalar-has}
use Rattle.message_values.proofs.Unkept.{joined, new-required, no-more-repeated}
use Rattle.schema_changes.specs.declared.entries.Entry.{Entry}
use Rattle.schema_changes.specs.Changes.{was_required}
use Rattle.schema_changes.specs.Entries.{cardinality_seen, entry_at, field_at, field_seen, kind_seen, schema_of}
use Rattle.schema_changes.specs.Kinds.{holds, holds_all, is_repeated as repeats, is_required, keeps_cardinality, keeps_check, keeps_numbers, messages_of, text_check}
use Rattle.schema_changes.specs.Lost.{AreEntries, CardinalityIsLost, IsScalar, KindIsLost, LacksOne, OneofIsLost, RequiredIsLost}
use Rattle.schema_changes.specs.Pairs.{are_paired, keeps_kind}
use Rattle.schema_changes.specs.Parts.{Parts, in_proto3, is_open, has_value, values_of}
use Rattle.schema_changes.proofs.Keeping.{mapped}

-- ---- a kind that is kept passes the test

-- numbers of another coding are not kept
other-coding : (pairs : Pairs) (s t : Schema) (k l : Kind) (c : Coding) (G : Form) → (G ≡ form.Number c → ⊥) → KeepsForm pairs s k (form.Number c) t l G → ⊥
other-coding pairs s t k l c (form.Number d) other kept = other (ap form.Number (sym kept.0))
other-coding pairs s t k l c form.Text other kept = kept
other-coding pairs s t k l c (form.Message m) other kept = kept
other-coding pairs s t k l c (form.Group m) other kept = kept

-- an enum that has each number of 32 bits is open, where its values lack one
open-by : (p : Parts) (e : ℕ) (b : Bool) → is_open p e ≡ b → LacksOne p (index.Enum e) → ((x : ℤ) → is_signed 31 x ≡ true → (is_signed 31 x && (is_open p e || has_value (values_of p e) x)) ≡ true) → is_open p e ≡ true
open-by p e true is lacks all = is
open-by p e false is lacks all =
    let x = lacks.0 in
    absurd (false≢true (sym (ap (λ b. b || has_value (values_of p e) x) is ∙ lacks.2) ∙ sym (ap (λ b. b && (is_open p e || has_value (values_of p e) x)) lacks.1) ∙ all x lacks.1))

module _ (pairs : Pairs) (old new : Parts) (a b : Bool) where
  abbrev Kept : KindIndex → KindIndex → Type 0
  Kept k l = KeepsForm pairs (schema_of old) (kind_seen a k) (form (kind_seen a k)) (schema_of new) (kind_seen b l) (form (kind_seen b l))

  -- a number that the one kind has and the other has not
  no-number : (k l : KindIndex) (x : ℤ) → has_number (schema_of old) (kind_seen a k) x ≡ true → has_number (schema_of new) (kind_seen b l) x ≡ false
      → (has_number (schema_of old) (kind_seen a k) x ≡ true → has_number (schema_of new) (kind_seen b l) x ≡ true) → ⊥
  no-number k l x has lacks keeps = false≢true (sym lacks ∙ keeps has)

  number-double : (l : KindIndex) → LacksOne new l → Kept index.Double l → keeps_numbers old index.Double new l ≡ true
  unfolding keeps_numbers holds holds_all has_number
  number-double index.Double lacks kept = refl
  number-double l lacks kept = absurd (other-coding pairs (schema_of old) (schema_of new) (kind_seen a index.Double) (kind_seen b l) form.DoubleBits (form (kind_seen b l)) (λ same. cc) kept)

  number-float : (l : KindIndex) → LacksOne new l → Kept index.Float l → keeps_numbers old index.Float new l ≡ true
  unfolding keeps_numbers holds holds_all has_number
  number-float index.Float lacks kept = refl
  number-float l lacks kept = absurd (other-coding pairs (schema_of old) (schema_of new) (kind_seen a index.Float) (kind_seen b l) form.FloatBits (form (kind_seen b l)) (λ same. cc) kept)

  number-int32 : (l : KindIndex) → LacksOne new l → Kept index.Int32 l → keeps_numbers old index.Int32 new l ≡ true
  unfolding keeps_numbers holds holds_all has_number
  number-int32 index.Int32 lacks kept = refl
  number-int32 index.Int64 lacks kept = refl
  number-int32 index.Uint32 lacks kept = absurd (no-number index.Int32 index.Uint32 (negsuc 0) refl refl (kept.1 (negsuc 0)))
  number-int32 index.Uint64 lacks kept = absurd (no-number index.Int32 index.Uint64 (negsuc 0) refl refl (kept.1 (negsuc 0)))
  number-int32 index.Bool lacks kept = absurd (no-number index.Int32 index.Bool (pos 2) refl refl (kept.1 (pos 2)))
  number-int32 (index.Enum e) lacks kept = open-by new e (is_open new e) refl lacks kept.1
  number-int32 l lacks kept = absurd (other-coding pairs (schema_of old) (schema_of new) (kind_seen a index.Int32) (kind_seen b l) form.Plain (form (kind_seen b l)) (λ same. cc) kept)

  number-int64 : (l : KindIndex) → LacksOne new l → Kept index.Int64 l → keeps_numbers old index.Int64 new l ≡ true
  unfolding keeps_numbers holds holds_all has_number
  number-int64 index.Int32 lacks kept = absurd (no-number index.Int64 index.Int32 (pos 4294967295) refl refl (kept.1 (pos 4294967295)))
  number-int64 index.Int64 lacks kept = refl
  number-int64 index.Uint32 lacks kept = absurd (no-number index.Int64 index.Uint32 (negsuc 0) refl refl (kept.1 (negsuc 0)))
  number-int64 index.Uint64 lacks kept = absurd (no-number index.Int64 index.Uint64 (negsuc 0) refl refl (kept.1 (negsuc 0)))
  number-int64 index.Bool lacks kept = absurd (no-number index.Int64 index.Bool (pos 2) refl refl (kept.1 (pos 2)))
  number-int64 (index.Enum e) lacks kept = absurd (no-number index.Int64 (index.Enum e) (pos 1099511627776) refl refl (kept.1 (pos 1099511627776)))
  number-int64 l lacks kept = absurd (other-coding pairs (schema_of old) (schema_of new) (kind_seen a index.Int64) (kind_seen b l) form.Plain (form (kind_seen b l)) (λ same. cc) kept)

  number-uint32 : (l : KindIndex) → LacksOne new l → Kept index.Uint32 l → keeps_numbers old index.Uint32 new l ≡ true
  unfolding keeps_numbers holds holds_all has_number
  number-uint32 index.Int32 lacks kept = absurd (no-number index.Uint32 index.Int32 (pos 4294967295) refl refl (kept.1 (pos 4294967295)))
  number-uint32 index.Int64 lacks kept = refl
  number-uint32 index.Uint32 lacks kept = refl
  number-uint32 index.Uint64 lacks kept = refl
  number-uint32 index.Bool lacks kept = absurd (no-number index.Uint32 index.Bool (pos 2) refl refl (kept.1 (pos 2)))
  number-uint32 (index.Enum e) lacks kept = absurd (no-number index.Uint32 (index.Enum e) (pos 4294967295) refl refl (kept.1 (pos 4294967295)))
  number-uint32 l lacks kept = absurd (other-coding pairs (schema_of old) (schema_of new) (kind_seen a index.Uint32) (kind_seen b l) form.Plain (form (kind_seen b l)) (λ same. cc) kept)

  number-uint64 : (l : KindIndex) → LacksOne new l → Kept index.Uint64 l → keeps_numbers old index.Uint64 new l ≡ true
  unfolding keeps_numbers holds holds_all has_number
  number-uint64 index.Int32 lacks kept = absurd (no-number index.Uint64 index.Int32 (pos 4294967295) refl refl (kept.1 (pos 4294967295)))
  number-uint64 index.Int64 lacks kept = absurd (no-number index.Uint64 index.Int64 (pos 18446744073709551615) refl refl (kept.1 (pos 18446744073709551615)))
  number-uint64 index.Uint32 lacks kept = absurd (no-number index.Uint64 index.Uint32 (pos 18446744073709551615) refl refl (kept.1 (pos 18446744073709551615)))
  number-uint64 index.Uint64 lacks kept = refl
  number-uint64 index.Bool lacks kept = absurd (no-number index.Uint64 index.Bool (pos 2) refl refl (kept.1 (pos 2)))
  number-uint64 (index.Enum e) lacks kept = absurd (no-number index.Uint64 (index.Enum e) (pos 4294967295) refl refl (kept.1 (pos 4294967295)))
  number-uint64 l lacks kept = absurd (other-coding pairs (schema_of old) (schema_of new) (kind_seen a index.Uint64) (kind_seen b l) form.Plain (form (kind_seen b l)) (λ same. cc) kept)

  number-sint32 : (l : KindIndex) → LacksOne new l → Kept index.Sint32 l → keeps_numbers old index.Sint32 new l ≡ true
  unfolding keeps_numbers holds holds_all has_number
  number-sint32 index.Sint32 lacks kept = refl
  number-sint32 index.Sint64 lacks kept = refl
  number-sint32 l lacks kept = absurd (other-coding pairs (schema_of old) (schema_of new) (kind_seen a index.Sint32) (kind_seen b l) form.ZigZag (form (kind_seen b l)) (λ same. cc) kept)

  number-sint64 : (l : KindIndex) → LacksOne new l → Kept index.Sint64 l → keeps_numbers old index.Sint64 new l ≡ true
  unfolding keeps_numbers holds holds_all has_number
  number-sint64 index.Sint32 lacks kept = absurd (no-number index.Sint64 index.Sint32 (pos 4294967295) refl refl (kept.1 (pos 4294967295)))
  number-sint64 index.Sint64 lacks kept = refl
  number-sint64 l lacks kept = absurd (other-coding pairs (schema_of old) (schema_of new) (kind_seen a index.Sint64) (kind_seen b l) form.ZigZag (form (kind_seen b l)) (λ same. cc) kept)

  number-fixed32 : (l : KindIndex) → LacksOne new l → Kept index.Fixed32 l → keeps_numbers old index.Fixed32 new l ≡ true
  unfolding keeps_numbers holds holds_all has_number
  number-fixed32 index.Fixed32 lacks kept = refl
  number-fixed32 index.Sfixed32 lacks kept = absurd (no-number index.Fixed32 index.Sfixed32 (pos 4294967295) refl refl (kept.1 (pos 4294967295)))
  number-fixed32 l lacks kept = absurd (other-coding pairs (schema_of old) (schema_of new) (kind_seen a index.Fixed32) (kind_seen b l) form.Four (form (kind_seen b l)) (λ same. cc) kept)

  number-fixed64 : (l : KindIndex) → LacksOne new l → Kept index.Fixed64 l → keeps_numbers old index.Fixed64 new l ≡ true
  unfolding keeps_numbers holds holds_all has_number
  number-fixed64 index.Fixed64 lacks kept = refl
  number-fixed64 index.Sfixed64 lacks kept = absurd (no-number index.Fixed64 index.Sfixed64 (pos 18446744073709551615) refl refl (kept.1 (pos 18446744073709551615)))
  number-fixed64 l lacks kept = absurd (other-coding pairs (schema_of old) (schema_of new) (kind_seen a index.Fixed64) (kind_seen b l) form.Eight (form (kind_seen b l)) (λ same. cc) kept)

  number-sfixed32 : (l : KindIndex) → LacksOne new l → Kept index.Sfixed32 l → keeps_numbers old index.Sfixed32 new l ≡ true
  unfolding keeps_numbers holds holds_all has_number
  number-sfixed32 index.Fixed32 lacks kept = absurd (no-number index.Sfixed32 index.Fixed32 (negsuc 0) refl refl (kept.1 (negsuc 0)))
  number-sfixed32 index.Sfixed32 lacks kept = refl
  number-sfixed32 l lacks kept = absurd (other-coding pairs (schema_of old) (schema_of new) (kind_seen a index.Sfixed32) (kind_seen b l) form.Four (form (kind_seen b l)) (λ same. cc) kept)

  number-sfixed64 : (l : KindIndex) → LacksOne new l → Kept index.Sfixed64 l → keeps_numbers old index.Sfixed64 new l ≡ true
  unfolding keeps_numbers holds holds_all has_number
  number-sfixed64 index.Fixed64 lacks kept = absurd (no-number index.Sfixed64 index.Fixed64 (negsuc 0) refl refl (kept.1 (negsuc 0)))
  number-sfixed64 index.Sfixed64 lacks kept = refl
  number-sfixed64 l lacks kept = absurd (other-coding pairs (schema_of old) (schema_of new) (kind_seen a index.Sfixed64) (kind_seen b l) form.Eight (form (kind_seen b l)) (λ same. cc) kept)

  number-bool : (l : KindIndex) → LacksOne new l → Kept index.Bool l → keeps_numbers old index.Bool new l ≡ true
  unfolding keeps_numbers holds holds_all has_number
  number-bool index.Int32 lacks kept = refl
  number-bool index.Int64 lacks kept = refl
  number-bool index.Uint32 lacks kept = refl
  number-bool index.Uint64 lacks kept = refl
  number-bool index.Bool lacks kept = refl
  number-bool (index.Enum e) lacks kept = and_from (is_open new e || has_value (values_of new e) (pos 0)) (is_open new e || has_value (values_of new e) (pos 1)) (kept.1 (pos 0) refl) (kept.1 (pos 1) refl)
  number-bool l lacks kept = absurd (other-coding pairs (schema_of old) (schema_of new) (kind_seen a index.Bool) (kind_seen b l) form.Plain (form (kind_seen b l)) (λ same. cc) kept)

-- texts that are kept pass: the byte 255 is no text that is checked
string-kept : (pairs : Pairs) (old new : Parts) (a b : Bool) (l : KindIndex) → Kept pairs old new a b index.String l → keeps_check (Some a) (text_check b l) ≡ true
unfolding is_utf8 chars
string-kept pairs old new true b index.String kept = refl
string-kept pairs old new false false index.String kept = refl
string-kept pairs old new false true index.String kept = absurd (false≢true (kept (255 ∷ []) refl))
string-kept pairs old new true b index.Bytes kept = refl
string-kept pairs old new false b index.Bytes kept = refl
string-kept pairs old new a b _ kept = absurd kept

bytes-kept : (pairs : Pairs) (old new : Parts) (a b : Bool) (l : KindIndex) → Kept pairs old new a b index.Bytes l → keeps_check (Some false) (text_check b l) ≡ true
unfolding is_utf8 chars
bytes-kept pairs old new a false index.String kept = refl
bytes-kept pairs old new a true index.String kept = absurd (false≢true (kept (255 ∷ []) refl))
bytes-kept pairs old new a b index.Bytes kept = refl
bytes-kept pairs old new a b _ kept = absurd kept

scalar-kept : (pairs : Pairs) (old new : Parts) (a b : Bool) (k l : KindIndex) → is_scalar (kind_seen a k) ≡ true → LacksOne new l → Kept pairs old new a b k l
    → (keeps_numbers old k new l || keeps_check (text_check a k) (text_check b l)) ≡ true
scalar-kept pairs old new a b index.Double l is lacks kept = or_left (keeps_numbers old index.Double new l) (keeps_check None (text_check b l)) (number-double pairs old new a b l lacks kept)
scalar-kept pairs old new a b index.Float l is lacks kept = or_left (keeps_numbers old index.Float new l) (keeps_check None (text_check b l)) (number-float pairs old new a b l lacks kept)
scalar-kept pairs old new a b index.Int32 l is lacks kept = or_left (keeps_numbers old index.Int32 new l) (keeps_check None (text_check b l)) (number-int32 pairs old new a b l lacks kept)
scalar-kept pairs old new a b index.Int64 l is lacks kept = or_left (keeps_numbers old index.Int64 new l) (keeps_check None (text_check b l)) (number-int64 pairs old new a b l lacks kept)
scalar-kept pairs old new a b index.Uint32 l is lacks kept = or_left (keeps_numbers old index.Uint32 new l) (keeps_check None (text_check b l)) (number-uint32 pairs old new a b l lacks kept)
scalar-kept pairs old new a b index.Uint64 l is lacks kept = or_left (keeps_numbers old index.Uint64 new l) (keeps_check None (text_check b l)) (number-uint64 pairs old new a b l lacks kept)
scalar-kept pairs old new a b index.Sint32 l is lacks kept = or_left (keeps_numbers old index.Sint32 new l) (keeps_check None (text_check b l)) (number-sint32 pairs old new a b l lacks kept)
scalar-kept pairs old new a b index.Sint64 l is lacks kept = or_left (keeps_numbers old index.Sint64 new l) (keeps_check None (text_check b l)) (number-sint64 pairs old new a b l lacks kept)
scalar-kept pairs old new a b index.Fixed32 l is lacks kept = or_left (keeps_numbers old index.Fixed32 new l) (keeps_check None (text_check b l)) (number-fixed32 pairs old new a b l lacks kept)
scalar-kept pairs old new a b index.Fixed64 l is lacks kept = or_left (keeps_numbers old index.Fixed64 new l) (keeps_check None (text_check b l)) (number-fixed64 pairs old new a b l lacks kept)
scalar-kept pairs old new a b index.Sfixed32 l is lacks kept = or_left (keeps_numbers old index.Sfixed32 new l) (keeps_check None (text_check b l)) (number-sfixed32 pairs old new a b l lacks kept)
scalar-kept pairs old new a b index.Sfixed64 l is lacks kept = or_left (keeps_numbers old index.Sfixed64 new l) (keeps_check None (text_check b l)) (number-sfixed64 pairs old new a b l lacks kept)
scalar-kept pairs old new a b index.Bool l is lacks kept = or_left (keeps_numbers old index.Bool new l) (keeps_check None (text_check b l)) (number-bool pairs old new a b l lacks kept)
scalar-kept pairs old new a b index.String l is lacks kept = or_right (keeps_numbers old index.String new l) (keeps_check (Some a) (text_check b l)) (string-kept pairs old new a b l kept)
scalar-kept pairs old new a b index.Bytes l is lacks kept = or_right (keeps_numbers old index.Bytes new l) (keeps_check (Some false) (text_check b l)) (bytes-kept pairs old new a b l kept)
scalar-kept pairs old new a b (index.Enum e) l is lacks kept = absurd (false≢true is)
scalar-kept pairs old new a b (index.Message m) l is lacks kept = absurd (false≢true is)
scalar-kept pairs old new a b (index.Group m) l is lacks kept = absurd (false≢true is)

-- ---- entries as fields

seen : (p : Parts) (m i : ℕ) (f : Entry) → entry_at p m i ≡ Some f → field_at p m i ≡ Some (field_seen p f)
seen p m i f e = ap (option_map (field_seen p)) e

pub kind-lost : KindIsLost
kind-lost old new besides m n i f g entries optional scalar lacks unkept levels vs w =
    let a = in_proto3 old f.file in
    let b = in_proto3 new g.file in
    let pairs : Pairs = λ c d. are_paired old c new d in
    let parts = or_parts (keeps_numbers old f.kind new g.kind || keeps_check (text_check a f.kind) (text_check b g.kind)) (option_map_or (λ e. are_paired old e.0 new e.1) (messages_of f.kind g.kind) false) unkept in
    other-kind (schema_of old) (schema_of new) pairs besides m n i (field_seen old f) (field_seen new g) (seen old m i f entries.old_entry) (seen new n i g entries.new_entry) optional scalar
    (λ kept. false≢true (sym parts.0 ∙ scalar-kept pairs old new a b f.kind g.kind scalar lacks kept)) levels vs w

-- a scalar entry holds no message
no-message : (b : Bool) (k : KindIndex) → is_scalar (kind_seen b k) ≡ true → is_message k ≡ false
no-message b index.Double is = refl
no-message b index.Float is = refl
no-message b index.Int32 is = refl
no-message b index.Int64 is = refl
no-message b index.Uint32 is = refl
no-message b index.Uint64 is = refl
no-message b index.Sint32 is = refl
no-message b index.Sint64 is = refl
no-message b index.Fixed32 is = refl
no-message b index.Fixed64 is = refl
no-message b index.Sfixed32 is = refl
no-message b index.Sfixed64 is = refl
no-message b index.Bool is = refl
no-message b index.String is = refl
no-message b index.Bytes is = refl
no-message b (index.Enum e) is = absurd (false≢true is)
no-message b (index.Message m) is = absurd (false≢true is)
no-message b (index.Group m) is = absurd (false≢true is)

no-more : (c d : Cardinality) (message : Bool) → message ≡ false → cond (repeats c) (repeats d) (not (message && repeats d)) ≡ false → (is_repeated (cardinality_seen c) ≡ true) × (is_repeated (cardinality_seen d) ≡ false)
no-more cardinality.Repeated cardinality.Optional message plain h = (refl, refl)
no-more cardinality.Repeated cardinality.Required message plain h = (refl, refl)
no-more cardinality.Repeated cardinality.Repeated message plain h = absurd (false≢true (sym h))
no-more cardinality.Optional d true plain h = absurd (false≢true (sym plain))
no-more cardinality.Required d true plain h = absurd (false≢true (sym plain))
no-more cardinality.Optional d false plain h = absurd (false≢true (sym h))
no-more cardinality.Required d false plain h = absurd (false≢true (sym h))

pub cardinality-lost : CardinalityIsLost
cardinality-lost old new besides m n i f g entries optional scalar unkept levels vs w =
    let both = no-more f.cardinality g.cardinality (is_message f.kind) (no-message (in_proto3 old f.file) f.kind scalar) unkept in
    no-more-repeated (schema_of old) (schema_of new) besides m n i (field_seen old f) (field_seen new g) (seen old m i f entries.old_entry) (seen new n i g entries.new_entry) optional both.0 both.1
    levels (scalar-has (schema_of old) besides levels (field_seen old f) scalar) vs w

required-seen : (c : Cardinality) → is_required c ≡ true → cardinality_seen c ≡ Required
required-seen cardinality.Required h = refl
required-seen cardinality.Optional h = absurd (false≢true h)
required-seen cardinality.Repeated h = absurd (false≢true h)

seen-required : (c : Cardinality) → cardinality_seen c ≡ Required → is_required c ≡ true
seen-required cardinality.Required h = refl
seen-required cardinality.Optional h = absurd cc
seen-required cardinality.Repeated h = absurd cc

pub required-lost : RequiredIsLost
required-lost old new besides m n i g e is never levels vs w =
    new-required (schema_of old) (schema_of new) besides m n i (field_seen new g) (seen new n i g e) (required-seen g.cardinality is)
    (λ f there required.
    let x = mapped (field_seen old) (entry_at old m i) f there in
    let was : is_required (x.0).cardinality ≡ false = sym (ap was_required x.1) ∙ never in
    false≢true (sym was ∙ seen-required (x.0).cardinality (ap (λ (h : Field). h.cardinality) x.2 ∙ required)))
    levels vs w

pub oneof-lost : OneofIsLost
oneof-lost old new besides m n i j f g f' g' first second optional scalar scalar' apart was is levels vs w =
    joined (schema_of old) (schema_of new) besides m n i j (field_seen old f) (field_seen new g) (field_seen old f') (field_seen new g')
    (seen old m i f first.old_entry) (seen old m j f' second.old_entry) (seen new n i g first.new_entry) (seen new n j g' second.new_entry) optional apart was is
    levels (scalar-has (schema_of old) besides levels (field_seen old f) scalar) (scalar-has (schema_of old) besides levels (field_seen old f') scalar') vs w
