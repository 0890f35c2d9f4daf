-- When a new schema keeps an old one: what is written by the old one is then read by the new one
-- without loss.
use Rattle.std.specs.Prelude.{◌≡◌, ◌≢◌, ℕ, ℤ, Bool, true, false, List, Some}
use Rattle.message_values.specs.Schema.{Schema, Kind, Field, Cardinality, Required}
use Rattle.message_values.specs.Numbers.{Form, form, has_number}
use Rattle.message_values.specs.Numbers as form
use Rattle.message_values.specs.Fields.{has_text, is_repeated, in_one}
use Rattle.message_values.specs.Writing.{Besides}

-- pairs of an old and a new message, by their indexes
abbrev pub Pairs : Type 0
Pairs = ℕ → ℕ → Bool

-- Each value of the old kind is one of the new kind, and is encoded alike; what is a message stays
-- one of a pair, and what is a group stays a group.
abbrev pub KeepsForm : Pairs → Schema → Kind → Form → Schema → Kind → Form → Type 0
KeepsForm pairs old k (form.Number c) new l (form.Number d) =
    (c ≡ d) × ((x : ℤ) → has_number old k x ≡ true → has_number new l x ≡ true)
KeepsForm pairs old k form.Text new l form.Text =
    (bytes : List ℕ) → has_text k bytes ≡ true → has_text l bytes ≡ true
KeepsForm pairs old k (form.Message m) new l (form.Message n) = pairs m n ≡ true
KeepsForm pairs old k (form.Group m) new l (form.Group n) = pairs m n ≡ true
KeepsForm pairs old k _ new l _ = ⊥

-- What is repeated stays so. What is not may become so, unless its items are messages, which
-- merge.
abbrev pub KeepsCardinality : Form → Cardinality → Cardinality → Type 0
KeepsCardinality (form.Message m) c d = is_repeated c ≡ is_repeated d
KeepsCardinality (form.Group m) c d = is_repeated c ≡ is_repeated d
KeepsCardinality _ c d = is_repeated c ≡ true → is_repeated d ≡ true

-- A new field keeps an old one where each value of the old kind is one of the new kind, and no
-- item is lost by how often the field may stand.
pub record KeepsField (pairs : Pairs) (old new : Schema) (f g : Field) : Type 0 where
  pub kind : KeepsForm pairs old f.kind (form f.kind) new g.kind (form g.kind)
  pub cardinality : KeepsCardinality (form f.kind) f.cardinality g.cardinality

-- A message keeps each field whose number it still has, asks for no field that could be missing,
-- has no fields in one oneof that were not in one, and none whose number the old one may have
-- besides.
pub record KeepsMessage (pairs : Pairs) (besides : Besides) (old new : Schema) (m n : ℕ)
    : Type 0 where
  pub fields : (k : ℕ) (f g : Field) → old.field m k ≡ Some f → new.field n k ≡ Some g
      → KeepsField pairs old new f g
  pub required : (k : ℕ) (g : Field) → new.field n k ≡ Some g → g.cardinality ≡ Required
      → (f : Field) × (old.field m k ≡ Some f) × (f.cardinality ≡ Required)
  pub oneofs : (k l : ℕ) (f f' g g' : Field) → old.field m k ≡ Some f → old.field m l ≡ Some f'
      → new.field n k ≡ Some g → new.field n l ≡ Some g' → k ≢ l
      → in_one g.oneof g'.oneof ≡ true → in_one f.oneof f'.oneof ≡ true
  pub left_out : (k : ℕ) (g : Field) → new.field n k ≡ Some g → besides m k ≡ false

-- each message of a pair keeps the other, and the pairs of the messages in them are pairs too
abbrev pub KeepsAll : Pairs → Besides → Schema → Schema → Type 0
KeepsAll pairs besides old new =
    (m n : ℕ) → pairs m n ≡ true → KeepsMessage pairs besides old new m n
