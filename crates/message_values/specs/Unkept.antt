-- What a new schema does not keep of an old one is lost, wherever the old one writes a message at all.
use Rattle.std.specs.Prelude.{◌≡◌, ◌≢◌, ℕ, zero, suc, Bool, true, false, List, [], ◌∷◌, Some, None}
use Rattle.message_values.specs.Values.{Value, Numbered}
use Rattle.message_values.specs.Schema.{Schema, Kind, Field, Required}
use Rattle.message_values.specs.Schema as kind
use Rattle.message_values.specs.Numbers.{form}
use Rattle.message_values.specs.Fields.{Item, Items, taken, items_in, counted, is_repeated, in_one}
use Rattle.message_values.specs.Reading.{Fact, OfMessage, TooDeep, IsRead}
use Rattle.message_values.specs.Writing.{Besides, IsValue, IsWritten}
use Rattle.message_values.specs.Items.{WritesItem}
use Rattle.message_values.specs.Kept.{Pairs, KeepsForm}
use Rattle.message_values.specs.Carried.{AreCarried}

-- the old schema writes a message, of so many levels, that the new one does not read, or reads
-- otherwise
pub record IsLost (old new : Schema) (besides : Besides) (levels m n : ℕ) : Type 0 where
  pub values : List Numbered
  pub written : IsWritten old besides levels m values
  pub lost : IsRead new levels n values → AreCarried old new levels m n values → ⊥

-- whether a kind is a scalar value type: one of numbers, texts or bytes, and no enum
abbrev pub is_scalar : Kind → Bool
is_scalar (kind.Enum e) = false
is_scalar (kind.Message m) = false
is_scalar (kind.Group m) = false
is_scalar _ = true

-- no field of a oneof of a message is required
abbrev pub OneofsAreOptional : Schema → ℕ → Type 0
OneofsAreOptional s m =
    (k : ℕ) (f : Field) → s.field m k ≡ Some f → f.cardinality ≡ Required → f.oneof ≡ None

-- a value of an old field, which takes it as one item, and of which a new field takes another item,
-- or none
pub record TakesOtherwise (old : Schema) (f : Field) (new : Schema) (g : Field) : Type 0 where
  pub value : Value
  pub item : Item
  pub is_value : IsValue old f value
  pub is_taken : taken old f value ≡ Items (item ∷ [])
  pub is_other : item ∷ []
      ≢ counted f.cardinality (counted g.cardinality (items_in (taken new g value)))

-- what is true of the messages in a message that is written, of so many levels
abbrev pub IsWrittenWithin : Schema → Besides → ℕ → Fact
IsWrittenWithin s besides zero = TooDeep
IsWrittenWithin s besides (suc levels) = IsWritten s besides levels

-- an item of a field that some value writes, in a message of so many levels
pub record HasItem (s : Schema) (besides : Besides) (levels : ℕ) (f : Field) : Type 0 where
  pub item : Item
  pub writes : WritesItem s f item
  pub within : OfMessage (IsWrittenWithin s besides levels) (form f.kind) item

-- law: where a new field takes some value of an old one otherwise, something is lost; if the value is
-- a message, that is one that is written
abbrev pub OtherValueIsLost : Type 0
OtherValueIsLost = (old new : Schema) (besides : Besides) (m n i : ℕ) (f g : Field)
    → old.field m i ≡ Some f → new.field n i ≡ Some g → OneofsAreOptional old m
    → (other : TakesOtherwise old f new g)
    → (levels : ℕ) → OfMessage (IsWrittenWithin old besides levels) (form f.kind) other.item
    → (vs : List Numbered) → IsWritten old besides levels m vs
    → IsLost old new besides levels m n

-- law: where a new field does not keep the kind of an old one of a scalar type, something is lost
abbrev pub OtherKindIsLost : Type 0
OtherKindIsLost = (old new : Schema) (pairs : Pairs) (besides : Besides) (m n i : ℕ) (f g : Field)
    → old.field m i ≡ Some f → new.field n i ≡ Some g → OneofsAreOptional old m
    → is_scalar f.kind ≡ true
    → (KeepsForm pairs old f.kind (form f.kind) new g.kind (form g.kind) → ⊥)
    → (levels : ℕ) (vs : List Numbered) → IsWritten old besides levels m vs
    → IsLost old new besides levels m n

-- law: where a field is required that was not, or was not there, something is lost
abbrev pub NewRequiredIsLost : Type 0
NewRequiredIsLost = (old new : Schema) (besides : Besides) (m n i : ℕ) (g : Field)
    → new.field n i ≡ Some g → g.cardinality ≡ Required
    → ((f : Field) → old.field m i ≡ Some f → f.cardinality ≢ Required)
    → (levels : ℕ) (vs : List Numbered) → IsWritten old besides levels m vs
    → IsLost old new besides levels m n

-- law: where a field was repeated and is not, something is lost, if it has an item at all
abbrev pub NoMoreRepeatedIsLost : Type 0
NoMoreRepeatedIsLost = (old new : Schema) (besides : Besides) (m n i : ℕ) (f g : Field)
    → old.field m i ≡ Some f → new.field n i ≡ Some g → OneofsAreOptional old m
    → is_repeated f.cardinality ≡ true → is_repeated g.cardinality ≡ false
    → (levels : ℕ) → HasItem old besides levels f
    → (vs : List Numbered) → IsWritten old besides levels m vs
    → IsLost old new besides levels m n

-- law: where two fields are in one oneof that were not, something is lost, if both have an item at
-- all
abbrev pub JoinedIsLost : Type 0
JoinedIsLost = (old new : Schema) (besides : Besides) (m n i j : ℕ) (f g f' g' : Field)
    → old.field m i ≡ Some f → old.field m j ≡ Some f'
    → new.field n i ≡ Some g → new.field n j ≡ Some g' → OneofsAreOptional old m → i ≢ j
    → in_one f.oneof f'.oneof ≡ false → in_one g.oneof g'.oneof ≡ true
    → (levels : ℕ) → HasItem old besides levels f → HasItem old besides levels f'
    → (vs : List Numbered) → IsWritten old besides levels m vs
    → IsLost old new besides levels m n

-- law: each field of a scalar type has an item
abbrev pub ScalarHasItem : Type 0
ScalarHasItem = (s : Schema) (besides : Besides) (levels : ℕ) (f : Field) → is_scalar f.kind ≡ true
    → HasItem s besides levels f
