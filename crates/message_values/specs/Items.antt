-- The items that a field may have, and that each is written by some value.
use Rattle.std.specs.Prelude.{◌≡◌, ℕ, true, List, [], ◌∷◌, Some}
use Rattle.message_values.specs.Values.{Value, Values, listed, values}
use Rattle.message_values.specs.Schema.{Schema, Kind, Field}
use Rattle.message_values.specs.Numbers.{Form, form, has_number}
use Rattle.message_values.specs.Numbers as form
use Rattle.message_values.specs.Fields.{Item, Number, Bits, Text, Message, Items, has_text}
use Rattle.message_values.specs.Fields.{number_item, taken}
use Rattle.message_values.specs.Writing.{IsValue}

-- an item of a kind: a number that it has, or its bits, a text, or a message that bytes or a group
-- say
abbrev pub IsItemAs : Schema → Kind → Form → Item → Type 0
IsItemAs s k (form.Number c) (Number x) = (number_item c x ≡ Number x) × (has_number s k x ≡ true)
IsItemAs s k (form.Number c) (Bits x) = (number_item c x ≡ Bits x) × (has_number s k x ≡ true)
IsItemAs s k form.Text (Text bytes) = has_text k bytes ≡ true
IsItemAs s k (form.Message m) (Message vs) = (bytes : List ℕ) × (values bytes ≡ Some vs)
IsItemAs s k (form.Group m) (Message vs) = (ws : Values) × (listed ws ≡ vs)
IsItemAs s k _ _ = ⊥

-- an item is one that a field may have
abbrev pub IsItem : Schema → Field → Item → Type 0
IsItem s f x = IsItemAs s f.kind (form f.kind) x

-- a value of a field, as a writer writes it, of which the field takes exactly one item
pub record WritesItem (s : Schema) (f : Field) (x : Item) : Type 0 where
  pub value : Value
  pub is_value : IsValue s f value
  pub is_taken : taken s f value ≡ Items (x ∷ [])
