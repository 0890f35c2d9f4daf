-- What a field takes of the numbered values of a message.
use Rattle.std.specs.Prelude.{ℕ, ℤ, Bool, true, false, not, ◌&&◌, ◌||◌, List, [], ◌∷◌, ◌++◌, Option}
use Rattle.std.specs.Prelude.{None, Some, filter_map, option_map, ◌==◌, if◌then◌else◌}
use Rattle.std.specs.Str.{is_utf8}
use Rattle.message_values.specs.Values.{Value, Bytes, Group, Numbered, listed, values}
use Rattle.message_values.specs.Schema.{Schema, Kind, Field, Cardinality, Optional, Required}
use Rattle.message_values.specs.Schema.{Repeated}
use Rattle.message_values.specs.Schema as kind
use Rattle.message_values.specs.Numbers.{Coding, FloatBits, DoubleBits, Form, form, raw, packed}
use Rattle.message_values.specs.Numbers.{number_read}
use Rattle.message_values.specs.Numbers as form

-- a value that a field has: a number; a float or a double, by its bits; a text or bytes; or a
-- message by its numbered values
pub data Item : Type 0 where
  Number : ℤ → Item
  Bits : ℤ → Item
  Text : List ℕ → Item
  Message : List Numbered → Item

-- what a field takes of a value: it refuses it, and so all bytes; it leaves it among what is
-- unknown; or it takes items of it
pub data Taken : Type 0 where
  Refused : Taken
  Unknown : Taken
  Items : List Item → Taken

-- whether a field may stand in a message more than once
abbrev pub is_repeated : Cardinality → Bool
is_repeated Repeated = true
is_repeated _ = false

-- whether bytes are a value of a kind: of a string that is checked, if they are UTF-8
abbrev pub has_text : Kind → List ℕ → Bool
has_text (kind.Text checked) bytes = not checked || is_utf8 bytes
has_text _ bytes = true

-- the item that a number of a coding is
abbrev pub number_item : Coding → ℤ → Item
number_item FloatBits x = Bits x
number_item DoubleBits x = Bits x
number_item _ x = Number x

-- the item of a number of a coding, if it is one of the kind
abbrev pub number_taken : Schema → Kind → Coding → ℕ → Option Item
number_taken s k c n = option_map (number_item c) (number_read s k n)

-- one item, or nothing known
abbrev pub one_taken : Option Item → Taken
one_taken (Some x) = Items (x ∷ [])
one_taken None = Unknown

-- packed numbers, but for those that are none of the kind
abbrev pub packed_taken : Schema → Kind → Coding → Option (List ℕ) → Taken
packed_taken s k c None = Refused
packed_taken s k c (Some ns) = Items (filter_map (number_taken s k c) ns)

-- a value that isn't a number of the coding: a repeated field takes packed numbers
abbrev pub other_taken : Schema → Field → Coding → Value → Taken
other_taken s f c (Bytes bytes) =
    if is_repeated f.cardinality then packed_taken s f.kind c (packed c bytes) else Unknown
other_taken s f c _ = Unknown

-- what a field of numbers takes of a value: the number that it is, or packed ones
abbrev pub numbers_taken : Schema → Field → Coding → Value → Option ℕ → Taken
numbers_taken s f c v (Some n) = one_taken (number_taken s f.kind c n)
numbers_taken s f c v None = other_taken s f c v

-- a message by its values; bytes that are none refuse all
abbrev pub message_taken : Option (List Numbered) → Taken
message_taken None = Refused
message_taken (Some vs) = Items (Message vs ∷ [])

-- what a field takes of a value, by the form of its kind
abbrev pub taken_as : Schema → Field → Form → Value → Taken
taken_as s f (form.Number c) v = numbers_taken s f c v (raw c v)
taken_as s f form.Text (Bytes bytes) =
    if has_text f.kind bytes then Items (Text bytes ∷ []) else Refused
taken_as s f form.Text _ = Unknown
taken_as s f (form.Message m) (Bytes bytes) = message_taken (values bytes)
taken_as s f (form.Message m) _ = Unknown
taken_as s f (form.Group m) (Group vs) = Items (Message (listed vs) ∷ [])
taken_as s f (form.Group m) _ = Unknown

-- what a field takes of a value that has its number
unfoldable pub taken : Schema → Field → Value → Taken
taken s f v = taken_as s f (form f.kind) v

-- the items that a field takes
abbrev pub items_in : Taken → List Item
items_in (Items xs) = xs
items_in _ = []

-- whether a field takes a value at all
abbrev pub is_known : Taken → Bool
is_known (Items xs) = true
is_known _ = false

-- whether two fields are in one oneof
abbrev pub in_one : Option ℕ → Option ℕ → Bool
in_one (Some o) (Some p) = o == p
in_one _ _ = false

-- whether a value that another field takes clears a field, as both are in one oneof
abbrev pub clears : Schema → Field → Option Field → Value → Bool
clears s f None v = false
clears s f (Some g) v = in_one f.oneof g.oneof && is_known (taken s g v)

-- what a numbered value makes of the items that a field of a message has
abbrev pub item_step : Schema → ℕ → ℕ → Field → List Item → Numbered → List Item
item_step s m n f items x =
    if x.number == n then items ++ items_in (taken s f x.value)
    else (if clears s f (s.field m x.number) x.value then [] else items)

-- the items of a field behind those before, of further values in turn
abbrev pub items_from : Schema → ℕ → ℕ → Field → List Item → List Numbered → List Item
items_from s m n f items [] = items
items_from s m n f items (x ∷ xs) = items_from s m n f (item_step s m n f items x) xs

-- an item behind another: messages merge, and else the later one counts
abbrev pub merge : Item → Item → Item
merge (Message vs) (Message ws) = Message (vs ++ ws)
merge x y = y

-- an item with those behind it
abbrev pub merge_all : Item → List Item → Item
merge_all x [] = x
merge_all x (y ∷ ys) = merge_all (merge x y) ys

-- the items of a field by its cardinality: where it isn't repeated, one at most
abbrev pub counted : Cardinality → List Item → List Item
counted Repeated xs = xs
counted _ [] = []
counted _ (x ∷ xs) = merge_all x xs ∷ []

-- the value of the field of a message with a number, as numbered values say it
unfoldable pub value : Schema → ℕ → ℕ → Field → List Numbered → List Item
value s m n f vs = counted f.cardinality (items_from s m n f [] vs)
