-- Maps: a field of entries, each a message with the key at number 1. Of entries with one key a reader
-- keeps the last.
use Rattle.std.specs.Prelude.{◌≡◌, ℕ, suc, pos, Bool, true, false, List, [], ◌∷◌, Some, if◌then◌else◌}
use Rattle.std.specs.List.{list_any}
use Rattle.std.specs.Ordering.{int_eq}
use Rattle.std.specs.Str.{bytes_eq}
use Rattle.message_values.specs.Values.{Numbered}
use Rattle.message_values.specs.Schema.{Schema, Kind, Field, Optional}
use Rattle.message_values.specs.Numbers.{Form, form}
use Rattle.message_values.specs.Numbers as form
use Rattle.message_values.specs.Fields.{Item, Number, Bits, Text, Message, number_item, is_repeated}
use Rattle.message_values.specs.Fields.{value}
use Rattle.message_values.specs.Writing.{Besides, IsWritten}
use Rattle.message_values.specs.Kept.{Pairs, KeepsAll}

-- what a key is where it is missing
abbrev pub missing_key : Form → Item
missing_key (form.Number c) = number_item c (pos 0)
missing_key form.Text = Text []
missing_key _ = Message []

-- the first of some items, or what stands for it where there is none
abbrev pub first_or : Item → List Item → Item
first_or d [] = d
first_or d (x ∷ xs) = x

-- the key of an entry, by the field of its key
abbrev pub key_of : Schema → ℕ → Field → Item → Item
key_of s a k (Message vs) = first_or (missing_key (form k.kind)) (value s a 1 k vs)
key_of s a k x = x

-- whether two keys are one
abbrev pub one_key : Item → Item → Bool
one_key (Number x) (Number y) = int_eq x y
one_key (Bits x) (Bits y) = int_eq x y
one_key (Text xs) (Text ys) = bytes_eq xs ys
one_key _ _ = false

-- entries, and of those with one key the last
abbrev pub last_of_each_key : (Item → Item) → List Item → List Item
last_of_each_key key [] = []
last_of_each_key key (x ∷ xs) = if list_any (λ y. one_key (key x) (key y)) xs
    then last_of_each_key key xs else x ∷ last_of_each_key key xs

-- the map that the entries of a message are, by the field of their keys
abbrev pub map_read : Schema → ℕ → Field → List Item → List Item
map_read s a k entries = last_of_each_key (key_of s a k) entries

-- two fields are maps: repeated entries of two messages, with the fields of their keys
pub record AreMaps (old new : Schema) (f g : Field) (a b : ℕ) (k l : Field) : Type 0 where
  pub repeated : is_repeated f.cardinality ≡ true
  pub old_entry : form f.kind ≡ form.Message a
  pub new_entry : form g.kind ≡ form.Message b
  pub old_key : old.field a 1 ≡ Some k
  pub new_key : new.field b 1 ≡ Some l
  pub old_single : k.cardinality ≡ Optional
  pub new_single : l.cardinality ≡ Optional

-- law: a new schema that keeps an old one reads the maps that this writes, of each key the last entry
abbrev pub MapsAreCarried : Type 0
MapsAreCarried = (old new : Schema) (pairs : Pairs) (besides : Besides)
    → KeepsAll pairs besides old new → (levels m n : ℕ) → pairs m n ≡ true
    → (i : ℕ) (f g : Field) → old.field m i ≡ Some f → new.field n i ≡ Some g
    → (a b : ℕ) (k l : Field) → AreMaps old new f g a b k l
    → (vs : List Numbered) → IsWritten old besides (suc levels) m vs
    → map_read old a k (value old m i f vs) ≡ map_read new b l (value new n i g vs)
