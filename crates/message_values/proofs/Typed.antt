-- Each item of a field is written by a value.
use Rattle.std.proofs.Common.{◌≡◌, ℕ, ℤ, true, [], ◌∷◌, Option, Some, option_map, refl, ap, sym, subst, ◌∙◌, cond}
use Rattle.message_values.specs.Values.{Value, Varint, Fixed64, Bytes, Group, Fixed32}
use Rattle.message_values.specs.Schema.{Schema, Field}
use Rattle.message_values.specs.Numbers.{Coding, Plain, ZigZag, Four, Eight, FloatBits, DoubleBits, Form, form, has_number, encoded, number_read, raw}
use Rattle.message_values.specs.Numbers as form
use Rattle.message_values.specs.Fields.{Item, Number, Bits, Text, Message, Refused, Items, number_item, number_taken, one_taken, numbers_taken, message_taken, taken_as, taken}
use Rattle.message_values.specs.Writing.{IsNumberValue, IsValueAs, IsValue}
use Rattle.message_values.specs.Items.{IsItemAs, IsItem, WritesItem}
use Rattle.message_values.proofs.Numbers.{ReadsAgain, reads-again}

-- a number as a value of a coding
coded : Coding → ℕ → Value
coded Plain n = Varint n
coded ZigZag n = Varint n
coded Four n = Fixed32 n
coded Eight n = Fixed64 n
coded FloatBits n = Fixed32 n
coded DoubleBits n = Fixed64 n

raw-coded : (c : Coding) (n : ℕ) → raw c (coded c n) ≡ Some n
unfolding coded
raw-coded Plain n = refl
raw-coded ZigZag n = refl
raw-coded Four n = refl
raw-coded Eight n = refl
raw-coded FloatBits n = refl
raw-coded DoubleBits n = refl

WritesAs : Schema → Field → Form → Item → Type 0
WritesAs s f F x = (v : Value) × IsValueAs s f F v × (taken_as s f F v ≡ Items (x ∷ []))

number-written : (s : Schema) (f : Field) (c : Coding) (x : ℤ) (y : Item) → ReadsAgain s f.kind (form.Number c) → number_item c x ≡ y → has_number s f.kind x ≡ true → WritesAs s f (form.Number c) y
unfolding WritesAs
number-written s f c x y again is has =
    let v = coded c (encoded c x) in
    let at = raw-coded c (encoded c x) in
    let number : number_taken s f.kind c (encoded c x) ≡ Some y = ap (option_map (number_item c)) (again x has) ∙ ap Some is in (
      v,
      subst (λ (r : Option ℕ). IsNumberValue s f c v r) (sym at) (record { number = x; has = has; encoding = refl }),
      ap (numbers_taken s f c v) at ∙ ap one_taken number,
    )

by-form : (s : Schema) (f : Field) (F : Form) (x : Item) → ReadsAgain s f.kind F → IsItemAs s f.kind F x → WritesAs s f F x
unfolding WritesAs
by-form s f (form.Number c) (Number x) again has = number-written s f c x (Number x) again has.0 has.1
by-form s f (form.Number c) (Bits x) again has = number-written s f c x (Bits x) again has.0 has.1
by-form s f form.Text (Text bytes) again has = (Bytes bytes, has, ap (λ b. cond b (Items (Text bytes ∷ [])) Refused) has)
by-form s f (form.Message m) (Message vs) again has = (Bytes has.0, (vs, has.1), ap message_taken has.1)
by-form s f (form.Group m) (Message vs) again has = (Group has.0, tt, ap (λ ws. Items (Message ws ∷ [])) has.1)
by-form s f (form.Number c) (Text bytes) again has = absurd has
by-form s f (form.Number c) (Message vs) again has = absurd has
by-form s f form.Text (Number x) again has = absurd has
by-form s f form.Text (Bits x) again has = absurd has
by-form s f form.Text (Message vs) again has = absurd has
by-form s f (form.Message m) (Number x) again has = absurd has
by-form s f (form.Message m) (Bits x) again has = absurd has
by-form s f (form.Message m) (Text bytes) again has = absurd has
by-form s f (form.Group m) (Number x) again has = absurd has
by-form s f (form.Group m) (Bits x) again has = absurd has
by-form s f (form.Group m) (Text bytes) again has = absurd has

pub item-written : (s : Schema) (f : Field) (x : Item) → IsItem s f x → WritesItem s f x
unfolding WritesAs taken IsValue
item-written s f x is = let w = by-form s f (form f.kind) x (reads-again s f.kind) is in record { value = w.0; is_value = w.1; is_taken = w.2 }
