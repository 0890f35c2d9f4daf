-- That a new schema reads the values that an old one reads.
use Rattle.std.specs.Prelude.{◌≡◌, ℕ, zero, suc, List, [], Some, None, ⊤}
use Rattle.std.specs.List.{AllByRecursion}
use Rattle.message_values.specs.Values.{Numbered}
use Rattle.message_values.specs.Schema.{Schema, Field}
use Rattle.message_values.specs.Numbers.{Form, form}
use Rattle.message_values.specs.Numbers as form
use Rattle.message_values.specs.Fields.{Item, Message, counted, value}

-- a fact of an old and a new message and of numbered values
abbrev pub FactOfBoth : Type 1
FactOfBoth = ℕ → ℕ → List Numbered → Type 0

-- a fact of an item that is a message in both schemas
abbrev pub OfBoth : FactOfBoth → Form → Form → Item → Type 0
OfBoth P (form.Message m) (form.Message n) (Message vs) = P m n vs
OfBoth P (form.Group m) (form.Group n) (Message vs) = P m n vs
OfBoth P _ _ _ = ⊤

-- A field that both messages have, by its number, has one value: where the old one isn't repeated
-- and the new one is, the items of the new one count as one. The messages in it are carried too. A
-- field that the new one alone has is missing.
pub record Carries (inner : FactOfBoth) (old new : Schema) (m n : ℕ) (vs : List Numbered)
    : Type 0 where
  pub same : (k : ℕ) (f g : Field) → old.field m k ≡ Some f → new.field n k ≡ Some g
      → value old m k f vs ≡ counted f.cardinality (value new n k g vs)
  pub within : (k : ℕ) (f g : Field) → old.field m k ≡ Some f → new.field n k ≡ Some g
      → AllByRecursion (OfBoth inner (form f.kind) (form g.kind)) (value old m k f vs)
  pub missing : (k : ℕ) (g : Field) → old.field m k ≡ None → new.field n k ≡ Some g
      → value new n k g vs ≡ []

-- no fact holds where no level is left
abbrev pub NoLevel : FactOfBoth
NoLevel m n vs = ⊥

-- a new schema has the values of an old one, down to as many levels as are left
unfoldable pub AreCarried : Schema → Schema → ℕ → FactOfBoth
AreCarried old new zero = Carries NoLevel old new
AreCarried old new (suc levels) = Carries (AreCarried old new levels) old new
