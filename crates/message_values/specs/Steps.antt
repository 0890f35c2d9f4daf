-- Two steps from a schema to a newer one, and the step that they make together.
use Rattle.std.specs.Prelude.{◌≡◌, ℕ, true, false, None, Some}
use Rattle.message_values.specs.Schema.{Schema, Field}
use Rattle.message_values.specs.Writing.{Besides}
use Rattle.message_values.specs.Kept.{Pairs}

-- the pairs of two steps together are those that have a message between them
pub record AreJoined (first second both : Pairs) : Type 0 where
  pub between : (m n : ℕ) → both m n ≡ true
      → (k : ℕ) × (first m k ≡ true) × (second k n ≡ true)
  pub joined : (m k n : ℕ) → first m k ≡ true → second k n ≡ true → both m n ≡ true

-- a number whose field the first step removes has no field behind the second step
abbrev pub StaysRemoved : Pairs → Pairs → Schema → Schema → Schema → Type 0
StaysRemoved first second old between new =
    (m k n i : ℕ) (f : Field) → first m k ≡ true → second k n ≡ true
    → old.field m i ≡ Some f → between.field k i ≡ None → new.field n i ≡ None

-- no new message of a pair has a field of a number that the old one may have besides
abbrev pub LeavesOut : Pairs → Besides → Schema → Type 0
LeavesOut pairs besides new =
    (m n i : ℕ) (g : Field) → pairs m n ≡ true → new.field n i ≡ Some g → besides m i ≡ false
