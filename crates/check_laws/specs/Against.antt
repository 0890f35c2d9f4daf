-- A check against older versions that accepts, and what the versions read of each other.
use Rattle.std.specs.Prelude.{◌≡◌, ℕ, false, true, List, Ok, Some, slice_get}
use Rattle.std.specs.List.{Contains}
use Rattle.pool_types.specs.Contents.{Contents}
use Rattle.pool_types.specs.declared.contents.message.MessageDescriptorInner.{MessageDescriptorInner}
use Rattle.schema_changes.specs.MapEntries.{is_map_entry}
use Rattle.schema_changes.specs.Pairs.{are_matched}
use Rattle.schema_changes.specs.Parts.{parts_of, one_name}
use Rattle.pool_changes.specs.Comparing.{directions}
use Rattle.pool_changes.specs.Laws.{MapsAlike, ReadsAlike}
use Rattle.pool_changes.specs.Sides.{Versions, writer, reader}
use Rattle.pool_changes.specs.declared.direction.Direction.{Direction}
use Rattle.pool_changes.specs.declared.direction.Direction.TheVariants.{Backward}
use Rattle.descriptor_check.specs.Against.{answer_against, compatibility_wanted}
use Rattle.descriptor_check.specs.Olders.{older_of}
use Rattle.descriptor_check.specs.declared.answer.Answer.{Answer}
use Rattle.descriptor_check.specs.declared.answer.Status.TheVariants as status
use Rattle.descriptor_check.specs.declared.answer.Wanted.{Wanted}
use Rattle.descriptor_check.specs.declared.inputs.Input.{Input}
use Rattle.check_laws.specs.Checked.{AcceptedAs}

-- the files of an input alone are accepted as an older version, with a pool
abbrev pub OlderAs : Wanted → Input → Contents → Type 0
OlderAs w i p = older_of w i ≡ Ok (record { name = i.name; pool = p })

-- what the version that writes in a direction writes of a message is read by the other, if both have
-- a message of that name, with the same value of each field that both have, down to any level; and
-- each map, with the same entry of each key; backward the new version has a message of each name, but
-- for the entries of maps
pub record ReadsIn (v : Versions) : Type 0 where
  pub values : (m n : ℕ) → one_name (parts_of (writer v)) m (parts_of (reader v)) n ≡ true
      → ReadsAlike (writer v) (reader v) (λ _ _. false) m n
  pub maps : (m n : ℕ) → are_matched (parts_of (writer v)) m (parts_of (reader v)) n ≡ true
      → MapsAlike (writer v) (reader v) (λ _ _. false) m n
  pub names : v.direction ≡ Backward
      → (m : ℕ) (x : MessageDescriptorInner) → slice_get v.old.messages m ≡ Some x
      → is_map_entry (parts_of v.old) x ≡ false
      → (n : ℕ) × (one_name (parts_of v.old) m (parts_of v.new) n ≡ true)

-- law: where the check against older versions ends with the status of an accepted batch, what one
-- version writes is read by the other, in each direction that is asked for, with each older version
abbrev pub AcceptedIsRead : Wanted → List Input → List Input → Answer → Contents → Contents
    → Type 0
AcceptedIsRead w olders inputs a old new =
    a ≡ answer_against w olders inputs → a.status ≡ status.Accepted
    → (i : Input) → Contains olders i → OlderAs w i old → AcceptedAs w inputs new
    → (d : Direction) → Contains (directions (compatibility_wanted w)) d
    → ReadsIn (record { direction = d; old = old; new = new })

-- law: it ends so only where the inputs are accepted, with a pool, and so is each older version
pub record HasPools (w : Wanted) (olders inputs : List Input) : Type 0 where
  pub new : Contents
  pub accepted : AcceptedAs w inputs new
  pub older : (i : Input) → Contains olders i → (old : Contents) × OlderAs w i old
