-- What is told of a pool and itself.
use Rattle.std.specs.Prelude.{◌≡◌, ℕ, List, [], Some, None, slice_get}
use Rattle.pool_types.specs.Contents.{Contents}
use Rattle.pool_types.specs.LookUps.{field_numbered}
use Rattle.pool_types.specs.declared.contents.extension.ExtensionDescriptorInner.{ExtensionDescriptorInner}
use Rattle.pool_types.specs.declared.contents.message.MessageDescriptorInner.{MessageDescriptorInner}
use Rattle.verdict_texts.specs.declared.telling.ToldFault.{ToldFault}
use Rattle.pool_changes.specs.Comparing.{told_at}
use Rattle.pool_changes.specs.declared.direction.Direction.{Direction}
use Rattle.pool_changes.specs.declared.kinds.Level.{Level}
use Rattle.pool_changes.specs.declared.kinds.Level.TheVariants.{Wire}

-- what is told in a direction, at a level, of a pool and itself
abbrev pub told_of_itself : Contents → Direction → Level → List ToldFault
told_of_itself p d level = told_at (record { direction = d; old = p; new = p }) level

-- no extension of a message has the number of one of its fields. Linking refuses it of each field,
-- but for one whose record has an extendee, which protoc refuses
abbrev pub NumbersApart : Contents → Type 0
NumbersApart p =
    (k j i : ℕ) (m : MessageDescriptorInner) (x : ExtensionDescriptorInner)
    → slice_get p.messages k ≡ Some m → slice_get m.extensions j ≡ Some i
    → slice_get p.extensions i ≡ Some x → field_numbered m x.number ≡ None

-- law: nothing is told at wire of a pool and itself; nor at any other level, where no extension of a
-- message has the number of one of its fields
pub record NothingIsTold (p : Contents) : Type 0 where
  pub at_wire : (d : Direction) → told_of_itself p d Wire ≡ []
  pub at_each : NumbersApart p → (d : Direction) (level : Level) → told_of_itself p d level ≡ []
