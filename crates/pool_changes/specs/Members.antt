-- The fields and extensions of two versions of a message that have one number.
use Rattle.std.specs.Prelude.{ℕ, List, [], slice_get, option_map, option_and_then, unwrap_or}
use Rattle.std.specs.Prelude.{Option}
use Rattle.std.specs.FinMap as finite
use Rattle.std.specs.Option.{option_or, option_map_or}
use Rattle.pool_types.specs.LookUps.{field_numbered}
use Rattle.pool_types.specs.declared.contents.definition.Identity.{Identity}
use Rattle.pool_types.specs.declared.contents.message.MessageDescriptorInner.{MessageDescriptorInner}
use Rattle.pool_types.specs.declared.contents.oneof.OneofDescriptorInner.{OneofDescriptorInner}
use Rattle.schema_changes.specs.Changes.{Compared, first_some}
use Rattle.schema_changes.specs.Parts.{Parts}
use Rattle.pool_changes.specs.declared.direction.Direction.{Direction}
use Rattle.pool_changes.specs.declared.direction.Direction.TheVariants.{Backward, Forward}

-- the identity of the extension with an index
abbrev pub extension_id : Parts → ℕ → Option Identity
extension_id p i = option_map (λ x. x.id) (slice_get p.extensions i)

-- the identity of the field of a message with a number, or else of the extension
abbrev pub id_numbered : Parts → MessageDescriptorInner → ℕ → Option Identity
id_numbered p m n = option_or (option_map (λ f. f.id) (field_numbered m n))
    (option_and_then (extension_id p) (finite.get m.extension_numbers n))

-- the identity of the old field or extension
abbrev pub old_id : Compared → ℕ → Option Identity
old_id c n = id_numbered c.old c.before n

-- the identity of the new one
abbrev pub new_id : Compared → ℕ → Option Identity
new_id c n = id_numbered c.new c.after n

-- what a change stands at in the old version: the field or extension, or else the message
abbrev pub old_shown : Compared → ℕ → Identity
old_shown c n = unwrap_or (old_id c n) c.before.id

-- the same in the new version
abbrev pub new_shown : Compared → ℕ → Identity
new_shown c n = unwrap_or (new_id c n) c.after.id

-- the full name of the new field or extension, or else of the old one
abbrev pub shown_name : Compared → ℕ → List ℕ
shown_name c n = (unwrap_or (new_id c n) (old_shown c n)).full_name

-- two versions with their sides changed
abbrev pub turned : Compared → Compared
turned c = record { old = c.new; before = c.after; new = c.old; after = c.before }

-- two versions in the order of a direction: of the older and the new one the writer's and then the
-- reader's, and the other way round
abbrev pub by_writer : Direction → Compared → Compared
by_writer Backward c = c
by_writer Forward c = turned c

-- the oneof of the new field with a number
abbrev pub new_oneof : Compared → ℕ → Option OneofDescriptorInner
new_oneof c n = option_and_then (slice_get c.after.oneofs)
    (option_and_then (λ f. f.oneof) (field_numbered c.after n))

-- the identity of the old field or extension with the number of the new field at a position
abbrev pub old_at : Compared → ℕ → Option Identity
old_at c i = option_and_then (λ f. old_id c f.number) (slice_get c.after.fields i)

-- the full name of the oneof of the new field with a number
abbrev pub new_oneof_name : Compared → ℕ → List ℕ
new_oneof_name c n = option_map_or (λ o. o.id.full_name) (new_oneof c n) []

-- the full name of the first old field or extension that the same oneof holds now
abbrev pub first_held : Compared → ℕ → List ℕ
first_held c n = option_map_or (λ id. id.full_name)
    (option_and_then (λ o. first_some (old_at c) o.fields) (new_oneof c n)) []

-- the full name of the oneof of the reader's field with a number
abbrev pub oneof_name : Direction → Compared → ℕ → List ℕ
oneof_name d c n = new_oneof_name (by_writer d c) n

-- the full name of the writer's first field that this oneof holds
abbrev pub partner_name : Direction → Compared → ℕ → List ℕ
partner_name d c n = first_held (by_writer d c) n
