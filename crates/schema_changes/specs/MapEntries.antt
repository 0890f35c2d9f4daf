-- Entries of maps (descriptor.proto on `map_entry`).
use Rattle.std.specs.Prelude.{ℕ, Bool, false, ◌&&◌, ◌==◌, length, Option, None, Some}
use Rattle.std.specs.Prelude.{option_and_then, slice_get, if◌then◌else◌}
use Rattle.std.specs.Option.{option_map_or}
use Rattle.descriptor_decoding.specs.Flags.{says_map_entry}
use Rattle.pool_types.specs.declared.contents.message.MessageDescriptorInner.{MessageDescriptorInner}
use Rattle.schema_changes.specs.Parts.{Parts}
use Rattle.schema_changes.specs.Records.{message_record}

-- whether a message is an entry of a map: it has two fields, the key and the value, and the options
-- of its record say so
unfoldable pub is_map_entry : Parts → MessageDescriptorInner → Bool
is_map_entry p m =
    length m.fields == 2 && option_map_or says_map_entry (message_record p m) false

-- the entry of a map that the message with an index is
unfoldable pub map_entry_at : Parts → ℕ → Option MessageDescriptorInner
map_entry_at p m =
    option_and_then (λ x. if is_map_entry p x then Some x else None) (slice_get p.messages m)

-- the message with an index, unless it is an entry of a map
unfoldable pub plain_message_at : Parts → ℕ → Option MessageDescriptorInner
plain_message_at p m =
    option_and_then (λ x. if is_map_entry p x then None else Some x) (slice_get p.messages m)
