-- Message sets, whose extensions are encoded otherwise (descriptor.proto on
-- `message_set_wire_format`).
use Rattle.std.specs.Prelude.{Bool, false, ◌&&◌, ◌==◌, length}
use Rattle.std.specs.Option.{option_map_or}
use Rattle.descriptor_decoding.specs.Flags.{says_message_set}
use Rattle.pool_types.specs.declared.contents.message.MessageDescriptorInner.{MessageDescriptorInner}
use Rattle.schema_changes.specs.Parts.{Parts}
use Rattle.schema_changes.specs.Records.{message_record}

-- whether a message is a message set: it has no fields, and the options of its record say so
unfoldable pub is_message_set : Parts → MessageDescriptorInner → Bool
is_message_set p m =
    length m.fields == 0 && option_map_or says_message_set (message_record p m) false
