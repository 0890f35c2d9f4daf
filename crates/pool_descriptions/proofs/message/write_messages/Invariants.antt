use Rattle.std.proofs.Common.{◌≡◌, ◌++◌, string_bytes, take}
use Rattle.std.specs.List.{flat_map}
use Rattle.pool_descriptions.specs.Items.{message_text}
use Rattle.pool_descriptions.proofs.message.write_messages.Given as goal

-- the messages so far are told
abbrev pub invariant-loop-message : goal.invariant-loop-message
invariant-loop-message l =
    string_bytes l.text ≡ string_bytes l.initial.text ++ flat_map (message_text l.pool) (take l.message-index l.pool.messages)
