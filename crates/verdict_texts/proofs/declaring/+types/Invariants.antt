use Rattle.std.proofs.Common.{◌≡◌, ◌++◌, take}
use Rattle.verdict_texts.specs.Named.{types_in}
use Rattle.verdict_texts.proofs.declaring.+types.Given as goal

-- the names in the messages so far
abbrev pub invariant-add_messages-loop-message : goal.invariant-add_messages-loop-message
invariant-add_messages-loop-message l =
    l.names ≡ l.initial.names ++ types_in l.scope (take l.message-index l.messages)
