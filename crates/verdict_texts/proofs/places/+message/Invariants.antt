use Rattle.std.proofs.Common.{◌≡◌, ◌++◌, take}
use Rattle.verdict_texts.specs.Places.{messages_indexes}
use Rattle.verdict_texts.proofs.places.+message.Given as goal

-- the messages so far are looked at
abbrev pub invariant-add_messages-loop-position : goal.invariant-add_messages-loop-position
invariant-add_messages-loop-position l = l.paths.items ≡ l.initial.paths.items ++ messages_indexes l.path l.tag (take l.position l.messages)
