use Rattle.std.proofs.Common.{◌≡◌, ◌++◌, take}
use Rattle.std.specs.List.{flat_map}
use Rattle.protoc_rules.specs.Linked.{linked}
use Rattle.protoc_rules.specs.Messages.{message_faults}
use Rattle.protoc_rules.proofs.known.Known.tell_messages.Given as goal

abbrev pub invariant-loop-message : goal.invariant-loop-message
invariant-loop-message l = l.found ≡ l.initial.found ++ flat_map (message_faults (linked l.self.items)) (take l.message-index l.messages)
