use Rattle.std.proofs.Common.{◌≡◌, map, take}
use Rattle.protoc_rules.specs.Linked.{is_entry, is_set, linked}
use Rattle.protoc_rules.proofs.linked.Linked.flags.Given as goal

abbrev pub invariant-loop-message : goal.invariant-loop-message
invariant-loop-message l = record {
  entries : l.entries ≡ map (is_entry (linked l.self)) (take l.message-index l.messages);
  sets : l.sets ≡ map (is_set (linked l.self)) (take l.message-index l.messages);
}
