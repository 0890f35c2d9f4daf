use Rattle.std.proofs.Common.{◌≡◌, ◌++◌, take}
use Rattle.std.specs.List.{flat_map}
use Rattle.protoc_rules.specs.Linked.{linked}
use Rattle.protoc_rules.specs.Messages.{field_faults}
use Rattle.protoc_rules.proofs.known.Known.tell_fields.Given as goal

abbrev pub invariant-loop-field : goal.invariant-loop-field
invariant-loop-field l = l.found ≡ l.initial.found ++ flat_map (field_faults (linked l.self.items) l.owner.message.now l.owner.is_message_set) (take l.field-index l.fields)
