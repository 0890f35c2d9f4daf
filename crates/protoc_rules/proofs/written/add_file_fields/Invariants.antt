use Rattle.std.proofs.Common.{◌≡◌, ◌++◌, take}
use Rattle.std.specs.List.{flat_map}
use Rattle.protoc_rules.specs.Written.{field_types}
use Rattle.protoc_rules.proofs.written.add_file_fields.Given as goal

abbrev pub invariant-loop-message : goal.invariant-loop-message
invariant-loop-message l = l.rows ≡ l.initial.rows ++ flat_map field_types (take l.message-index l.messages)
