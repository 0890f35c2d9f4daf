use Rattle.std.proofs.Common.{◌≡◌, ◌++◌, take}
use Rattle.std.specs.List.{flat_map}
use Rattle.protoc_rules.specs.Written.{field_types}
use Rattle.protoc_rules.proofs.written.+add_fields.Given as goal

abbrev pub invariant-loop-nested : goal.invariant-loop-nested
invariant-loop-nested l = l.rows ≡ l.initial.rows ++ flat_map field_types (take l.nested-index l.messages)
