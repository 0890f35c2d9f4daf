use Rattle.std.proofs.Common.{◌≡◌, ◌++◌, take}
use Rattle.std.specs.List.{flat_map}
use Rattle.protoc_rules.specs.Written.{extension_types}
use Rattle.protoc_rules.proofs.written.add_nested_extensions.Given as goal

abbrev pub invariant-loop-message : goal.invariant-loop-message
invariant-loop-message l = l.types ≡ l.initial.types ++ flat_map extension_types (take l.message-index l.messages)
