use Rattle.std.proofs.Common.{◌≡◌, ◌++◌, take}
use Rattle.std.specs.List.{flat_map}
use Rattle.protoc_rules.specs.Written.{extension_types}
use Rattle.protoc_rules.proofs.written.+add_extensions.Given as goal

abbrev pub invariant-loop-nested : goal.invariant-loop-nested
invariant-loop-nested l = l.types ≡ l.initial.types ++ flat_map extension_types (take l.nested-index l.messages)
