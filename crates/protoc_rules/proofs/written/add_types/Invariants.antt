use Rattle.std.proofs.Common.{◌≡◌, ◌++◌, take, map}
use Rattle.protoc_rules.specs.Written.{written_type}
use Rattle.protoc_rules.proofs.written.add_types.Given as goal

abbrev pub invariant-loop-field : goal.invariant-loop-field
invariant-loop-field l = l.types ≡ l.initial.types ++ map written_type (take l.field-index l.fields)
