use Rattle.std.proofs.Common.{◌≡◌, take, Some}
use Rattle.proto_types.specs.Readers.{text_of}
use Rattle.field_rules.specs.Maps.{keyed}
use Rattle.field_rules.proofs.field_names.name_list.Given as goal

-- the names so far stand in the list
abbrev pub invariant-loop-position : goal.invariant-loop-position
invariant-loop-position l = l.names ≡ keyed (λ f. Some (text_of f.name)) (take l.position l.fields)
