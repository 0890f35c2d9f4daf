use Rattle.std.proofs.Common.{◌≡◌, take}
use Rattle.field_rules.specs.Maps.{keyed}
use Rattle.field_rules.proofs.field_names.json_name_list.Given as goal

-- the names so far stand in the list
abbrev pub invariant-loop-position : goal.invariant-loop-position
invariant-loop-position l = l.names ≡ keyed (λ f. f.json_name) (take l.position l.fields)
