use Rattle.std.proofs.Common.{◌≡◌, take}
use Rattle.field_rules.specs.EnumItems.{names_of}
use Rattle.field_rules.proofs.enum_tables.value_names.Given as goal

-- the names so far stand in the list
abbrev pub invariant-loop-position : goal.invariant-loop-position
invariant-loop-position l = l.names ≡ names_of (take l.position l.values)
