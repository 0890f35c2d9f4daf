use Rattle.std.proofs.Common.{take}
use Rattle.std.specs.List.{flat_map}
use Rattle.plain_data.specs.Each.{map_enumerated}
use Rattle.record_walk.specs.Place.{enum_at}
use Rattle.record_walk.specs.Faults.{Tells, named_files}
use Rattle.field_rules.specs.EnumValues.{value_faults}
use Rattle.field_rules.proofs.enum_values.check_all_reserved.Given as goal

-- the faults of the values so far are told
abbrev pub invariant-loop-position : goal.invariant-loop-position
invariant-loop-position l = Tells l.initial.faults l.faults
    (flat_map (λ fs. fs) (map_enumerated (value_faults (named_files l.initial.faults) (enum_at l.place l.enumeration) l.enumeration) 0 (take l.position l.enumeration.value)))
