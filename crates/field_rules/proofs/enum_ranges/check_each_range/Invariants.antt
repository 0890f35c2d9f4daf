use Rattle.std.proofs.Common.{take}
use Rattle.record_walk.specs.Place.{enum_at}
use Rattle.record_walk.specs.Faults.{Tells, named_files}
use Rattle.field_rules.specs.EnumValues.{reserved_faults}
use Rattle.field_rules.proofs.enum_ranges.check_each_range.Given as goal

-- the ranges so far are checked
abbrev pub invariant-loop-index : goal.invariant-loop-index
invariant-loop-index l =
    Tells l.initial.faults l.faults
    (reserved_faults (named_files l.initial.faults) (enum_at l.place l.enumeration) l.value.0 l.value.1 (take l.index l.enumeration.reserved_range))
