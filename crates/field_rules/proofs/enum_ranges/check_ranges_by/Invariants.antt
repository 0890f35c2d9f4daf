use Rattle.std.proofs.Common.{◌≤◌, ◌-◌, length, take}
use Rattle.record_walk.specs.Faults.{Tells, named_files}
use Rattle.record_walk.specs.Place.{enum_at}
use Rattle.field_rules.specs.EnumValues.{reserved_faults}
use Rattle.field_rules.proofs.enum_ranges.check_ranges_by.Given as goal

-- what the reserved ranges so far break is told
abbrev pub invariant-loop-index : goal.invariant-loop-index
invariant-loop-index l =
    let ranges = l.enumeration.reserved_range in
    record {
      within : l.from ≤ length ranges;
      told : Tells l.initial.faults l.faults (reserved_faults (named_files l.initial.faults) (enum_at l.place l.enumeration) l.value.0 l.value.1 (take l.from ranges));
    }

-- those that are left
abbrev pub decreases-loop-index : goal.decreases-loop-index
decreases-loop-index l = length l.enumeration.reserved_range - l.from
