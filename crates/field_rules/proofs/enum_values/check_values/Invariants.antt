use Rattle.std.proofs.Common.{◌≡◌, ◌<◌, ℤ, take, find, IfSome}
use Rattle.std.specs.BTreeMap.{get}
use Rattle.std.specs.List.{enumerate_from, flat_map}
use Rattle.std.specs.Option.{option_map}
use Rattle.std.specs.Ordering.{int_cmp, int_eq}
use Rattle.proto_types.specs.Readers.{number_of}
use Rattle.plain_data.specs.Each.{map_enumerated}
use Rattle.record_walk.specs.Place.{enum_at}
use Rattle.record_walk.specs.Faults.{Tells, named_files}
use Rattle.field_rules.specs.EnumValues.{value_faults}
use Rattle.field_rules.proofs.enum_values.check_values.Given as goal

-- each number of the values so far has the position of the earliest, and their faults are told
abbrev pub invariant-loop-position : goal.invariant-loop-position
invariant-loop-position l = record {
  positions : (n : ℤ) → get int_cmp l.positions n
      ≡ option_map (λ e. e.0) (find (λ e. int_eq (number_of e.1.number) n) (enumerate_from 0 (take l.position l.enumeration.value)));
  below : (n : ℤ) → IfSome (get int_cmp l.positions n) (λ first. first < l.position);
  faults : Tells l.initial.faults l.faults
      (flat_map (λ fs. fs) (map_enumerated (value_faults (named_files l.initial.faults) (enum_at l.place l.enumeration) l.enumeration) 0 (take l.position l.enumeration.value)));
}
