use Rattle.std.proofs.Common.{◌≤◌, ◌-◌, length, take}
use Rattle.proto_types.specs.declared.message.DescriptorProto.{out-DescriptorProto}
use Rattle.record_walk.specs.Faults.{Tells, named_files}
use Rattle.record_walk.specs.Place.{inside_of}
use Rattle.field_rules.specs.Numbers.{reserved_faults}
use Rattle.field_rules.proofs.reserved.check_reserved_by.Given as goal

-- what the reserved ranges so far break is told
abbrev pub invariant-loop-position : goal.invariant-loop-position
invariant-loop-position l =
    let ranges = (out-DescriptorProto l.owner.message.now).reserved_range in
    record {
      within : l.from ≤ length ranges;
      told : Tells l.initial.faults l.faults (reserved_faults (named_files l.initial.faults) l.place.file l.place.path.now l.number (inside_of l.owner.place) (take l.from ranges));
    }

-- those that are left
abbrev pub decreases-loop-position : goal.decreases-loop-position
decreases-loop-position l = length (out-DescriptorProto l.owner.message.now).reserved_range - l.from
