use Rattle.std.proofs.Common.{take}
use Rattle.proto_types.specs.declared.message.DescriptorProto.{out-DescriptorProto}
use Rattle.record_walk.specs.Faults.{Tells, named_files}
use Rattle.record_walk.specs.Place.{inside_of}
use Rattle.field_rules.specs.Numbers.{reserved_faults}
use Rattle.field_rules.proofs.reserved.check_reserved_ranges.Given as goal

-- what the reserved ranges so far break is told
abbrev pub invariant-loop-position : goal.invariant-loop-position
invariant-loop-position l =
    Tells l.initial.faults l.faults
    (reserved_faults (named_files l.initial.faults) l.place.file l.place.path.now l.number (inside_of l.owner.place) (take l.position (out-DescriptorProto l.owner.message.now).reserved_range))
