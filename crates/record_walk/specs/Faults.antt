-- What is found: the faults that a check tells, where all else stays.
use Rattle.std.specs.Prelude.{◌≡◌, List, map}
use Rattle.proto_types.specs.declared.file.FileDescriptorProto.{FileDescriptorProto}
use Rattle.pool_faults.specs.declared.fault.DescriptorErrorKind.{DescriptorErrorKind}
use Rattle.record_walk.specs.declared.faults.Faults.{Faults}
use Rattle.record_walk.specs.Telling.{Telling, with_faults}

-- the records of the files that labels name
abbrev pub named_files : Faults → List FileDescriptorProto
named_files faults = map (λ f. f.raw) faults.labels

-- what is told so far
abbrev pub told_in : Faults → Telling
told_in faults = record { most = faults.most; first = faults.first.items; rest = faults.rest }

-- a check has told certain faults behind those that were told before it, and all else stays
pub record Tells (old new : Faults) (faults : List DescriptorErrorKind) : Type 0 where
  pub told : told_in new ≡ with_faults (told_in old) faults
  pub files : new.labels ≡ old.labels
