-- What files declare, counted together with what there is.
use Rattle.std.specs.Prelude.{List}
use Rattle.std.specs.declared.result.Result.{Result}
use Rattle.record_walk.specs.declared.counts.Counts.{Counts}
use Rattle.record_walk.specs.declared.counts.CountKind.{CountKind}
use Rattle.proto_types.specs.declared.file.FileDescriptorProto.{FileDescriptorProto}
use Rattle.record_walk.specs.Counts.{no_counts, added_to, counts_of}
use Rattle.record_walk.specs.Declarations.{declarations}

-- the counts of all that files declare, added to others, or what there is too much of; what the
-- files alone have too much of is told first
abbrev pub counts_with : Counts → List FileDescriptorProto → Result Counts CountKind
counts_with base files = added_to base (counts_of (declarations no_counts files))
