-- What two lists of files declare, one behind the other.
use Rattle.std.specs.Prelude.{◌≡◌, List, ◌++◌}
use Rattle.proto_types.specs.declared.file.FileDescriptorProto.{FileDescriptorProto}
use Rattle.record_walk.specs.declared.counts.Counts.{Counts}
use Rattle.record_walk.specs.Counts.{counted}
use Rattle.record_walk.specs.Declarations.{declarations}

-- law: two lists of files in a row declare what the first declares, and then what the second does,
-- numbered on from the counts behind the first
abbrev pub DeclareInTurn : Counts → List FileDescriptorProto → List FileDescriptorProto → Type 0
DeclareInTurn base files more =
    declarations base (files ++ more) ≡ declarations base files
    ++ declarations (counted base (declarations base files)) more
