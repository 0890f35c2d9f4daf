-- Files none of whose lists is longer than a pool allows.
use Rattle.std.specs.Prelude.{◌≡◌, true, List}
use Rattle.std.specs.List.{list_all}
use Rattle.proto_types.specs.declared.file.FileDescriptorProto.{FileDescriptorProto}
use Rattle.record_walk.specs.Counts.{no_counts, lists_fit}
use Rattle.record_walk.specs.Declarations.{declarations}

-- no list of what files declare is too long
abbrev pub ShortFiles : List FileDescriptorProto → Type 0
ShortFiles fs = list_all (λ d. lists_fit d.proto) (declarations no_counts fs) ≡ true
