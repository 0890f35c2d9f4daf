-- Where items stand in the source of their files.
use Rattle.std.specs.Prelude.{List, find, slice_get}
use Rattle.std.specs.Cmp.Lexicographic.{pointwise}
use Rattle.std.specs.Option.{option_and_then}
use Rattle.std.specs.Ordering.{int_eq}
use Rattle.std.specs.declared.option.Option.{Option}
use Rattle.proto_types.specs.declared.records.source.Location.{Location}
use Rattle.pool_faults.specs.Labels.{locations}
use Rattle.pool_types.specs.declared.contents.definition.Identity.{Identity}
use Rattle.pool_types.specs.declared.contents.file.FileDescriptorInner.{FileDescriptorInner}

-- the first location of a file with the path of what is declared somewhere
abbrev pub location_of : List FileDescriptorInner → Identity → Option Location
location_of files id =
    option_and_then (λ f. find (λ l. pointwise int_eq l.path id.path) (locations f.raw))
    (slice_get files id.file)
