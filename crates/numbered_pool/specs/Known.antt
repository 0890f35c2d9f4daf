-- The files of a batch of whose names a pool has one, and what becomes of a batch.
use Rattle.std.specs.Prelude.{Bool, false, not, is_some, count_by, slice_get}
use Rattle.std.specs.FinMap as finite
use Rattle.std.specs.Option.{option_and_then, option_map_or}
use Rattle.std.specs.declared.option.Option.{Option}
use Rattle.descriptor_pool.specs.Pool.{Batch, has_file}
use Rattle.joined_files.specs.Differences.{difference}
use Rattle.pool_types.specs.Contents.{Contents}
use Rattle.pool_types.specs.declared.contents.file.FileDescriptorInner.{FileDescriptorInner}
use Rattle.proto_types.specs.Readers.{text_of}
use Rattle.proto_types.specs.declared.file.FileDescriptorProto.{FileDescriptorProto}
use Rattle.numbered_pool.specs.declared.known.Added.{Added}

-- the file of a pool that has the name of a file
abbrev pub known_file : Contents → FileDescriptorProto → Option FileDescriptorInner
known_file p f = option_and_then (slice_get p.files) (finite.get p.file_names (text_of f.name))

-- whether a pool has a file of the name of a file
abbrev pub is_known : Contents → FileDescriptorProto → Bool
is_known p f = has_file p (text_of f.name)

-- whether a file differs from the linked one of its name that a pool has, apart from their places
abbrev pub differs : Contents → FileDescriptorProto → Bool
differs p f = option_map_or (λ g. is_some (difference g.raw f)) (known_file p f) false

-- nothing became of any file
abbrev pub none_added : Added
none_added = record { files = 0; passed_over = 0; differing = 0 }

-- what becomes of the files of a batch that is linked into a pool: those whose names it lacks are
-- linked, and the others are passed over, of which some differ from what it has
abbrev pub added_by : Contents → Batch → Added
added_by p batch = record {
  files = count_by (λ f. not (is_known p f)) batch;
  passed_over = count_by (is_known p) batch;
  differing = count_by (differs p) batch;
}
