-- What is true of the contents of every pool.
use Rattle.std.specs.Prelude.{◌≡◌}
use Rattle.record_walk.specs.Counts.{no_counts, counted, counts_in}
use Rattle.record_walk.specs.Declarations.{declarations}
use Rattle.record_walk.specs.Walking.{WithinLimits}
use Rattle.pool_types.specs.Contents.{Contents, files_of}
use Rattle.name_tables.specs.Entries.{names}
use Rattle.name_pass.specs.Names.{entries, file_entries}
use Rattle.reference_pass.specs.NamesBegin.{AllNamesBegin}
use Rattle.descriptor_pool.specs.Pool.{Made}

-- what is true of the contents of every pool: they are made, their counts are those of what the
-- files declare and are within the limits, their names are those that the files enter, and the name
-- of each item begins where a character begins
pub record IsPool (p : Contents) : Type 0 where
  pub made : Made p
  pub counts_are : counts_in p ≡ counted no_counts (declarations no_counts (files_of p))
  pub within : WithinLimits (counts_in p)
  pub names_are : p.names ≡ names (entries (declarations no_counts (files_of p)))
  pub file_names_are : p.file_names ≡ names (file_entries (declarations no_counts (files_of p)))
  pub names_begin : AllNamesBegin p
