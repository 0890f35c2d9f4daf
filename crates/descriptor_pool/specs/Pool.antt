-- Pools: what a batch makes of one, and when it may.
use Rattle.std.specs.Prelude.{◌≡◌, ℕ, Bool, not, is_some, IsOk, List, []}
use Rattle.std.specs.FinMap as finite
use Rattle.std.specs.List.{filter}
use Rattle.std.specs.declared.result.Result.{Result}
use Rattle.record_walk.specs.declared.counts.Counts.{Counts}
use Rattle.record_walk.specs.declared.counts.CountKind.{CountKind}
use Rattle.proto_types.specs.declared.file.FileDescriptorProto.{FileDescriptorProto}
use Rattle.pool_types.specs.Contents.{Contents, no_contents}
use Rattle.record_walk.specs.Counts.{counts_in}
use Rattle.record_walk.specs.Fits.{counts_with}
use Rattle.proto_types.specs.Readers.{text_of}
use Rattle.reference_pass.specs.SecondPass.{Faults}
use Rattle.descriptor_pool.specs.Build.{name_faults, reference_faults, first_of_both, with_batch}

-- a list of files
abbrev pub Batch : Type 0
Batch = List FileDescriptorProto

-- whether the pool has a file of a name
abbrev pub has_file : Contents → List ℕ → Bool
has_file p name = is_some (finite.get p.file_names name)

-- the files of a batch whose names the pool lacks
abbrev pub new_files : Contents → Batch → List FileDescriptorProto
new_files p batch = filter (λ f. not (has_file p (text_of f.name))) batch

-- the faults of the first pass over the new files of a batch
abbrev pub faults_of_names : Contents → Batch → Faults
faults_of_names p batch = name_faults p (new_files p batch)

-- the faults of the second pass over the new files of a batch
abbrev pub faults_of_references : Contents → Batch → Faults
faults_of_references p batch = reference_faults p (new_files p batch)

-- the faults of a batch: those of the first pass if there are any, else those of the second
abbrev pub faults : Contents → Batch → Faults
faults p batch = first_of_both (faults_of_names p batch) (faults_of_references p batch)

-- neither pass finds a fault in a batch
abbrev pub Accepts : Contents → Batch → Type 0
Accepts p batch = (faults_of_names p batch ≡ []) × (faults_of_references p batch ≡ [])

-- the counts after a batch, or what there is too much of: in the new files alone, else together
-- with the pool
abbrev pub counts_after : Contents → Batch → Result Counts CountKind
counts_after p batch = counts_with (counts_in p) (new_files p batch)

-- the counts after a batch are within the limits
abbrev pub Fits : Contents → Batch → Type 0
Fits p batch = IsOk (counts_after p batch)

-- the pool after a batch, with its new files linked behind those that it has
abbrev pub link : Contents → Batch → Contents
link p batch = with_batch p (new_files p batch)

-- the contents that pools have: nothing, or what a batch that is accepted and fits makes of made
-- contents
pub data Made : Contents → Type 0 where
  empty : {p : Contents} → p ≡ no_contents → Made p
  linked_to : {p q : Contents} (batch : Batch) → Made q → Accepts q batch → Fits q batch
      → p ≡ link q batch → Made p
