-- The verdict on a batch, linked into a pool without files.
use Rattle.std.specs.Prelude.{ℕ, Bool, List, [], ◌∷◌, Result, Ok, Err, if◌then◌else◌}
use Rattle.std.specs.declared.option.Option.{Option}
use Rattle.std.specs.declared.option.Option.TheVariants.{None, Some}
use Rattle.joined_files.specs.declared.joining.JoinedFiles.{JoinedFiles}
use Rattle.joined_files.specs.declared.unequal.UnequalFile.{UnequalFile}
use Rattle.pool_faults.specs.declared.fault.DescriptorErrorKind.{DescriptorErrorKind}
use Rattle.pool_types.specs.Contents.{no_contents}
use Rattle.record_walk.specs.declared.counts.Counts.{Counts}
use Rattle.record_walk.specs.declared.counts.CountKind.{CountKind}
use Rattle.record_walk.specs.Telling.{first_of, rest_of}
use Rattle.descriptor_pool.specs.Pool.{Batch, counts_after, faults, link}
use Rattle.descriptor_pool.specs.declared.error.BuildError.{BuildError}
use Rattle.descriptor_pool.specs.declared.error.BuildError.TheVariants as build
use Rattle.proto_types.specs.declared.file.FileDescriptorProto.{FileDescriptorProto}
use Rattle.descriptor_check.specs.declared.verdicts.Refusal.{Refusal}
use Rattle.descriptor_check.specs.declared.verdicts.Verdict.{Verdict}
use Rattle.descriptor_check.specs.declared.verdicts.Verdict.TheVariants.{Accepted, Refused, TooMany}
use Rattle.descriptor_check.specs.declared.verdicts.Verdict.TheVariants.{Unequal}

-- a batch that breaks rules, by all its faults: so many are kept, and the others counted
abbrev pub refusal : ℕ → Batch → List DescriptorErrorKind → Refusal
refusal most batch fs = record {
  files = batch;
  faults = first_of (Some most) fs;
  rest = rest_of (Some most) fs;
}

-- the verdict on a batch that fits, by its faults: where it has none, the pool of its files
abbrev pub by_faults : ℕ → Batch → List DescriptorErrorKind → Verdict
by_faults most batch [] = Accepted (link no_contents batch)
by_faults most batch (f ∷ fs) = Refused (refusal most batch (f ∷ fs))

-- the verdict on a batch, by its counts
abbrev pub by_counts : ℕ → Batch → Result Counts CountKind → Verdict
by_counts most batch (Ok _) = by_faults most batch (faults no_contents batch)
by_counts most batch (Err kind) = TooMany kind

-- the verdict on a batch: of too much of a kind, or of its faults, of which so many are wanted, or
-- else that it is accepted
unfoldable pub verdict_of : ℕ → Batch → Verdict
verdict_of most batch = by_counts most batch (counts_after no_contents batch)

-- unequal files of one name, or a verdict where there are none
abbrev pub unless_unequal : List UnequalFile → Verdict → Verdict
unless_unequal [] verdict = verdict
unless_unequal (u ∷ us) verdict = Unequal (u ∷ us)

-- the verdict on the files of sets: unequal ones of one name before all faults, unless the first of
-- them counts
unfoldable pub verdict_of_joined : Bool → ℕ → JoinedFiles → Verdict
verdict_of_joined first_counts most joined = if first_counts then verdict_of most joined.files
    else unless_unequal joined.unequal (verdict_of most joined.files)

-- the verdict that an error of linking tells, by the files that came back; none where memory was
-- refused
abbrev pub verdict_told : List FileDescriptorProto → BuildError → Option Verdict
verdict_told files (build.TooMany kind) = Some (TooMany kind)
verdict_told files (build.Descriptor error) =
    Some (Refused (record { files = files; faults = error.errors; rest = error.rest }))
verdict_told files build.OutOfMemory = None
