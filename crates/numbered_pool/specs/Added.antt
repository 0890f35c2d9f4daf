-- What a call that adds files ends in.
use Rattle.std.specs.Prelude.{◌≡◌, ◌≢◌, ℕ, List, [], ◌∷◌, Result, Ok, Err}
use Rattle.std.specs.declared.alloc.AllocError.{AllocError}
use Rattle.std.specs.declared.option.Option.TheVariants.{Some}
use Rattle.pool_types.specs.Contents.{files_of, no_contents}
use Rattle.record_walk.specs.declared.counts.CountKind.{CountKind}
use Rattle.record_walk.specs.Telling.{first_of, rest_of}
use Rattle.descriptor_pool.specs.Outcome.{IsLinked}
use Rattle.descriptor_pool.specs.Pool.{Batch, Fits, counts_after, faults, new_files}
use Rattle.joined_files.specs.declared.joining.JoinedFiles.{JoinedFiles}
use Rattle.joined_files.specs.declared.unequal.UnequalFile.{UnequalFile}
use Rattle.numbered_pool.specs.Batches.{batch_of}
use Rattle.numbered_pool.specs.Known.{added_by, none_added}
use Rattle.numbered_pool.specs.Reading.{Read}
use Rattle.numbered_pool.specs.Reports.{no_report, refused_report, unequal_report, too_many_report}
use Rattle.numbered_pool.specs.Reports.{fault_report}
use Rattle.numbered_pool.specs.declared.answers.Answers.{Answers}
use Rattle.numbered_pool.specs.declared.report.Report.{Report}
use Rattle.numbered_pool.specs.declared.status.Status.{Status}
use Rattle.numbered_pool.specs.declared.status.Status.TheVariants.{Done, Refused, Fault}
use Rattle.numbered_pool.specs.declared.status.Status.TheVariants.{OutOfMemory, TooMany}

-- a pool without files and what is told of it: nothing, and a hundred faults at most from now on
abbrev pub no_answers : Answers
no_answers = record {
  pool = no_contents;
  report = no_report;
  added = none_added;
  max_faults = 100;
}

-- the same pool with the same limit of faults, of which nothing is told
abbrev pub unreported : Answers → Answers
unreported answers = record answers { report = no_report; added = none_added }

-- the pool is as it was, with its limit of faults, nothing was added, and a report is told
pub record IsTold (old new : Answers) (report : Report) : Type 0 where
  pub unchanged : new.pool ≡ old.pool
  pub limit : new.max_faults ≡ old.max_faults
  pub uncounted : new.added ≡ none_added
  pub told : new.report ≡ report

-- the batch is linked, what became of its files is counted, and no report is told
pub record IsDone (old : Answers) (batch : Batch) (new : Answers) : Type 0 where
  pub linked : IsLinked old.pool batch new.pool
  pub limit : new.max_faults ≡ old.max_faults
  pub counted : new.added ≡ added_by old.pool batch
  pub silent : new.report ≡ no_report

-- the batch fits and breaks rules: the first faults of the first pass that finds any are told, by
-- the pool's files and the new ones alone
pub record IsRefused (old : Answers) (batch : Batch) (new : Answers) : Type 0 where
  pub fits : Fits old.pool batch
  pub broken : faults old.pool batch ≢ []
  pub told : IsTold old new (refused_report (files_of old.pool) (new_files old.pool batch)
      (first_of (Some old.max_faults) (faults old.pool batch))
      (rest_of (Some old.max_faults) (faults old.pool batch)) old.max_faults)

-- there is too much of a kind, the first that is past its limit, which is told
pub record IsTooMany (old : Answers) (batch : Batch) (new : Answers) : Type 0 where
  pub kind : CountKind
  pub first : counts_after old.pool batch ≡ Err kind
  pub told : IsTold old new (too_many_report kind)

-- what a call with some files ends in, by its status
abbrev pub LinkedAs : Answers → Batch → Answers → Status → Type 0
LinkedAs old batch new Done = IsDone old batch new
LinkedAs old batch new Refused = IsRefused old batch new
LinkedAs old batch new Fault = ⊥
LinkedAs old batch new OutOfMemory = IsTold old new no_report
LinkedAs old batch new TooMany = IsTooMany old batch new

-- what a call ends in with files that differ from others of their names: each further one is told,
-- unless memory was refused
abbrev pub UnequalAs : Answers → List UnequalFile → Answers → Status → Type 0
UnequalAs old unequal new Done = ⊥
UnequalAs old unequal new Refused = IsTold old new (unequal_report unequal old.max_faults)
UnequalAs old unequal new Fault = ⊥
UnequalAs old unequal new OutOfMemory = IsTold old new no_report
UnequalAs old unequal new TooMany = ⊥

-- what a call with a batch ends in, by the files that differ from those in it of their names
abbrev pub UnlessUnequal : Answers → Batch → List UnequalFile → Answers → Status → Type 0
UnlessUnequal old batch [] new status = LinkedAs old batch new status
UnlessUnequal old batch (u ∷ us) new status = UnequalAs old (u ∷ us) new status

-- what a call with files ends in that were joined to a batch
abbrev pub JoinedAs : Answers → JoinedFiles → Answers → Status → Type 0
JoinedAs old joined new status = UnlessUnequal old joined.files joined.unequal new status

-- what a call with bytes that are no files ends in: their fault is told, unless memory was refused
abbrev pub NotReadAs : Answers → List ℕ → Answers → Status → Type 0
NotReadAs old words new Done = ⊥
NotReadAs old words new Refused = ⊥
NotReadAs old words new Fault = IsTold old new (fault_report words)
NotReadAs old words new OutOfMemory = IsTold old new no_report
NotReadAs old words new TooMany = ⊥

-- what a call that adds files ends in, by what its bytes say
abbrev pub AddedAs : Read → Answers → Answers → Status → Type 0
AddedAs (Ok files) old new status = JoinedAs old (batch_of files) new status
AddedAs (Err words) old new status = NotReadAs old words new status

-- a report is kept with its status, or memory was refused for it
abbrev pub ToldAs : Result Report AllocError → Status → Report → Status → Type 0
ToldAs (Ok report) status kept result = (result ≡ status) × (kept ≡ report)
ToldAs (Err _) status kept result = (result ≡ OutOfMemory) × (kept ≡ no_report)
