-- What is told of files that break rules is what a call with them ends in; and so is that memory was
-- refused.
use Rattle.std.proofs.Common.{◌≡◌, ◌≢◌, ℕ, Some, List, [], ◌∷◌, Result, Ok, Err, IfOk, sym, ap, subst, ◌∙◌, arith}
use Rattle.std.specs.Prelude.{max}
use Rattle.std.proofs.lemmas.List.{take_all}
use Rattle.std.specs.declared.alloc.AllocError.{AllocError}
use Rattle.joined_files.specs.declared.unequal.UnequalFile.{UnequalFile}
use Rattle.pool_types.specs.Contents.{Contents, files_of}
use Rattle.pool_faults.specs.declared.error.DescriptorError.{DescriptorError}
use Rattle.pool_faults.specs.declared.fault.DescriptorErrorKind.{DescriptorErrorKind}
use Rattle.proto_types.specs.declared.file.FileDescriptorProto.{FileDescriptorProto}
use Rattle.record_walk.specs.Telling.{first_of, rest_of}
use Rattle.descriptor_pool.specs.Within.{IsRefusedWithin}
use Rattle.descriptor_pool.specs.Pool.{Batch, faults, new_files}
use Rattle.numbered_pool.specs.Added.{IsTold, LinkedAs, ToldAs, UnlessUnequal}
use Rattle.numbered_pool.specs.Known.{none_added}
use Rattle.numbered_pool.specs.Reports.{no_report, refused_report}
use Rattle.numbered_pool.specs.declared.answers.Answers.{Answers}
use Rattle.numbered_pool.specs.declared.report.Report.{Report}
use Rattle.numbered_pool.specs.declared.status.Status.{Status}
use Rattle.numbered_pool.specs.declared.status.Status.TheVariants.{OutOfMemory, Refused}

-- what is told by the pool that is as it was, and by the files that came back
told-again : (old : Answers) (batch : Batch) (error : DescriptorError) (middle : Contents) (back : List FileDescriptorProto)
    → IsRefusedWithin (Some old.max_faults) old.pool batch error middle → back ≡ new_files old.pool batch
    → refused_report (files_of middle) back error.errors error.rest old.max_faults
    ≡ refused_report (files_of old.pool) (new_files old.pool batch) (first_of (Some old.max_faults) (faults old.pool batch)) (rest_of (Some old.max_faults) (faults old.pool batch)) old.max_faults
told-again old batch error middle back refused given =
    ap (λ p. refused_report (files_of p) back error.errors error.rest old.max_faults) refused.unchanged
    ∙ ap (λ fs. refused_report (files_of old.pool) fs error.errors error.rest old.max_faults) given
    ∙ (λ i. refused_report (files_of old.pool) (new_files old.pool batch) (refused.first i) (refused.rest i) old.max_faults)

-- where some faults are kept there are some
some-are : (most : ℕ) (all first : List DescriptorErrorKind) → first ≡ first_of (Some most) all → first ≢ [] → all ≢ []
some-are most all first kept some none = some (kept ∙ ap (first_of (Some most)) none ∙ take_all (max 1 most) [] (omega arith))

pub refused_told : (old : Answers) (batch : Batch) (error : DescriptorError) (middle : Contents) (back : List FileDescriptorProto)
    (report : Result Report AllocError) (new : Answers) (result : Status)
    → IsRefusedWithin (Some old.max_faults) old.pool batch error middle → back ≡ new_files old.pool batch
    → IfOk report (λ r. r ≡ refused_report (files_of middle) back error.errors error.rest old.max_faults)
    → new.pool ≡ middle → new.max_faults ≡ old.max_faults → new.added ≡ none_added → ToldAs report Refused new.report result → LinkedAs old batch new result
refused_told old batch error middle back (Ok r) new result refused given made same limit uncounted told =
    subst (LinkedAs old batch new) (sym told.0) (record {
      fits = refused.fits;
      broken = some-are old.max_faults (faults old.pool batch) error.errors refused.first error.some;
      told = record {
        unchanged = same ∙ refused.unchanged;
        limit = limit;
        uncounted = uncounted;
        told = told.1 ∙ made ∙ told-again old batch error middle back refused given;
      };
    })
refused_told old batch error middle back (Err e) new result refused given made same limit uncounted told =
    subst (LinkedAs old batch new) (sym told.0) (record { unchanged = same ∙ refused.unchanged; limit = limit; uncounted = uncounted; told = told.1 })

pub memory_refused : (old : Answers) (batch : Batch) (unequal : List UnequalFile) (new : Answers)
    → IsTold old new no_report → UnlessUnequal old batch unequal new OutOfMemory
memory_refused old batch [] new told = told
memory_refused old batch (u ∷ us) new told = told
