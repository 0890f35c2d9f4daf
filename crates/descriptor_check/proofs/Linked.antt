-- What linking a batch ended in is the verdict on it.
use Rattle.std.proofs.Common.{◌≡◌, ◌≢◌, ℕ, false, List, [], ◌∷◌, Result, Ok, Err, Some, IsOk, is_some, refl, sym, ap, unwrap_or, ◌∙◌, arith}
use Rattle.std.specs.Prelude.{max}
use Rattle.std.proofs.lemmas.List.{take_all}
use Rattle.std.specs.FinMap as finite
use Rattle.std.specs.Cmp.Lexicographic.{slice_cmp}
use Rattle.std.specs.Ordering.{nat_cmp}
use Rattle.proto_types.specs.Readers.{text_of}
use Rattle.pool_types.specs.Contents.{Contents, no_contents}
use Rattle.pool_faults.specs.declared.fault.DescriptorErrorKind.{DescriptorErrorKind}
use Rattle.record_walk.specs.declared.counts.Counts.{Counts}
use Rattle.record_walk.specs.declared.counts.CountKind.{CountKind}
use Rattle.record_walk.specs.Telling.{first_of, rest_of}
use Rattle.descriptor_pool.specs.Build.{first_of_both}
use Rattle.descriptor_pool.specs.Outcome.{IsLinked}
use Rattle.descriptor_pool.specs.Within.{OutcomeWithin}
use Rattle.descriptor_pool.specs.Pool.{Batch, Accepts, Fits, counts_after, faults, faults_of_references, has_file, new_files}
use Rattle.descriptor_pool.specs.declared.error.BuildError.{BuildError}
use Rattle.descriptor_pool.specs.declared.error.BuildError.TheVariants as build
use Rattle.descriptor_pool.specs.GivenBack.{GivesBack}
use Rattle.descriptor_check.specs.Verdicts.{by_counts, by_faults, refusal, verdict_of, verdict_told}
use Rattle.descriptor_check.specs.declared.verdicts.Verdict.{Verdict}
use Rattle.descriptor_check.specs.declared.verdicts.Verdict.TheVariants.{Accepted, Refused, TooMany}

by-fits : (most : ℕ) (batch : Batch) (r : Result Counts CountKind) → IsOk r → by_counts most batch r ≡ by_faults most batch (faults no_contents batch)
by-fits most batch (Ok c) fits = refl
by-fits most batch (Err kind) fits = absurd (cc)

fitting : (most : ℕ) (batch : Batch) → Fits no_contents batch → verdict_of most batch ≡ by_faults most batch (faults no_contents batch)
unfolding verdict_of
fitting most batch fits = by-fits most batch (counts_after no_contents batch) fits

none-of-both : (batch : Batch) → Accepts no_contents batch → faults no_contents batch ≡ []
none-of-both batch accepted = ap (λ fs. first_of_both fs (faults_of_references no_contents batch)) accepted.0 ∙ accepted.1

pub accepted_is : (most : ℕ) (batch : Batch) (new : Contents) → IsLinked no_contents batch new → Accepted new ≡ verdict_of most batch
accepted_is most batch new linked =
    ap Accepted linked.is ∙ sym (ap (by_faults most batch) (none-of-both batch linked.accepted)) ∙ sym (fitting most batch linked.fits)

some-refused : (most : ℕ) (batch : Batch) (fs : List DescriptorErrorKind) → first_of (Some most) fs ≢ [] → Refused (refusal most batch fs) ≡ by_faults most batch fs
some-refused most batch [] some = absurd (some (take_all (max 1 most) [] (omega arith)))
some-refused most batch (f ∷ fs) some = refl

refused-is : (most : ℕ) (batch : Batch) (first : List DescriptorErrorKind) (rest : ℕ) → Fits no_contents batch
    → first ≡ first_of (Some most) (faults no_contents batch) → rest ≡ rest_of (Some most) (faults no_contents batch) → first ≢ []
    → Refused (record { files = batch; faults = first; rest = rest }) ≡ verdict_of most batch
refused-is most batch first rest fits kept others some =
    (λ i. Refused (record { files = batch; faults = kept i; rest = others i }))
    ∙ some-refused most batch (faults no_contents batch) (λ none. some (kept ∙ none))
    ∙ sym (fitting most batch fits)

too-many-is : (most : ℕ) (batch : Batch) (kind : CountKind) → counts_after no_contents batch ≡ Err kind → TooMany kind ≡ verdict_of most batch
unfolding verdict_of
too-many-is most batch kind first = sym (ap (by_counts most batch) first)

-- a pool without files has none of a batch
all-new : (batch : Batch) → new_files no_contents batch ≡ batch
all-new [] = refl
all-new (f ∷ fs) =
    let none : has_file no_contents (text_of f.name) ≡ false = ap is_some (finite.get-empty (slice_cmp nat_cmp) (text_of f.name)) in
    rw none (ap (λ rest. f ∷ rest) (all-new fs))

pub told_is : (most : ℕ) (batch back : Batch) (error : BuildError) (new : Contents) (verdict : Verdict)
    → OutcomeWithin {U = Unit {0}} (Some most) no_contents batch (Err error) new → GivesBack {U = Unit {0}} (Err error) (new_files no_contents batch) back
    → verdict_told back error ≡ Some verdict → verdict ≡ verdict_of most batch
told_is most batch back (build.TooMany kind) new verdict many given told =
    sym (ap (λ o. unwrap_or o (TooMany kind)) told) ∙ too-many-is most batch kind many.first
told_is most batch back (build.Descriptor error) new verdict refused given told =
    sym (ap (λ o. unwrap_or o (Refused (record { files = back; faults = error.errors; rest = error.rest }))) told)
    ∙ ap (λ fs. Refused (record { files = fs; faults = error.errors; rest = error.rest })) (given ∙ all-new batch)
    ∙ refused-is most batch error.errors error.rest refused.fits refused.first refused.rest error.some
told_is most batch back build.OutOfMemory new verdict _ given told = absurd (cc)
