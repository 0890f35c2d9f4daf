-- Whether a pool is what its linked files make, by what linking them from empty ended in.
use Rattle.std.proofs.Common.{◌≡◌, ◌≢◌, Bool, false, ◌&&◌, is_ok, [], ◌∷◌, Err, refl, ap, sym, subst, ◌∙◌}
use Rattle.pool_types.specs.Contents.{Contents, no_contents, files_of}
use Rattle.pool_faults.specs.declared.error.DescriptorError.{DescriptorError}
use Rattle.reference_pass.specs.SecondPass.{Faults}
use Rattle.pool_contents.specs.Same.{contents_eq}
use Rattle.descriptor_pool.specs.Pool.{Batch, faults, counts_after, link}
use Rattle.descriptor_pool.specs.Outcome.{IsLinked, IsRefused, Outcome}
use Rattle.descriptor_pool.specs.declared.error.BuildError.{BuildError}
use Rattle.descriptor_pool.specs.declared.error.BuildError.TheVariants.{Descriptor}
use Rattle.descriptor_linker.specs.Report.Answers.{breaks_none, relinks}
use Rattle.descriptor_linker.proofs.Batches.{no-faults}

some_broken : (fs : Faults) → fs ≢ [] → breaks_none fs ≡ false
some_broken [] some = absurd (some refl)
some_broken (f ∷ fs) some = refl

-- they were linked
pub relinked : (p old new : Contents) (files : Batch) (same : Bool) → old ≡ no_contents → files ≡ files_of p → IsLinked old files new → same ≡ contents_eq new p → same ≡ relinks p
relinked p old new files same empty is linked told =
    let none = no-faults _ _ linked.accepted.0 linked.accepted.1 in
    told
    ∙ ap (λ q. contents_eq q p) linked.is
    ∙ (λ i. sym linked.fits i && (ap breaks_none (sym none) i && contents_eq (link old files) p))
    ∙ (λ i. is_ok (counts_after (empty i) (is i)) && (breaks_none (faults (empty i) (is i)) && contents_eq (link (empty i) (is i)) p))

-- they were refused
pub refused : (p old new : Contents) (files : Batch) (why : BuildError) (error : DescriptorError) → old ≡ no_contents → files ≡ files_of p → why ≡ Descriptor error → Outcome {U = Unit {0}} old files (Err why) new → false ≡ relinks p
refused p old new files why error empty is which outcome =
    let told : IsRefused old files error new = subst (λ e. Outcome {U = Unit {0}} old files (Err e) new) which outcome in
    let some : breaks_none (faults old files) ≡ false = some_broken (faults old files) (λ none. error.some (told.all ∙ none)) in
    (λ i. sym told.fits i && (sym some i && contents_eq (link old files) p))
    ∙ (λ i. is_ok (counts_after (empty i) (is i)) && (breaks_none (faults (empty i) (is i)) && contents_eq (link (empty i) (is i)) p))
