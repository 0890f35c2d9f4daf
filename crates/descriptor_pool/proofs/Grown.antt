-- A pool into which new files are linked.
use Rattle.std.proofs.Common.{◌≡◌, ◌∷◌, ℕ, Option, None, refl, rules, IsOk, Result, Ok, Err, OnOk, OnErr, subst, List, [], length, ap, sym, ◌∙◌}
use Rattle.proto_types.specs.declared.file.FileDescriptorProto.{FileDescriptorProto}
use Rattle.pool_types.specs.Contents.{Contents}
use Rattle.record_walk.specs.declared.counts.Counts.{Counts}
use Rattle.record_walk.specs.Counts.{counts_in}
use Rattle.record_walk.specs.Fits.{counts_with}
use Rattle.record_walk.specs.Walking.{WithinLimits}
use Rattle.record_walk.proofs.Room.{room-fits}
use Rattle.reference_pass.specs.SecondPass.{Faults}
use Rattle.reference_pass.specs.NamesBegin.{AllNamesBegin}
use Rattle.descriptor_pool.specs.declared.error.BuildError.{BuildError}
use Rattle.descriptor_pool.specs.declared.error.BuildError.TheVariants.{TooMany, Descriptor, OutOfMemory}
use Rattle.descriptor_pool.specs.Build.{declared_with, setting_with, batch_faults, first_of_both, with_batch, with_items, with_names}
use Rattle.descriptor_pool.specs.Invariant.{IsPool}
use Rattle.descriptor_pool.specs.Outcome.{Outcome}
use Rattle.descriptor_pool.specs.Within.{OutcomeWithin}
use Rattle.descriptor_pool.specs.Error.{TellsAll, TellsFaults}
use Rattle.descriptor_pool.specs.Pool.{Batch, Accepts, Fits, linked_to, new_files, faults, faults_of_names, faults_of_references}
use Rattle.descriptor_pool.proofs.Declared.{counts-with}
use Rattle.descriptor_pool.proofs.Listed.{counts-extended}
use Rattle.descriptor_pool.proofs.Sound.{made-sound}

-- faults of two passes that are none
none_of_both : (first second : Faults) → first_of_both first second ≡ [] → (first ≡ []) × (second ≡ [])
none_of_both [] second none = (refl, none)
none_of_both (f ∷ fs) second none = absurd (search rules)

-- the contents after new files were linked behind those of a pool, or were refused
pub record IsBehind {U : Type 0} (most : Option ℕ) (p : Contents) (new : List FileDescriptorProto) (r : Result U BuildError) (q : Contents) : Type 0 where
  pub ok : OnOk r (q ≡ with_batch p new)
  pub told : TellsAll most r (batch_faults p new)
  pub err : OnErr r (q ≡ p)
  pub names : AllNamesBegin q

-- a batch fits whose new files were counted
pub fits_of : (p : Contents) (base : Counts) (batch counted : Batch) → base ≡ counts_in p → counted ≡ new_files p batch → IsOk (counts_with base counted) → Fits p batch
fits_of p base batch counted base_is new ok = subst IsOk (λ i. counts_with (base_is i) (new i)) ok

module _ (most : Option ℕ) (p : Contents) (batch : Batch) (fits : Fits p batch) where
  accepted : faults p batch ≡ [] → Accepts p batch
  accepted none = none_of_both (faults_of_names p batch) (faults_of_references p batch) none

  -- an error that tells the faults is an outcome that leaves the pool as it was
  told_outcome : (U : Type 0) (error : BuildError) → TellsFaults most error (faults p batch) → OutcomeWithin {U = U} most p batch (Err error) p
  told_outcome U (TooMany kind) told = absurd told
  told_outcome U (Descriptor error) told = record { fits = fits; first = told.0; rest = told.1; unchanged = refl }
  told_outcome U OutOfMemory told = record { fits = fits; unchanged = refl }

  pub outcome_with : {U : Type 0} (r : Result U BuildError) (q : Contents) → IsBehind most p (new_files p batch) r q → OutcomeWithin most p batch r q
  outcome_with (Ok u) q behind = record { fits = fits; accepted = accepted behind.told; is = behind.ok }
  outcome_with {U} (Err error) q behind =
      let P : Contents → Type 0 = λ after. OutcomeWithin {U = U} most p batch (Err error) after in subst P (sym behind.err) (told_outcome U error behind.told)

  pub pool_after : {U : Type 0} → IsPool p → (r : Result U BuildError) (q : Contents) → IsBehind most p (new_files p batch) r q → IsPool q
  pool_after pool (Ok u) q behind =
      let made = linked_to batch pool.made (accepted behind.told) fits behind.ok in
      let known = (made-sound q made).known in
      let new = new_files p batch in
      let ds = declared_with p new in
      let items = with_items (with_names p ds) (setting_with p new) ds in
      let counts = ap counts_in behind.ok ∙ counts-extended (length p.extensions) items ∙ counts-with (with_names p ds) (setting_with p new) ds in
      record {
        made = made;
        counts_are = known.counts_are;
        within = subst WithinLimits (sym counts) (room-fits (counts_in p) new fits).within;
        names_are = known.names_are;
        file_names_are = known.file_names_are;
        names_begin = behind.names;
      }
  pool_after pool (Err error) q behind = subst IsPool (sym behind.err) pool

-- where all faults are asked for, all are told
pub all_told : {U : Type 0} (p : Contents) (batch : Batch) (r : Result U BuildError) (q : Contents) → OutcomeWithin None p batch r q → Outcome p batch r q
all_told p batch (Ok u) q within = within
all_told p batch (Err (TooMany kind)) q within = within
all_told p batch (Err (Descriptor error)) q within = record { fits = within.fits; all = within.first; no_more = within.rest; unchanged = within.unchanged }
all_told p batch (Err OutOfMemory) q within = within
