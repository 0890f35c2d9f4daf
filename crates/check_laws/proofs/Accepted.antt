-- The set of the linked files that a check answers makes the pool with which the check accepts.
use Rattle.std.proofs.Common.{◌≡◌, ◌≢◌, ◌<◌, ◌^◌, ℕ, Bool, true, false, IsOk, IfSome, List, [], ◌∷◌, length, MatchOption, Option, None, Some, Result, Ok, Err, refl, ap, subst, sym, ◌∙◌}
use Rattle.std.specs.Option.{option_map}
use Rattle.joined_files.specs.declared.joining.JoinedFiles.{JoinedFiles}
use Rattle.joined_files.specs.declared.unequal.UnequalFile.{UnequalFile}
use Rattle.proto_types.specs.declared.file.FileDescriptorSet.{FileDescriptorSet}
use Rattle.pool_types.specs.Contents.{Contents, no_contents}
use Rattle.pool_faults.specs.declared.fault.DescriptorErrorKind.{DescriptorErrorKind}
use Rattle.record_walk.specs.declared.counts.Counts.{Counts}
use Rattle.record_walk.specs.declared.counts.CountKind.{CountKind}
use Rattle.descriptor_decoding.specs.Decoding.{file_set_of}
use Rattle.protoc_rules.specs.declared.faults.StrictFault.{StrictFault}
use Rattle.descriptor_encoding.specs.Whole.{IsFile, IsSet, Within}
use Rattle.descriptor_pool.specs.Build.{first_of_both}
use Rattle.descriptor_pool.specs.Outcome.{IsLinked}
use Rattle.descriptor_pool.specs.Pool.{Batch, counts_after, faults, faults_of_names, faults_of_references, link}
use Rattle.stored_pools.specs.Stored.{AreWhole, LinkedIsLoaded}
use Rattle.descriptor_check.specs.Answers.{accepted_unless, answer, answer_for, linked_answer, passed_over, set_for, verdict_answer, with_complaints}
use Rattle.descriptor_check.specs.Batches.{batch_of}
use Rattle.descriptor_check.specs.Described.{unknown_names}
use Rattle.descriptor_check.specs.Strict.{judgement_of, verdict_wanted}
use Rattle.descriptor_check.specs.Verdicts.{by_counts, by_faults, unless_unequal, verdict_of, verdict_of_joined}
use Rattle.descriptor_check.specs.declared.answer.Answer.{Answer}
use Rattle.descriptor_check.specs.declared.answer.LinkedSet.{LinkedSet}
use Rattle.descriptor_check.specs.declared.answer.Status.TheVariants as status
use Rattle.descriptor_check.specs.declared.answer.Wanted.{Wanted}
use Rattle.descriptor_check.specs.declared.batches.NotASet.{NotASet}
use Rattle.descriptor_check.specs.declared.inputs.Input.{Input}
use Rattle.descriptor_check.specs.declared.verdicts.Verdict.{Verdict}
use Rattle.descriptor_check.specs.declared.verdicts.Verdict.TheVariants.{Accepted, Refused, TooMany, Unequal}
use Rattle.check_laws.specs.Checked.{CheckedIsLoaded, IsLoadedAs}
use Rattle.check_laws.proofs.Whole.{batch-all}

-- faults of two passes that are none
none-of-both : (first second : List DescriptorErrorKind) → first_of_both first second ≡ [] → (first ≡ []) × (second ≡ [])
none-of-both [] second none = (refl, none)
none-of-both (f ∷ fs) second none = absurd (cc)

-- a batch that is accepted is linked
module _ (most : ℕ) (batch : Batch) (p : Contents) where
  by-faults : (fs : List DescriptorErrorKind) → faults no_contents batch ≡ fs → by_faults most batch fs ≡ Accepted p → (faults no_contents batch ≡ []) × (Accepted (link no_contents batch) ≡ Accepted p)
  by-faults [] are is = (are, is)
  by-faults (f ∷ fs) are is = absurd (cc)

  by-counts : (r : Result Counts CountKind) → counts_after no_contents batch ≡ r → by_counts most batch r ≡ Accepted p → IsLinked no_contents batch p
  by-counts (Ok counts) fits is =
      let found = by-faults (faults no_contents batch) refl is in
      let same : p ≡ link no_contents batch = cc (found.1) in
      record {
        fits = subst IsOk (sym fits) refl;
        accepted = none-of-both (faults_of_names no_contents batch) (faults_of_references no_contents batch) found.0;
        is = same;
      }
  by-counts (Err kind) fits is = absurd (cc)

  accepted-linked : verdict_of most batch ≡ Accepted p → IsLinked no_contents batch p
  unfolding verdict_of
  accepted-linked is = by-counts (counts_after no_contents batch) refl is

-- the verdict on the files of sets that is accepted is that on their batch
unless-accepted : (us : List UnequalFile) (v : Verdict) (p : Contents) → unless_unequal us v ≡ Accepted p → v ≡ Accepted p
unless-accepted [] v p is = is
unless-accepted (u ∷ us) v p is = absurd (cc)

joined-accepted : (first : Bool) (most : ℕ) (j : JoinedFiles) (p : Contents) → verdict_of_joined first most j ≡ Accepted p → verdict_of most j.files ≡ Accepted p
unfolding verdict_of_joined
joined-accepted true most j p is = is
joined-accepted false most j p is = unless-accepted j.unequal (verdict_of most j.files) p is

module _ (read : (bytes : List ℕ) (set : FileDescriptorSet) → file_set_of bytes ≡ Ok set → IsSet 100 set) (loaded : LinkedIsLoaded)
    (w : Wanted) (inputs : List Input) (a : Answer) (short : IfSome a.linked (λ set. length set.bytes < 2 ^ 64)) where
  abbrev Handed : Option LinkedSet → Type 0
  Handed linked = MatchOption linked (a.status ≡ status.Accepted → w.linked ≡ None) (IsLoadedAs w inputs)

  -- nothing is handed out where an answer accepts nothing
  nothing : (other : Answer) → a ≡ other → other.linked ≡ None → other.status ≢ status.Accepted → Handed a.linked
  nothing other is none refuses =
      subst Handed (sym (ap (λ (b : Answer). b.linked) is ∙ none)) (λ accepted. absurd (refuses (sym (ap (λ (b : Answer). b.status) is) ∙ accepted)))

  module _ (joined : JoinedFiles) (reads : batch_of inputs ≡ Ok joined) where
    by-wanted : (p : Contents) → verdict_wanted w joined ≡ Accepted p → (wanted : Option (List ℕ)) → w.linked ≡ wanted
        → a.linked ≡ option_map (λ name. set_for name p) wanted → Handed a.linked
    by-wanted p accepts None wants is = subst Handed (sym is) (λ _. wants)
    by-wanted p accepts (Some name) wants is =
        let batch : Batch = joined.files in
        let linked : IsLinked no_contents batch p = accepted-linked w.most batch p (joined-accepted w.first_counts w.most joined p accepts) in
        let whole : AreWhole batch = record { file = batch-all (Within 100 IsFile) (λ bytes set reads. (read bytes set reads).file) inputs joined reads } in
        subst Handed (sym is) (record {
          named = wants;
          pool = p;
          accepted = record { joined = joined; read = reads; accepted = accepts };
          makes = loaded batch whole p linked (subst (λ linked. IfSome linked (λ set. length set.bytes < 2 ^ 64)) is short);
        })

    by-names : (lines : List ℕ) (p : Contents) → verdict_wanted w joined ≡ Accepted p → (unknown : List ℕ) → a ≡ with_complaints lines (accepted_unless w p unknown) → Handed a.linked
    by-names lines p accepts [] is = by-wanted p accepts w.linked refl (ap (λ (b : Answer). b.linked) is)
    by-names lines p accepts (c ∷ cs) is = nothing (with_complaints lines (accepted_unless w p (c ∷ cs))) is refl (λ same. cc)

    by-strict : (lines : List ℕ) (p : Contents) → verdict_wanted w joined ≡ Accepted p → (strict : List StrictFault) → a ≡ with_complaints lines (linked_answer w p strict) → Handed a.linked
    by-strict lines p accepts [] is = by-names lines p accepts (unknown_names p w.names) is
    by-strict lines p accepts (f ∷ fs) is = nothing (with_complaints lines (linked_answer w p (f ∷ fs))) is refl (λ same. cc)

    by-verdict : (lines : List ℕ) (strict : List StrictFault) (v : Verdict) → verdict_wanted w joined ≡ v → a ≡ with_complaints lines (verdict_answer w strict v) → Handed a.linked
    by-verdict lines strict (Accepted p) found is = by-strict lines p found strict is
    by-verdict lines strict (Refused refusal) found is = nothing (with_complaints lines (verdict_answer w strict (Refused refusal))) is refl (λ same. cc)
    by-verdict lines strict (TooMany kind) found is = nothing (with_complaints lines (verdict_answer w strict (TooMany kind))) is refl (λ same. cc)
    by-verdict lines strict (Unequal us) found is = nothing (with_complaints lines (verdict_answer w strict (Unequal us))) is refl (λ same. cc)

  by-batch : (r : Result JoinedFiles NotASet) → batch_of inputs ≡ r → a ≡ answer_for w r → Handed a.linked
  by-batch (Ok joined) reads is = by-verdict joined reads (passed_over w joined.unequal) (judgement_of w joined).strict (verdict_wanted w joined) refl is
  by-batch (Err n) reads is = nothing (answer_for w (Err n)) is refl (λ same. cc)

  pub checked-loaded : CheckedIsLoaded w inputs a
  checked-loaded is = by-batch (batch_of inputs) refl is
