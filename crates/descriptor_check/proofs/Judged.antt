-- What is told of the files of sets, from its parts.
use Rattle.std.proofs.Common.{◌≡◌, ℕ, List, IfOk, Result, Option, refl, subst}
use Rattle.proto_types.specs.declared.file.FileDescriptorProto.{FileDescriptorProto}
use Rattle.protoc_rules.specs.declared.faults.StrictFault.{StrictFault}
use Rattle.protoc_rules.specs.declared.written.WrittenTypes.{WrittenTypes}
use Rattle.joined_files.specs.declared.joining.JoinedFiles.{JoinedFiles}
use Rattle.joined_files.specs.declared.unequal.UnequalFile.{UnequalFile}
use Rattle.descriptor_check.specs.Against.{joined_against, judged_against}
use Rattle.descriptor_check.specs.Answers.{joined_answer, judged_answer, passed_over, with_complaints}
use Rattle.descriptor_check.specs.Strict.{judgement_of, strict_in, types_wanted, verdict_wanted}
use Rattle.descriptor_check.specs.declared.answer.Answer.{Answer}
use Rattle.descriptor_check.specs.declared.answer.Wanted.{Wanted}
use Rattle.descriptor_check.specs.declared.olders.Older.{Older}
use Rattle.descriptor_check.specs.declared.strict.Judgement.{Judgement}
use Rattle.descriptor_check.specs.declared.verdicts.Verdict.{Verdict}

-- a judgement is its verdict, and what is found by the types of the files
pub judged : (w : Wanted) (joined : JoinedFiles) (files : List FileDescriptorProto) (types : Option WrittenTypes) (v : Verdict) (strict : List StrictFault)
    → files ≡ joined.files → types ≡ types_wanted w files → v ≡ verdict_wanted w joined → strict ≡ strict_in types v
    → ◌≡◌ {A = Judgement} (record { verdict = v; strict = strict }) (judgement_of w joined)
judged w joined files types v strict f t k s = rw (s, k, t, f) refl

-- an answer to a judgement, with the lines about files that are passed over
pub answered : {E : Type 0} (w : Wanted) (joined : JoinedFiles) (unequal : List UnequalFile) (lines : List ℕ) (j : Judgement) (a : Answer) (r : Result Answer E)
    → unequal ≡ joined.unequal → lines ≡ passed_over w unequal → j ≡ judgement_of w joined → a ≡ judged_answer w j
    → IfOk r (λ b. b ≡ with_complaints lines a) → IfOk r (λ b. b ≡ joined_answer w joined)
answered w joined unequal lines j a r u l k t is =
    let same : with_complaints lines a ≡ joined_answer w joined = rw (t, k, l, u) refl in
    subst (λ x. IfOk r (λ b. b ≡ x)) same is

-- an answer by older versions, with the same lines
pub answered-against : {E : Type 0} (w : Wanted) (olders : List Older) (joined : JoinedFiles) (unequal : List UnequalFile) (lines : List ℕ) (j : Judgement) (a : Answer) (r : Result Answer E)
    → unequal ≡ joined.unequal → lines ≡ passed_over w unequal → j ≡ judgement_of w joined → a ≡ judged_against w olders j
    → IfOk r (λ b. b ≡ with_complaints lines a) → IfOk r (λ b. b ≡ joined_against w olders joined)
answered-against w olders joined unequal lines j a r u l k t is =
    let same : with_complaints lines a ≡ joined_against w olders joined = rw (t, k, l, u) refl in
    subst (λ x. IfOk r (λ b. b ≡ x)) same is
