-- What the check of some inputs answers: a status, what is written to the standard output and to
-- the standard error, and the set of the linked files.
use Rattle.std.specs.Prelude.{ℕ, List, [], ◌∷◌, ◌++◌, Result, Ok, Err, if◌then◌else◌}
use Rattle.std.specs.List.{flat_map}
use Rattle.std.specs.Option.{option_map}
use Rattle.std.specs.declared.option.Option.{Option}
use Rattle.std.specs.declared.option.Option.TheVariants.{None}
use Rattle.joined_files.specs.Telling.{passed_words, told_unequal}
use Rattle.joined_files.specs.declared.joining.JoinedFiles.{JoinedFiles}
use Rattle.joined_files.specs.declared.unequal.UnequalFile.{UnequalFile}
use Rattle.pool_types.specs.Contents.{Contents, files_of}
use Rattle.protoc_rules.specs.declared.faults.StrictFault.{StrictFault}
use Rattle.record_walk.specs.Counts.{counts_in}
use Rattle.record_walk.specs.declared.counts.CountKind.{CountKind}
use Rattle.descriptor_encoding.specs.Encoding.{set_encoding}
use Rattle.protoc_rules.specs.Telling as strict
use Rattle.verdict_texts.specs.Accepted.{accepted_text}
use Rattle.descriptor_check.specs.Batches.{batch_of}
use Rattle.descriptor_check.specs.Complaints.{complaint, no_answer}
use Rattle.descriptor_check.specs.Described.{described, unknown_names}
use Rattle.pool_descriptions.specs.Listed.{listed}
use Rattle.verdict_texts.specs.Formats as formats
use Rattle.verdict_texts.specs.Formats.{is_for_people, refused_report, too_many_report}
use Rattle.verdict_texts.specs.Formats.{unread_report}
use Rattle.verdict_texts.specs.Refused.{told_refusal}
use Rattle.descriptor_check.specs.Unread.{unread_words}
use Rattle.descriptor_check.specs.Strict.{judgement_of}
use Rattle.descriptor_check.specs.declared.answer.Answer.{Answer}
use Rattle.descriptor_check.specs.declared.answer.LinkedSet.{LinkedSet}
use Rattle.descriptor_check.specs.declared.answer.Status.{Status}
use Rattle.descriptor_check.specs.declared.answer.Status.TheVariants as status
use Rattle.descriptor_check.specs.declared.answer.Wanted.{Wanted}
use Rattle.descriptor_check.specs.declared.batches.NotASet.{NotASet}
use Rattle.descriptor_check.specs.declared.inputs.Input.{Input}
use Rattle.descriptor_check.specs.declared.strict.Judgement.{Judgement}
use Rattle.descriptor_check.specs.declared.verdicts.Refusal.{Refusal}
use Rattle.descriptor_check.specs.declared.verdicts.Verdict.{Verdict}
use Rattle.descriptor_check.specs.declared.verdicts.Verdict.TheVariants.{Accepted, Refused, TooMany}
use Rattle.descriptor_check.specs.declared.verdicts.Verdict.TheVariants.{Unequal}

-- a verdict, told by a text, and the set of the linked files
abbrev pub told_with : Status → List ℕ → Option LinkedSet → Answer
told_with st text set = record { status = st; report = text; complaint = []; linked = set }

-- a verdict, told by a text
abbrev pub told : Status → List ℕ → Answer
told st text = told_with st text None

-- all declarations of a pool, where they are wanted
abbrev pub list_wanted : Wanted → Contents → List ℕ
list_wanted w p = if w.lists then listed p else []

-- what is told of an accepted batch for people: its declarations, what names mean, and how much
-- there is
abbrev pub accepted_lines : Wanted → Contents → List ℕ
accepted_lines w p =
    list_wanted w p ++ (described p w.names ++ accepted_text (counts_in p))

-- what is told of an accepted batch
abbrev pub accepted_report : Wanted → Contents → List ℕ
accepted_report w p = if is_for_people w.format then accepted_lines w p
    else formats.accepted_report w.format (counts_in p)

-- the set of the linked files, for the file with a name
abbrev pub set_for : List ℕ → Contents → LinkedSet
set_for name p = record { name = name; bytes = set_encoding (record { file = files_of p }) }

-- the same, where it is wanted
abbrev pub linked_set : Wanted → Contents → Option LinkedSet
linked_set w p = option_map (λ name. set_for name p) w.linked

-- what is answered of an accepted batch, by the complaints of names that mean nothing in its pool:
-- where there are such, there is no verdict
abbrev pub accepted_unless : Wanted → Contents → List ℕ → Answer
accepted_unless w p [] = told_with status.Accepted (accepted_report w p) (linked_set w p)
accepted_unless w p (c ∷ cs) = no_answer [] (c ∷ cs)

-- what is answered of an accepted batch
abbrev pub accepted_answer : Wanted → Contents → Answer
accepted_answer w p = accepted_unless w p (unknown_names p w.names)

-- of a refused one
abbrev pub refused_answer : Wanted → Refusal → Answer
refused_answer w refusal = told status.Refused
    (refused_report w.format (told_refusal [] refusal.files refusal.faults refusal.rest w.most))

-- of one that has too much of a kind
abbrev pub too_many_answer : Wanted → CountKind → Answer
too_many_answer w kind = told status.Refused (too_many_report w.format kind)

-- of one whose sets have unequal files of one name
abbrev pub unequal_answer : Wanted → List UnequalFile → Answer
unequal_answer w us = told status.Refused (refused_report w.format (told_unequal us w.most))

-- where an input is no set: a line on the standard error, and what the format has for it
abbrev pub unread_answer : Wanted → NotASet → Answer
unread_answer w n = no_answer (unread_report w.format (unread_words n)) (complaint (unread_words n))

-- of one that breaks no rule of the linker, by what protoc refuses besides: where there is such, it
-- is refused with that alone
abbrev pub linked_answer : Wanted → Contents → List StrictFault → Answer
linked_answer w p [] = accepted_answer w p
linked_answer w p (f ∷ fs) = told status.Refused
    (refused_report w.format (strict.told_refusal p.files (f ∷ fs) w.most))

-- the answer for a verdict on a batch, by what protoc refuses besides
abbrev pub verdict_answer : Wanted → List StrictFault → Verdict → Answer
verdict_answer w strict (Accepted p) = linked_answer w p strict
verdict_answer w strict (Refused refusal) = refused_answer w refusal
verdict_answer w strict (TooMany kind) = too_many_answer w kind
verdict_answer w strict (Unequal us) = unequal_answer w us

-- the answer for a judgement
abbrev pub judged_answer : Wanted → Judgement → Answer
judged_answer w j = verdict_answer w j.strict j.verdict

-- a line for each unequal file that is passed over, where the first of a name counts
unfoldable pub passed_over : Wanted → List UnequalFile → List ℕ
passed_over w us = if w.first_counts then flat_map (λ u. complaint (passed_words u)) us else []

-- an answer, with further lines for the standard error in front
abbrev pub with_complaints : List ℕ → Answer → Answer
with_complaints lines a = record a { complaint = lines ++ a.complaint }

-- the answer for a batch
abbrev pub joined_answer : Wanted → JoinedFiles → Answer
joined_answer w joined =
    with_complaints (passed_over w joined.unequal) (judged_answer w (judgement_of w joined))

-- the answer for a batch, or for an input that is no set
abbrev pub answer_for : Wanted → Result JoinedFiles NotASet → Answer
answer_for w (Ok joined) = joined_answer w joined
answer_for w (Err n) = unread_answer w n

-- the answer for some inputs
abbrev pub answer : Wanted → List Input → Answer
answer w inputs = answer_for w (batch_of inputs)
