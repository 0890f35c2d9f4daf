-- What the check of some inputs answers against older versions: the verdict, and behind it what an
-- accepted batch changes of each.
use Rattle.std.specs.Prelude.{ℕ, Bool, not, ◌==◌, List, [], ◌∷◌, Result, Ok, Err, unwrap_or}
use Rattle.std.specs.Prelude.{if◌then◌else◌}
use Rattle.std.specs.List.{flat_map, list_any}
use Rattle.std.specs.declared.option.Option.{Option}
use Rattle.std.specs.declared.option.Option.TheVariants.{None, Some}
use Rattle.pool_types.specs.Contents.{Contents}
use Rattle.joined_files.specs.declared.joining.JoinedFiles.{JoinedFiles}
use Rattle.pool_changes.specs.Comparing.{told_for}
use Rattle.pool_changes.specs.declared.told.ToldChanges.{ToldChanges}
use Rattle.pool_changes.specs.declared.direction.Compatibility.{Compatibility}
use Rattle.pool_changes.specs.declared.direction.Compatibility.TheVariants.{Backward}
use Rattle.pool_changes.specs.declared.kinds.Level.{Level}
use Rattle.pool_changes.specs.declared.kinds.Level.TheVariants.{Wire}
use Rattle.descriptor_check.specs.Answers.{answer, judged_answer, passed_over, unread_answer}
use Rattle.descriptor_check.specs.Answers.{with_complaints}
use Rattle.descriptor_check.specs.Batches.{batch_of}
use Rattle.descriptor_check.specs.ChangeFormats.{report_with}
use Rattle.descriptor_check.specs.Olders.{olders_of}
use Rattle.descriptor_check.specs.Strict.{judgement_of}
use Rattle.descriptor_check.specs.declared.answer.Answer.{Answer}
use Rattle.descriptor_check.specs.declared.answer.LinkedSet.{LinkedSet}
use Rattle.descriptor_check.specs.declared.answer.Status.{Status}
use Rattle.descriptor_check.specs.declared.answer.Status.TheVariants as status
use Rattle.descriptor_check.specs.declared.answer.Wanted.{Wanted}
use Rattle.descriptor_check.specs.declared.batches.NotASet.{NotASet}
use Rattle.descriptor_check.specs.declared.inputs.Input.{Input}
use Rattle.descriptor_check.specs.declared.olders.Older.{Older}
use Rattle.descriptor_check.specs.declared.strict.Judgement.{Judgement}
use Rattle.descriptor_check.specs.declared.verdicts.Verdict.{Verdict}
use Rattle.descriptor_check.specs.declared.verdicts.Verdict.TheVariants.{Accepted, Refused, TooMany}
use Rattle.descriptor_check.specs.declared.verdicts.Verdict.TheVariants.{Unequal}

-- the compatibility that is wanted: backward, where none is said
abbrev pub compatibility_wanted : Wanted → Compatibility
compatibility_wanted w = unwrap_or w.compatibility Backward

-- the level that is wanted: wire, where none is said
abbrev pub level_wanted : Wanted → Level
level_wanted w = unwrap_or w.level Wire

-- what a pool changes of an older version, in each direction that is wanted
abbrev pub compared_with : Wanted → Contents → Older → List ToldChanges
compared_with w p o =
    told_for (compatibility_wanted w) o.pool p (level_wanted w) o.name w.most

-- what the pool of an accepted batch changes of older versions, if the answer to it is a verdict
abbrev pub compared_if : Wanted → List Older → Contents → Status → List ToldChanges
compared_if w olders p status.Accepted = flat_map (compared_with w p) olders
compared_if w olders p _ = []

-- what a batch changes of older versions, by the verdict on it and the status of the answer
abbrev pub compared_for : Wanted → List Older → Verdict → Status → List ToldChanges
compared_for w olders (Accepted p) st = compared_if w olders p st
compared_for w olders (Refused _) st = []
compared_for w olders (TooMany _) st = []
compared_for w olders (Unequal _) st = []

-- whether something changes
abbrev pub some_change : List ToldChanges → Bool
some_change told = list_any (λ r. not (r.count == 0)) told

-- the status of an answer and its set; where something changes, the status of a refused batch, and
-- no set
abbrev pub unless_changed : List ToldChanges → Status → Option LinkedSet
    → Status × Option LinkedSet
unless_changed told st set = if some_change told then (status.Refused, None) else (st, set)

-- an answer with what was compared
abbrev pub with_told : Wanted → List ToldChanges → Answer → Answer
with_told w told a = record {
  status = (unless_changed told a.status a.linked).0;
  report = report_with w.format told a.report;
  complaint = a.complaint;
  linked = (unless_changed told a.status a.linked).1;
}

-- the answer for a verdict on a batch, by what is answered without older versions
abbrev pub told_against : Wanted → List Older → Verdict → Answer → Answer
told_against w olders v a = with_told w (compared_for w olders v a.status) a

-- the answer for a judgement
abbrev pub judged_against : Wanted → List Older → Judgement → Answer
judged_against w olders j = told_against w olders j.verdict (judged_answer w j)

-- the answer for the files of sets
abbrev pub joined_against : Wanted → List Older → JoinedFiles → Answer
joined_against w olders joined = with_complaints (passed_over w joined.unequal)
    (judged_against w olders (judgement_of w joined))

-- the answer for a batch, or for an input that is no set
abbrev pub batch_against : Wanted → List Older → Result JoinedFiles NotASet → Answer
batch_against w olders (Ok joined) = joined_against w olders joined
batch_against w olders (Err n) = with_told w [] (unread_answer w n)

-- the answer for some inputs by their older versions, or what is answered where one is none
abbrev pub olders_answer : Wanted → List Input → Result (List Older) Answer → Answer
olders_answer w inputs (Ok olders) = batch_against w olders (batch_of inputs)
olders_answer w inputs (Err a) = with_told w [] a

-- the answer for some inputs against the older versions of others
abbrev pub answer_against : Wanted → List Input → List Input → Answer
answer_against w [] inputs = answer w inputs
answer_against w (i ∷ is) inputs = olders_answer w inputs (olders_of w (i ∷ is))
