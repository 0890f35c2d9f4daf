-- The older versions with which a new one is compared: each a set by itself, linked alone.
use Rattle.std.specs.Prelude.{◌≡◌, ℕ, false, List, [], ◌∷◌, ◌++◌, Result, Ok, Err, codes}
use Rattle.joined_files.specs.Telling.{told_unequal}
use Rattle.joined_files.specs.declared.joining.JoinedFiles.{JoinedFiles}
use Rattle.joined_files.specs.declared.unequal.UnequalFile.{UnequalFile}
use Rattle.verdict_texts.specs.Formats.{unread_report}
use Rattle.verdict_texts.specs.Refused.{refused_text, told_refusal, too_many_text}
use Rattle.descriptor_check.specs.Answers.{unread_answer}
use Rattle.descriptor_check.specs.Batches.{and_then, batch_of}
use Rattle.descriptor_check.specs.Complaints.{complaint, no_answer}
use Rattle.descriptor_check.specs.Verdicts.{verdict_of_joined}
use Rattle.descriptor_check.specs.declared.answer.Answer.{Answer}
use Rattle.descriptor_check.specs.declared.answer.Wanted.{Wanted}
use Rattle.descriptor_check.specs.declared.batches.NotASet.{NotASet}
use Rattle.descriptor_check.specs.declared.inputs.Input.{Input}
use Rattle.descriptor_check.specs.declared.olders.Older.{Older}
use Rattle.descriptor_check.specs.declared.olders.OlderError.{OlderError}
use Rattle.descriptor_check.specs.declared.olders.OlderError.TheVariants as error
use Rattle.descriptor_check.specs.declared.verdicts.Refusal.{Refusal}
use Rattle.descriptor_check.specs.declared.verdicts.Verdict.{Verdict}
use Rattle.descriptor_check.specs.declared.verdicts.Verdict.TheVariants.{Accepted, Refused, TooMany}
use Rattle.descriptor_check.specs.declared.verdicts.Verdict.TheVariants.{Unequal}

-- that an older version is refused, by its name
abbrev pub refused_words : List ℕ → List ℕ
refused_words name = name ++ codes ": this older version is refused, so nothing is compared with it"

-- the answer where an older version is refused: what is told of it, and its name
abbrev pub refused_older : Wanted → List ℕ → List ℕ → Answer
refused_older w name text =
    no_answer (unread_report w.format (refused_words name))
    (text ++ complaint (refused_words name))

-- the faults of an older version
abbrev pub older_faults : Wanted → Refusal → List ℕ
older_faults w r = refused_text (told_refusal [] r.files r.faults r.rest w.most)

-- the unequal files of an older version
abbrev pub unequal_text : Wanted → List UnequalFile → List ℕ
unequal_text w us = refused_text (told_unequal us w.most)

-- an older version by its name and the verdict on it, or what is answered where it is refused
abbrev pub older_judged : Wanted → List ℕ → Verdict → Result Older Answer
older_judged w name (Accepted p) = Ok (record { name = name; pool = p })
older_judged w name (Refused r) = Err (refused_older w name (older_faults w r))
older_judged w name (TooMany kind) = Err (refused_older w name (too_many_text kind))
older_judged w name (Unequal us) = Err (refused_older w name (unequal_text w us))

-- an older version by its name and its files, or what is answered where it is no set
abbrev pub older_read : Wanted → List ℕ → Result JoinedFiles NotASet → Result Older Answer
older_read w name (Ok joined) = older_judged w name (verdict_of_joined false w.most joined)
older_read w name (Err n) = Err (unread_answer w n)

-- the older version of an input, or what is answered where there is none
abbrev pub older_of : Wanted → Input → Result Older Answer
older_of w i = older_read w i.name (batch_of (i ∷ []))

-- the older versions so far and those of further inputs, or the first answer where one is none
abbrev pub olders_behind : Wanted → List Older → List Input → Result (List Older) Answer
olders_behind w olders [] = Ok olders
olders_behind w olders (i ∷ is) =
    and_then (older_of w i) (λ o. olders_behind w (olders ++ o ∷ []) is)

-- the older versions of inputs, or what is answered where one is none
abbrev pub olders_of : Wanted → List Input → Result (List Older) Answer
olders_of w inputs = olders_behind w [] inputs

-- what a call gave is a result, unless memory was refused
abbrev pub Gives : {M : Type 0} → Result M OlderError → Result M Answer → Type 0
Gives (Ok m) r = r ≡ Ok m
Gives (Err (error.Answered a)) r = r ≡ Err a
Gives (Err error.OutOfMemory) r = Unit {0}
