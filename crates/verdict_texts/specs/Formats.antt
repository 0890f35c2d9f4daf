-- The verdict on a batch in each format.
use Rattle.std.specs.Prelude.{ℕ, Bool, true, false, List, [], ◌∷◌, ◌++◌, codes}
use Rattle.std.specs.declared.option.Option.TheVariants.{None}
use Rattle.record_walk.specs.Words.{count_word}
use Rattle.record_walk.specs.declared.counts.Counts.{Counts}
use Rattle.record_walk.specs.declared.counts.CountKind.{CountKind}
use Rattle.verdict_texts.specs.Accepted.{accepted_text}
use Rattle.verdict_texts.specs.Objects.{accepted_json, refused_json, too_many_json, unread_json}
use Rattle.verdict_texts.specs.Refused.{refused_text, too_many_text, untold}
use Rattle.verdict_texts.specs.declared.refused.ToldRefusal.{ToldRefusal}
use Rattle.verdict_texts.specs.declared.telling.ToldFault.{ToldFault}
use Rattle.verdict_texts.specs.Annotations.{annotations}
use Rattle.verdict_texts.specs.Quality.{quality}
use Rattle.verdict_texts.specs.Sarif.{sarif}
use Rattle.verdict_texts.specs.declared.formats.Format.{Format}
use Rattle.verdict_texts.specs.declared.formats.Format.TheVariants.{Text, Json, GitHub, GitLab}
use Rattle.verdict_texts.specs.declared.formats.Format.TheVariants.{Sarif}

-- whether a format is of lines for people
abbrev pub is_for_people : Format → Bool
is_for_people Text = true
is_for_people Json = false
is_for_people GitHub = false
is_for_people GitLab = false
is_for_people Sarif = false

-- a fault of a whole batch, which has no place
abbrev pub fault_of_all : List ℕ → List ℕ → List ℕ → ToldFault
fault_of_all code message note =
    record { code = code; message = message; place = None; second = None; note = note }

-- too much of a kind, as a fault
abbrev pub too_many_fault : CountKind → ToldFault
too_many_fault kind = fault_of_all (codes "TooMany") (codes "too many " ++ count_word kind)
    (codes "no pool has room for them")

-- why there is no verdict, as a fault
abbrev pub unread_fault : List ℕ → ToldFault
unread_fault words = fault_of_all (codes "NoVerdict") words (codes "there is no verdict")

-- an accepted batch, by how much it declares
abbrev pub accepted_report : Format → Counts → List ℕ
accepted_report Text counts = accepted_text counts
accepted_report Json counts = accepted_json counts
accepted_report GitHub counts = accepted_text counts
accepted_report GitLab counts = quality []
accepted_report Sarif counts = sarif [] 0

-- a batch that breaks rules
abbrev pub refused_report : Format → ToldRefusal → List ℕ
refused_report Text refusal = refused_text refusal
refused_report Json refusal = refused_json refusal
refused_report GitHub refusal = annotations refusal.told (untold refusal)
refused_report GitLab refusal = quality refusal.told
refused_report Sarif refusal = sarif refusal.told (untold refusal)

-- a batch that has too much of a kind
abbrev pub too_many_report : Format → CountKind → List ℕ
too_many_report Text kind = too_many_text kind
too_many_report Json kind = too_many_json kind
too_many_report GitHub kind = annotations (too_many_fault kind ∷ []) 0
too_many_report GitLab kind = quality (too_many_fault kind ∷ [])
too_many_report Sarif kind = sarif (too_many_fault kind ∷ []) 0

-- where there is no verdict: nothing for people, who are told why on the standard error
abbrev pub unread_report : Format → List ℕ → List ℕ
unread_report Text words = []
unread_report Json words = unread_json words
unread_report GitHub words = annotations (unread_fault words ∷ []) 0
unread_report GitLab words = quality (unread_fault words ∷ [])
unread_report Sarif words = sarif (unread_fault words ∷ []) 0
