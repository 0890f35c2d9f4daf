-- The verdict as an object of JSON.
use Rattle.std.specs.Prelude.{ℕ, List, [], ◌∷◌, ◌++◌, codes}
use Rattle.std.specs.Fmt.{decimal}
use Rattle.std.specs.List.{flat_map}
use Rattle.verdict_texts.specs.declared.telling.ToldFault.{ToldFault}
use Rattle.record_walk.specs.declared.counts.Counts.{Counts}
use Rattle.record_walk.specs.declared.counts.CountKind.{CountKind}
use Rattle.verdict_texts.specs.JsonStrings.{json_string}
use Rattle.verdict_texts.specs.Accepted.{json_counts}
use Rattle.record_walk.specs.Words.{count_word}
use Rattle.verdict_texts.specs.JsonFaults.{json_fault}
use Rattle.verdict_texts.specs.Refused.{untold}
use Rattle.verdict_texts.specs.declared.refused.ToldRefusal.{ToldRefusal}

-- an object: its first members, its faults, and its last members
abbrev pub object : List ℕ → List ℕ → List ℕ → List ℕ
object head faults tail =
    codes "{" ++ (head
    ++ (codes ",\"faults\":[" ++ (faults ++ (codes "]," ++ (tail ++ codes "}\n")))))

-- the first members: the verdict, how much is declared, and of what there is too much
abbrev pub head : List ℕ → List ℕ → List ℕ → List ℕ
head verdict counts too_many =
    codes "\"verdict\":\"" ++ (verdict ++ (codes "\",\"counts\":" ++ (counts
    ++ (codes ",\"too_many\":" ++ too_many))))

-- the last members: how many faults are not told, and why there is no verdict
abbrev pub tail : ℕ → List ℕ → List ℕ
tail more error = codes "\"more\":" ++ (decimal more ++ (codes ",\"error\":" ++ error))

-- faults with a comma between each two
abbrev pub json_faults : List ToldFault → List ℕ
json_faults [] = []
json_faults (f ∷ fs) = json_fault f ++ flat_map (λ g. 44 ∷ json_fault g) fs

-- the object of an accepted batch
abbrev pub accepted_json : Counts → List ℕ
accepted_json counts =
    object (head (codes "accepted") (json_counts counts) (codes "null")) [] (tail 0 (codes "null"))

-- the object of a refused one: the faults that are told, and how many more there are
abbrev pub refused_json : ToldRefusal → List ℕ
refused_json r = object (head (codes "refused") (codes "null") (codes "null"))
    (json_faults r.told) (tail (untold r) (codes "null"))

-- the object of one that has too much of a kind
abbrev pub too_many_json : CountKind → List ℕ
too_many_json kind =
    object (head (codes "refused") (codes "null") (json_string (count_word kind))) []
    (tail 0 (codes "null"))

-- the object where there is no verdict, with the reason as a string
abbrev pub unread_json : List ℕ → List ℕ
unread_json words =
    object (head (codes "none") (codes "null") (codes "null")) [] (tail 0 (json_string words))
