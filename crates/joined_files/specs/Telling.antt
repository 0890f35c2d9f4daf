-- Unequal files as they are told.
use Rattle.std.specs.Prelude.{ℕ, List, ◌++◌, codes, length, map, take}
use Rattle.std.specs.declared.option.Option.TheVariants.{None, Some}
use Rattle.joined_files.specs.declared.unequal.UnequalFile.{UnequalFile}
use Rattle.verdict_texts.specs.declared.refused.ToldRefusal.{ToldRefusal}
use Rattle.verdict_texts.specs.declared.telling.ToldFault.{ToldFault}
use Rattle.verdict_texts.specs.declared.telling.ToldPlace.{ToldPlace}

-- that two sets have unequal files of a name, and where these differ first
abbrev pub unequal_words : UnequalFile → List ℕ
unequal_words u = u.first ++ (codes " and " ++ (u.further
    ++ (codes " have unequal copies: " ++ u.part)))

-- where an unequal file stands: at the first part that differs
abbrev pub unequal_place : UnequalFile → ToldPlace
unequal_place u = record { file = u.name; position = None; path = u.path; element = None }

-- an unequal file as a fault
abbrev pub unequal_fault : UnequalFile → ToldFault
unequal_fault u = record {
  code = codes "UnequalFile";
  message = unequal_words u;
  place = Some (unequal_place u);
  second = None;
  note = codes "give one of them";
}

-- unequal files as a refusal: so many of them at most, and how many there are
abbrev pub told_unequal : List UnequalFile → ℕ → ToldRefusal
told_unequal us most = record { told = map unequal_fault (take most us); count = length us }

-- that an unequal file is passed over
abbrev pub passed_words : UnequalFile → List ℕ
passed_words u = u.further ++ (codes ": " ++ (u.name ++ (codes " is passed over, since "
    ++ (u.first ++ (codes " has another: " ++ u.part)))))
