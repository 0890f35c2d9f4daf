-- Faults as a report of GitLab's code quality: an array of objects of JSON.
use Rattle.std.specs.Prelude.{ℕ, List, [], ◌∷◌, ◌++◌, codes, map}
use Rattle.std.specs.Fmt.{signed_decimal}
use Rattle.std.specs.List.{flat_map}
use Rattle.std.specs.Option.{option_map_or}
use Rattle.std.specs.declared.option.Option.{Option}
use Rattle.verdict_texts.specs.declared.telling.ToldFault.{ToldFault}
use Rattle.verdict_texts.specs.declared.telling.ToldPlace.{ToldPlace}
use Rattle.verdict_texts.specs.Fingerprints.{Marked, apart}
use Rattle.verdict_texts.specs.Members.{key, next_key, text_member, next_text_member}
use Rattle.verdict_texts.specs.Texts.{position_of, told_text}

-- the file and the path of a place, each number behind a space
abbrev pub place_mark : ToldPlace → List ℕ
place_mark place = codes " " ++ (place.file ++ flat_map (λ n. 32 ∷ signed_decimal n) place.path)

-- the mark of a fault: its kind, its file, its path and its text, but not its line
unfoldable pub fault_mark : ToldFault → List ℕ
fault_mark told =
    told.code ++ (option_map_or place_mark told.place [] ++ (codes " " ++ told.message))

-- the name of the file of a fault, which is empty where it shows none
abbrev pub file_of : Option ToldPlace → List ℕ
file_of place = option_map_or (λ p. p.file) place []

-- the line of a place, 1 where none is known
abbrev pub place_line : ToldPlace → List ℕ
place_line place =
    option_map_or (λ at. signed_decimal at.line) (position_of place) (codes "1")

-- the line of a fault, 1 where none is known
abbrev pub line_of : Option ToldPlace → List ℕ
line_of place = option_map_or place_line place (codes "1")

-- the text of a fault, and its kind, as the first members of an object
unfoldable pub quality_head : ToldFault → List ℕ
quality_head told = codes "{" ++ (text_member (codes "description") (told_text told)
    ++ next_text_member (codes "check_name") told.code)

-- the line of a fault, as an object
unfoldable pub quality_lines : Option ToldPlace → List ℕ
quality_lines place = codes "{" ++ (key (codes "begin") ++ (line_of place ++ codes "}"))

-- the file and the line of a fault, as an object
unfoldable pub quality_location : Option ToldPlace → List ℕ
quality_location place = codes "{" ++ (text_member (codes "path") (file_of place)
    ++ (next_key (codes "lines") ++ (quality_lines place ++ codes "}")))

-- how severe a fault is, as a further member
unfoldable pub quality_severity : List ℕ
quality_severity = next_text_member (codes "severity") (codes "critical")

-- where a fault stands, as a further member
unfoldable pub quality_place : Option ToldPlace → List ℕ
quality_place place = next_key (codes "location") ++ quality_location place

-- a fault as an object: its text, its kind, its mark, how severe it is, and where it stands
unfoldable pub quality_object : Marked → List ℕ
quality_object one =
    quality_head one.told ++ (next_text_member (codes "fingerprint") one.mark
    ++ (quality_severity ++ (quality_place one.told.place ++ codes "}")))

-- objects with a comma between each two
abbrev pub quality_objects : List Marked → List ℕ
quality_objects [] = []
quality_objects (one ∷ all) = quality_object one ++ flat_map (λ next. 44 ∷ quality_object next) all

-- the report of faults or changes by their marks
abbrev pub quality_of : List Marked → List ℕ
quality_of all = codes "[" ++ (quality_objects (apart all) ++ codes "]\n")

-- a fault and its mark
abbrev pub marked_fault : ToldFault → Marked
marked_fault told = record { mark = fault_mark told; told = told }

-- the report of faults
abbrev pub quality : List ToldFault → List ℕ
quality told = quality_of (map marked_fault told)
