-- Faults as a log of SARIF, version 2.1.0: the Static Analysis Results Interchange Format of OASIS.
use Rattle.std.specs.Prelude.{ℕ, List, [], ◌∷◌, ◌++◌, codes}
use Rattle.std.specs.Fmt.{decimal}
use Rattle.std.specs.List.{flat_map}
use Rattle.std.specs.Option.{option_map_or}
use Rattle.std.specs.declared.option.Option.{Option}
use Rattle.verdict_texts.specs.declared.telling.Position.{Position}
use Rattle.verdict_texts.specs.declared.telling.ToldFault.{ToldFault}
use Rattle.verdict_texts.specs.declared.telling.ToldPlace.{ToldPlace}
use Rattle.verdict_texts.specs.declared.telling.ToldSecond.{ToldSecond}
use Rattle.verdict_texts.specs.Members.{key, next_key, text_member, next_text_member}
use Rattle.verdict_texts.specs.Members.{number_member, next_number_member, text_object}
use Rattle.verdict_texts.specs.Percent.{uri}
use Rattle.verdict_texts.specs.Texts.{position_of, second_words, told_text}
use Rattle.verdict_texts.specs.declared.rules.TheConstants.{RULES}

-- where something begins, as a region (section 3.30)
unfoldable pub region : Position → List ℕ
region at = codes "{" ++ (number_member (codes "startLine") at.line
    ++ (next_number_member (codes "startColumn") at.column ++ codes "}"))

-- a region, if there is one, as a further member
abbrev pub region_member : Option Position → List ℕ
region_member position =
    option_map_or (λ at. next_key (codes "region") ++ region at) position []

-- the file of a place (3.4)
unfoldable pub artifact : ToldPlace → List ℕ
artifact place =
    codes "{" ++ (key (codes "uri") ++ (codes "\"" ++ (uri place.file ++ codes "\"}")))

-- a file, and where something begins in it, if that is known, as a physical location (3.29)
unfoldable pub physical : ToldPlace → List ℕ
physical place = codes "{" ++ (key (codes "artifactLocation") ++ (artifact place
    ++ (region_member (position_of place) ++ codes "}")))

-- a full name as a logical location (3.33)
unfoldable pub logical : List ℕ → List ℕ
logical name = codes "[{" ++ (text_member (codes "fullyQualifiedName") name ++ codes "}]")

-- an element, if there is one, as a further member
abbrev pub element_member : Option (List ℕ) → List ℕ
element_member element =
    option_map_or (λ name. next_key (codes "logicalLocations") ++ logical name) element []

-- the members of a location (3.28): the place in a file, and the element, if there is one
unfoldable pub location : ToldPlace → List ℕ
location place =
    key (codes "physicalLocation") ++ (physical place ++ element_member place.element)

-- the place of a fault, as a location
abbrev pub place_location : ToldPlace → List ℕ
place_location place = codes "{" ++ (location place ++ codes "}")

-- the second place of a fault, as a related location with its words
unfoldable pub second_location : ToldSecond → List ℕ
second_location second = codes "{" ++ (location second.place ++ (next_key (codes "message")
    ++ (text_object (second_words second) ++ codes "}")))

-- the kind of a fault and its text, as the first members of a result (3.27)
unfoldable pub result_head : ToldFault → List ℕ
result_head told = codes "{" ++ (text_member (codes "ruleId") told.code
    ++ (next_text_member (codes "level") (codes "error")
    ++ (next_key (codes "message") ++ text_object (told_text told))))

-- the place of a fault, if it shows one, as a member
unfoldable pub locations : Option ToldPlace → List ℕ
locations place = next_key (codes "locations")
    ++ (codes "[" ++ (option_map_or place_location place [] ++ codes "]"))

-- the second place of a fault, if it has one, as a member
unfoldable pub related : Option ToldSecond → List ℕ
related second = next_key (codes "relatedLocations")
    ++ (codes "[" ++ (option_map_or second_location second [] ++ codes "]"))

-- the first members of a result, with its opening brace: its kind, its text, its place and its
-- second place
unfoldable pub result_members : ToldFault → List ℕ
result_members told = result_head told ++ (locations told.place ++ related told.second)

-- a fault as a result
abbrev pub result_object : ToldFault → List ℕ
result_object told = result_members told ++ codes "}"

-- results with a comma between each two
abbrev pub results : List ToldFault → List ℕ
results [] = []
results (f ∷ fs) = result_object f ++ flat_map (λ g. 44 ∷ result_object g) fs

-- the beginning of a log, with its one run: the tool and its rules
unfoldable pub rules : List ℕ
rules = RULES.now

-- how many faults are not told, as the properties of a run (3.8)
unfoldable pub properties : ℕ → List ℕ
properties more = codes "{" ++ (key (codes "more") ++ (decimal more ++ codes "}"))

-- the log of one run: the rules of the tool, the faults as results, and how many are not told
abbrev pub sarif : List ToldFault → ℕ → List ℕ
sarif told more = rules ++ (next_key (codes "results") ++ (codes "[" ++ (results told
    ++ (codes "]" ++ (next_key (codes "properties") ++ (properties more ++ codes "}]}\n"))))))
