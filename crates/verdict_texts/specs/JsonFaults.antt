-- A fault as an object of JSON, by its pieces.
use Rattle.std.specs.Prelude.{ℕ, ℤ, List, [], ◌∷◌, ◌++◌, codes}
use Rattle.std.specs.Fmt.{signed_decimal}
use Rattle.std.specs.List.{flat_map}
use Rattle.std.specs.Option.{option_map_or}
use Rattle.std.specs.declared.option.Option.{Option}
use Rattle.verdict_texts.specs.JsonStrings.{json_string}
use Rattle.verdict_texts.specs.declared.telling.Position.{Position}
use Rattle.verdict_texts.specs.declared.telling.ToldFault.{ToldFault}
use Rattle.verdict_texts.specs.declared.telling.ToldPlace.{ToldPlace}
use Rattle.verdict_texts.specs.declared.telling.ToldSecond.{ToldSecond}

-- numbers as an array
abbrev pub json_numbers : List ℤ → List ℕ
json_numbers [] = codes "[]"
json_numbers (n ∷ ns) =
    91 ∷ (signed_decimal n ++ (flat_map (λ m. 44 ∷ signed_decimal m) ns ++ 93 ∷ []))

-- a text that may be missing, as a string or null
abbrev pub json_text : Option (List ℕ) → List ℕ
json_text text = option_map_or json_string text (codes "null")

-- a line and a column, as two members of an object
abbrev pub json_line : Position → List ℕ
json_line at =
    codes "\"line\":"
    ++ (signed_decimal at.line ++ (codes ",\"column\":" ++ signed_decimal at.column))

-- the same, or two nulls
abbrev pub json_position : Option Position → List ℕ
json_position position = option_map_or json_line position (codes "\"line\":null,\"column\":null")

-- a file, and where something begins in it, as three members of an object
abbrev pub json_start : ToldPlace → List ℕ
json_start place =
    codes "\"file\":" ++ (json_string place.file ++ (codes "," ++ json_position place.position))

-- where something stands, as five members of an object
abbrev pub json_members : ToldPlace → List ℕ
json_members place =
    json_start place ++ (codes ",\"path\":" ++ (json_numbers place.path
    ++ (codes ",\"element\":" ++ json_text place.element)))

-- the same, or five nulls
abbrev pub json_place : Option ToldPlace → List ℕ
json_place place = option_map_or json_members place
    (codes "\"file\":null,\"line\":null,\"column\":null,\"path\":null,\"element\":null")

-- the second place of a fault, as an array of at most one object
abbrev pub json_second : Option ToldSecond → List ℕ
json_second second = option_map_or
    (λ s. codes "[{" ++ (json_members s.place ++ codes "}]")) second (codes "[]")

-- the code and the text of a fault, as two members of an object
abbrev pub json_head : ToldFault → List ℕ
json_head told =
    codes "\"code\":\"" ++ (told.code ++ (codes "\",\"message\":" ++ json_string told.message))

-- the second place of a fault, and what is told beside it, as two members of an object
abbrev pub json_tail : ToldFault → List ℕ
json_tail told =
    codes "\"related\":"
    ++ (json_second told.second ++ (codes ",\"note\":" ++ json_string told.note))

-- a fault: its code, its text, where it stands, its second place, and what is told beside it
unfoldable pub json_fault : ToldFault → List ℕ
json_fault told =
    codes "{" ++ (json_head told ++ (codes "," ++ (json_place told.place
    ++ (codes "," ++ (json_tail told ++ codes "}")))))
