-- A fault as lines for people.
use Rattle.std.specs.Prelude.{ℕ, List, [], ◌++◌, codes}
use Rattle.std.specs.Fmt.{signed_decimal}
use Rattle.std.specs.Option.{option_map_or}
use Rattle.std.specs.declared.option.Option.{Option}
use Rattle.verdict_texts.specs.Lines.{line}
use Rattle.verdict_texts.specs.declared.telling.Position.{Position}
use Rattle.verdict_texts.specs.declared.telling.ToldFault.{ToldFault}
use Rattle.verdict_texts.specs.declared.telling.ToldPlace.{ToldPlace}
use Rattle.verdict_texts.specs.declared.telling.ToldSecond.{ToldSecond}

-- a line and a column of a file
abbrev pub position_words : List ℕ → Position → List ℕ
position_words file at =
    file ++ (codes ":" ++ (signed_decimal at.line ++ (codes ":" ++ signed_decimal at.column)))

-- the full name of an element of a file
abbrev pub element_words : List ℕ → List ℕ → List ℕ
element_words file element = file ++ (codes ": " ++ element)

-- the element of a place, or else its file alone
abbrev pub named_words : ToldPlace → List ℕ
named_words place = option_map_or (element_words place.file) place.element place.file

-- where something stands: line and column, or else the element, or else the file alone
abbrev pub place_words : ToldPlace → List ℕ
place_words place = option_map_or (position_words place.file) place.position (named_words place)

-- where a fault stands, if it shows a place, and its text
abbrev pub fault_words : ToldFault → List ℕ
fault_words told = option_map_or (λ place. place_words place ++ (codes ": " ++ told.message))
    told.place told.message

-- the element of a place, in brackets, if there is one and the line does not tell it
abbrev pub bracketed_words : ToldPlace → List ℕ
bracketed_words place = option_map_or
    (λ _. option_map_or (λ name. codes " ('" ++ (name ++ codes "')")) place.element [])
    place.position []

-- where the second place of a fault stands
abbrev pub second_words : ToldSecond → List ℕ
second_words second = codes "  note: " ++ (second.words ++ (place_words second.place
    ++ bracketed_words second.place))

-- the line of the second place, if there is one
abbrev pub second_line : Option ToldSecond → List ℕ
second_line second = option_map_or (λ s. line (second_words s)) second []

-- what is told beside a fault
abbrev pub note_words : ToldFault → List ℕ
note_words told = codes "  note: " ++ told.note

-- the lines of a fault
unfoldable pub fault_lines : ToldFault → List ℕ
fault_lines told = line (fault_words told) ++ (second_line told.second ++ line (note_words told))
