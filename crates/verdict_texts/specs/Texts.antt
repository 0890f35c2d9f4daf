-- A fault as one text of several lines, for formats that have a place for one text alone.
use Rattle.std.specs.Prelude.{ℕ, pos, ◌&&◌, int_lt, List, [], ◌∷◌, ◌++◌, codes, if◌then◌else◌}
use Rattle.std.specs.Fmt.{signed_decimal}
use Rattle.std.specs.Option.{option_map_or, option_and_then}
use Rattle.std.specs.declared.option.Option.{Option}
use Rattle.std.specs.declared.option.Option.TheVariants.{None, Some}
use Rattle.verdict_texts.specs.declared.telling.Position.{Position}
use Rattle.verdict_texts.specs.declared.telling.ToldFault.{ToldFault}
use Rattle.verdict_texts.specs.declared.telling.ToldPlace.{ToldPlace}
use Rattle.verdict_texts.specs.declared.telling.ToldSecond.{ToldSecond}

-- a position whose line and column count from 1
abbrev pub counted_from_1 : Position → Option Position
counted_from_1 at = if int_lt (pos 0) at.line && int_lt (pos 0) at.column then Some at else None

-- where something begins in its file, if that is known
abbrev pub position_of : ToldPlace → Option Position
position_of place = option_and_then counted_from_1 place.position

-- a line and a column behind a file
abbrev pub position_words : Position → List ℕ
position_words at =
    codes ":" ++ (signed_decimal at.line ++ (codes ":" ++ signed_decimal at.column))

-- a file, and where something begins in it, if that is known
abbrev pub place_words : ToldPlace → List ℕ
place_words place = place.file ++ option_map_or position_words (position_of place) []

-- the element of a place, before a text
abbrev pub element_words : Option (List ℕ) → List ℕ
element_words element = option_map_or (λ name. name ++ codes ": ") element []

-- the element of a place whose position is not known, before a text
abbrev pub named_words : ToldPlace → List ℕ
named_words place = option_map_or (λ _. []) (position_of place) (element_words place.element)

-- the text of a fault, with the element where the source is not known
abbrev pub headline : ToldFault → List ℕ
headline told = option_map_or named_words told.place [] ++ told.message

-- where the second place of a fault stands
abbrev pub second_words : ToldSecond → List ℕ
second_words second = second.words ++ place_words second.place

-- the line of the second place, if there is one
abbrev pub second_line : Option ToldSecond → List ℕ
second_line second = option_map_or (λ s. 10 ∷ second_words s) second []

-- a fault: its text, its second place, and what is told beside it, each on a line
unfoldable pub told_text : ToldFault → List ℕ
told_text told = headline told ++ (second_line told.second ++ 10 ∷ told.note)
