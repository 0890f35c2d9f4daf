-- Faults as annotations of GitHub's workflow commands, each on a line.
use Rattle.std.specs.Prelude.{◌≡◌, ℕ, zero, suc, true, List, [], ◌∷◌, ◌++◌, codes}
use Rattle.std.specs.Fmt.{decimal, signed_decimal}
use Rattle.std.specs.List.{flat_map}
use Rattle.std.specs.Option.{option_map_or}
use Rattle.verdict_texts.specs.Lines.{ends_once}
use Rattle.verdict_texts.specs.declared.telling.Position.{Position}
use Rattle.verdict_texts.specs.declared.telling.ToldFault.{ToldFault}
use Rattle.verdict_texts.specs.declared.telling.ToldPlace.{ToldPlace}
use Rattle.verdict_texts.specs.Percent.{message, property}
use Rattle.verdict_texts.specs.Texts.{position_of, told_text}

-- a line and a column, as two properties
abbrev pub position_properties : Position → List ℕ
position_properties at =
    codes ",line=" ++ (signed_decimal at.line ++ (codes ",col=" ++ signed_decimal at.column))

-- a file, and where something begins in it, if that is known, as properties before another
abbrev pub place_properties : ToldPlace → List ℕ
place_properties place = codes "file=" ++ (property place.file
    ++ (option_map_or position_properties (position_of place) [] ++ codes ","))

-- an annotation: the place of the fault, if it shows one, its kind as the title, and its text
unfoldable pub annotation : ToldFault → List ℕ
annotation told = codes "::error " ++ (option_map_or place_properties told.place []
    ++ (codes "title=" ++ (property told.code ++ (codes "::"
    ++ (message (told_text told) ++ 10 ∷ [])))))

-- how many faults are not told, if any, as an annotation
abbrev pub more_annotation : ℕ → List ℕ
more_annotation zero = []
more_annotation (suc n) =
    codes "::error title=More::" ++ (decimal (suc n) ++ codes " faults more are not told\n")

-- the annotations of faults, and how many are not told
abbrev pub annotations : List ToldFault → ℕ → List ℕ
annotations told more = flat_map annotation told ++ more_annotation more

-- law: an annotation has one line feed, its last byte
abbrev pub AnnotationsEndOnce : Type 0
AnnotationsEndOnce = (told : ToldFault) → ends_once (annotation told) ≡ true
