-- What bytes look like that are no descriptor set.
use Rattle.std.specs.Prelude.{ℕ, ◌==◌, ◌&&◌, ◌||◌, nat_le, List, [], ◌∷◌, codes, if◌then◌else◌}
use Rattle.std.specs.declared.option.Option.{Option}
use Rattle.std.specs.declared.option.Option.TheVariants.{None, Some}
use Rattle.descriptor_check.specs.declared.guises.Guise.{Guise}
use Rattle.descriptor_check.specs.declared.guises.Guise.TheVariants.{Gzip, Json, Source}

-- what bytes look like that do not begin as gzip does, by the first: a brace, a small letter or a
-- slash
abbrev pub text_guise : ℕ → Option Guise
text_guise c = if c == 123 then Some Json
    else (if (nat_le 97 c && nat_le c 122) || c == 47 then Some Source else None)

-- what bytes look like, by the first two
abbrev pub guise_of : List ℕ → Option Guise
guise_of [] = None
guise_of (c ∷ []) = text_guise c
guise_of (c ∷ d ∷ _) = if c == 31 && d == 139 then Some Gzip else text_guise c

-- the words for it
abbrev pub guise_words : Guise → List ℕ
guise_words Gzip = codes "a file that gzip compressed"
guise_words Json = codes "JSON"
guise_words Source = codes "a source"
