-- The words of a program's arguments, and what contracts see of a machine that it runs on with them.
use Rattle.std.specs.Prelude.{ℕ, List, [], ◌∷◌}
use Rattle.std.specs.declared.option.Option.TheVariants.{Some}
use Rattle.descriptor_check.specs.Devices.{Devices, untold}

-- the words of arguments: all but the first, which is the name of the program
abbrev pub words_of : List (List ℕ) → List (List ℕ)
words_of [] = []
words_of (name ∷ words) = words

-- what contracts see of a machine on which a program has arguments: their words, and nothing else
abbrev pub called_with : List (List ℕ) → Devices
called_with arguments = record untold { words = Some (words_of arguments) }
