-- The parts of a name, between its dots.
use Rattle.std.specs.Prelude.{ℕ, List, [], ◌==◌}
use Rattle.std.specs.List.{slice_split, join_with_byte}
use Rattle.std.specs.declared.option.Option.{Option}
use Rattle.std.specs.declared.option.Option.TheVariants.{None, Some}
use denote.Ref.{Bor}

-- the parts of a name, from the first to the last
abbrev pub parts : List ℕ → List (List ℕ)
parts name = slice_split (λ byte. byte == 46) name

-- the name whose parts they are
abbrev pub name_of : List (List ℕ) → List ℕ
name_of parts = join_with_byte 46 parts

-- the parts of what is left of a name
abbrev pub parts_left : Option (Bor (List ℕ)) → List (List ℕ)
parts_left None = []
parts_left (Some name) = parts name.now
