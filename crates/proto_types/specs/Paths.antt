-- Paths: field numbers and positions, from a file to what stands in it (descriptor.proto's
-- `SourceCodeInfo.Location.path`).
use Rattle.std.specs.Prelude.{ℕ, ℤ, pos, List, [], ◌∷◌, ◌++◌}

-- the path of an entry of a list: the path of what has the list, the list's field number, and the
-- entry's position
abbrev pub entry_path : List ℤ → ℤ → ℕ → List ℤ
entry_path path tag position = path ++ tag ∷ pos position ∷ []
