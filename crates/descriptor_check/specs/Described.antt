-- What names mean in a pool, and what is told of those that mean nothing.
use Rattle.std.specs.Prelude.{ℕ, List, [], ◌∷◌, ◌++◌, codes}
use Rattle.std.specs.List.{flat_map}
use Rattle.pool_descriptions.specs.Named.{name_text}
use Rattle.pool_types.specs.Contents.{Contents}
use Rattle.descriptor_check.specs.Complaints.{complaint}

-- what names mean, in order
abbrev pub described : Contents → List (List ℕ) → List ℕ
described p names = flat_map (name_text p) names

-- what is wrong with a name that means nothing, and what to do
abbrev pub unknown_words : List ℕ → List ℕ
unknown_words name = codes "--describe '" ++ (name
    ++ codes "': nothing has this full name, and no file; --list shows the names")

-- a line of complaint of a name by what it means, if that is nothing
abbrev pub unknown_by : List ℕ → List ℕ → List ℕ
unknown_by name [] = complaint (unknown_words name)
unknown_by name (_ ∷ _) = []

-- a line of complaint of a name, if it means nothing in a pool
abbrev pub unknown_line : Contents → List ℕ → List ℕ
unknown_line p name = unknown_by name (name_text p name)

-- a line of complaint of each name that means nothing in a pool
abbrev pub unknown_names : Contents → List (List ℕ) → List ℕ
unknown_names p names = flat_map (unknown_line p) names
