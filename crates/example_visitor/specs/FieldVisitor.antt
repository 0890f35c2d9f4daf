-- The fields among what files declare.
use Rattle.std.specs.Prelude.{ℕ, Bool, List, length, map, max}
use Rattle.std.specs.List.{filter, fold}
use Rattle.std.specs.Option.{is_some}
use Rattle.record_walk.specs.declared.declaration.Declaration.{Declaration}
use Rattle.record_walk.specs.Declaration.{declaration_of}
use Rattle.record_walk.specs.Protos.{as_field}
use Rattle.record_walk.specs.Shown.{Shown}

-- whether a declaration is a field of a message
abbrev pub is_field : Shown → Bool
is_field d = is_some (as_field d.proto)

-- the fields among declarations, in order, each without its record
abbrev pub fields_in : List Shown → List Declaration
fields_in ds = map declaration_of (filter is_field ds)

-- the length of the longest path of a list of declarations, or 0 where there is none
abbrev pub longest_path : List Declaration → ℕ
longest_path ds = fold (λ longest d. max longest (length d.path)) 0 ds
