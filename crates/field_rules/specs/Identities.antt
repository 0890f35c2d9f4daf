-- Where a declaration stands that has a name, as a pool keeps it.
use Rattle.std.specs.Prelude.{ℕ, ◌-◌, ℤ, List, length, take}
use Rattle.pool_types.specs.declared.contents.definition.Identity.{Identity}
use Rattle.record_walk.specs.Protos.{name_of}
use Rattle.record_walk.specs.Shown.{Shown}

-- the identity of what has a name, by its file, its path and its full name: the name begins in the
-- full name so many bytes before its end
abbrev pub named_at : ℕ → List ℤ → List ℕ → List ℕ → Identity
named_at file path full_name name = record {
  file = file;
  path = path;
  full_name = full_name;
  name_index = length full_name - length name;
}

-- the identity of a declaration: where it stands, its full name, and where its own name begins
-- there
abbrev pub identity : Shown → Identity
identity d = named_at d.file d.path d.full_name (name_of d.proto)

-- a text without its ending
abbrev pub before_ending : List ℕ → List ℕ → List ℕ
before_ending text ending = take (length text - length ending) text
