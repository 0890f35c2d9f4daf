-- What breaks a rule, and where.
use Rattle.std.specs.Prelude.{ℕ, ℤ, List, [], ◌∷◌, ◌++◌, slice_get}
use Rattle.std.specs.List.{enumerate_from, flat_map}
use Rattle.std.specs.Option.{option_map, option_map_or}
use Rattle.std.specs.declared.option.Option.{Option}
use Rattle.std.specs.declared.option.Option.TheVariants.{None, Some}
use Rattle.proto_types.specs.Paths.{entry_path}
use Rattle.pool_types.specs.declared.contents.definition.Identity.{Identity}
use Rattle.protoc_rules.specs.declared.faults.Entry.{Entry}
use Rattle.protoc_rules.specs.declared.faults.StrictFault.{StrictFault}
use Rattle.protoc_rules.specs.declared.faults.StrictKind.{StrictKind}

-- a fault at the part of a declaration with a field number
abbrev pub at_part : StrictKind → Identity → ℤ → StrictFault
at_part kind id tag = record {
  kind = kind;
  file = id.file;
  path = id.path ++ tag ∷ [];
  second = None;
  element = id.full_name;
}

-- the path of an entry of a declaration
abbrev pub entry_in : Identity → Entry → List ℤ
entry_in id e = entry_path id.path e.tag e.position

-- a fault at an entry of a declaration, with a second entry if there is one
abbrev pub at_entry : StrictKind → Identity → Entry → Option Entry → StrictFault
at_entry kind id e second = record {
  kind = kind;
  file = id.file;
  path = entry_in id e;
  second = option_map (entry_in id) second;
  element = id.full_name;
}

-- the entry of the list with a field number
abbrev pub entry : ℤ → ℕ → Entry
entry tag position = record { tag = tag; position = position }

-- the entry with a position of the list with a field number, if there is one
abbrev pub entry_at : ℤ → Option ℕ → Option Entry
entry_at tag at = option_map (entry tag) at

-- a fault at an entry of a declaration, where there is a second one
abbrev pub pair_faults : StrictKind → Identity → Entry → Option Entry → List StrictFault
pair_faults kind id e None = []
pair_faults kind id e (Some second) = at_entry kind id e (Some second) ∷ []

-- what a function of positions tells of the entries of a list, one entry after another
abbrev pub each_told : {X Y : Type 0} → (ℕ → X → List Y) → List X → List Y
each_told tell xs = flat_map (λ e. tell e.0 e.1) (enumerate_from 0 xs)

-- what it tells of the entry with a position, if there is one
abbrev pub told_at : {X Y : Type 0} → (ℕ → X → List Y) → List X → ℕ → List Y
told_at tell xs n = option_map_or (tell n) (slice_get xs n) []
