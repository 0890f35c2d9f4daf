use Rattle.std.proofs.Common.{◌≡◌, map as each}
use Rattle.std.specs.FinMap.{from_entries}
use Rattle.std.specs.Map.Iter.{deref_pair}
use Rattle.plain_data.specs.Maps.{texts}
use Rattle.name_tables.proofs.hashed_names.HashedNamesNameTable.clone.Given as goal

abbrev pub invariant-loop-name : goal.invariant-loop-name
invariant-loop-name l = l.copy ≡ from_entries (texts (each deref_pair l.yielded))
