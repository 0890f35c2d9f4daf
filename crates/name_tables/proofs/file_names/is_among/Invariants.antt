use Rattle.std.proofs.Common.{◌<◌, ℕ}
use Rattle.name_tables.specs.FileNames.{IsAmongAt}
use Rattle.name_tables.proofs.file_names.is_among.Given as goal

-- the names so far have their files among the others
abbrev pub invariant-loop-at : goal.invariant-loop-at
invariant-loop-at l = (k : ℕ) → k < l.at → IsAmongAt l.tree l.files l.others k
