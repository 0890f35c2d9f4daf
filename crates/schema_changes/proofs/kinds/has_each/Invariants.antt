use Rattle.std.proofs.Common.{◌≡◌, true, take}
use Rattle.std.specs.List.{list_all}
use Rattle.schema_changes.specs.Parts.{has_value}
use Rattle.schema_changes.proofs.kinds.has_each.Given as goal

-- the numbers so far are there
abbrev pub invariant-loop-position : goal.invariant-loop-position
invariant-loop-position l = list_all (λ v. has_value l.values v.number) (take l.position l.others) ≡ true
