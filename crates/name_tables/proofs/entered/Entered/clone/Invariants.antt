use Rattle.std.proofs.Common.{◌≡◌, take}
use Rattle.name_tables.proofs.entered.Entered.clone.Given as goal

-- the values so far are copied
abbrev pub invariant-loop-value : goal.invariant-loop-value
invariant-loop-value g l = l.values.items ≡ take l.value-index l.value-items
