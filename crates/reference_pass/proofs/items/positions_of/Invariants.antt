use Rattle.std.proofs.Common.{take}
use Rattle.reference_pass.specs.Numbered.{LeadsToFirst}
use Rattle.reference_pass.proofs.items.positions_of.Given as goal

-- the extensions so far are entered
abbrev pub invariant-loop-position : goal.invariant-loop-position
invariant-loop-position l = LeadsToFirst (take l.position l.extensions) l.positions
