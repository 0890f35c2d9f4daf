use Rattle.std.proofs.Common.{◌≡◌, map, take}
use Rattle.pool_changes.specs.Comparing.{told_changes}
use Rattle.pool_changes.proofs.comparing.tell_changes.Given as goal

-- the directions so far are told
abbrev pub invariant-loop-direction : goal.invariant-loop-direction
invariant-loop-direction l = l.told.items ≡ map
    (λ d. told_changes (record { direction = d; old = l.old; new = l.new }) l.level l.against l.most)
    (take l.direction-index l.directions)
