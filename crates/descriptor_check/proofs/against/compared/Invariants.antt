use Rattle.std.proofs.Common.{◌≡◌, take, flat_map}
use Rattle.descriptor_check.specs.Against.{compared_with}
use Rattle.descriptor_check.proofs.against.compared.Given as goal

-- the older versions so far are compared
abbrev pub invariant-loop-older : goal.invariant-loop-older
invariant-loop-older l = l.told.items ≡ flat_map (compared_with l.wanted l.pool) (take l.older-index l.olders)
