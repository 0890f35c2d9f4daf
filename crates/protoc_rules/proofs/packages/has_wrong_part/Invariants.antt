use Rattle.std.proofs.Common.{◌≡◌, map, take}
use Rattle.protoc_rules.specs.Packages.{has_wrong_part}
use Rattle.protoc_rules.proofs.packages.has_wrong_part.Given as goal

-- whether one of the parts so far is wrong
abbrev pub invariant-loop-part : goal.invariant-loop-part
invariant-loop-part l = l.wrong ≡ has_wrong_part (map (λ part. part.now) (take l.part-index l.parts))
