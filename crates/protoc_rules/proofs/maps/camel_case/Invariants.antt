use Rattle.std.proofs.Common.{◌≡◌, ◌++◌, drop}
use Rattle.protoc_rules.specs.Maps.{camel_case}
use Rattle.protoc_rules.proofs.maps.camel_case.Given as goal

-- the name so far in camel case, and the rest of it, are the whole
abbrev pub invariant-loop-byte : goal.invariant-loop-byte
invariant-loop-byte l = l.camel.items ++ camel_case l.capital (drop l.byte-index l.name) ≡ camel_case l.initial.capital l.name
