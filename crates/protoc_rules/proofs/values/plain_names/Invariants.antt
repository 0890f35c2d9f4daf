use Rattle.std.proofs.Common.{◌≡◌, false, map, take}
use Rattle.pool_types.specs.LookUps.{declared_name}
use Rattle.protoc_rules.specs.Maps.{camel_case}
use Rattle.protoc_rules.specs.Values.{plain_name}
use Rattle.protoc_rules.proofs.values.plain_names.Given as goal

abbrev pub invariant-loop-value : goal.invariant-loop-value
invariant-loop-value l = l.names ≡ map (plain_name (camel_case false (declared_name l.enumeration.id))) (take l.value-index l.values)
