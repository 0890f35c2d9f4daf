use Rattle.std.proofs.Common.{◌≡◌, map, take}
use Rattle.std.specs.List.{enumerate_from}
use Rattle.proto_types.specs.Readers.{number_of}
use Rattle.field_rules.proofs.enum_tables.numbered.Given as goal

-- the values so far, in the order of positions
abbrev pub invariant-loop-position : goal.invariant-loop-position
invariant-loop-position l = l.pairs.items ≡ map (λ e. (number_of e.1.number, e.0)) (enumerate_from 0 (take l.position l.values))
