use Rattle.std.proofs.Common.{◌≡◌, take}
use Rattle.plain_data.specs.Each.{map_enumerated}
use Rattle.field_rules.specs.Oneofs.{members}
use Rattle.field_rules.proofs.oneofs.members.Given as goal

-- the fields so far stand in the lists of their oneofs
abbrev pub invariant-loop-position : goal.invariant-loop-position
invariant-loop-position l = l.lists.items ≡ map_enumerated (λ oneof _. members (take l.position l.fields) oneof) 0 l.oneofs
